-- The MAC from a prepared key is FIPS 198-1's: each pad is one block, and the hashes go on behind it. Assumes nothing.
use mathlib.Core.Path.{◌≡◌, refl, sym, ap, ap₂, ◌∙◌}
use mathlib.Core.Bool.{Bool, true, false, cond}
use Prim.Native.Nat.{ℕ, ◌-◌, ◌≤◌, ◌<◌}
use native.Mathlib.Omega.{arith}
use mathlib.Core.List.{List, [], ◌++◌, append-nil}
use lib.ListN.{length, replicate, length-append, length-replicate}
use lib.Dec.{eqb, ltb}
use borrow.Author.Tests.{eqb-true, ne_eqb, le-ltb, lt-ltb}
use native.Mathlib.Nat.{lt_of_not-le}
use native.Mathlib.Decide.{dec_le}
use Rattle.sha256.specs.Computation.{hashes, sha256}
use Rattle.sha256.specs.Continued.{sha256_after}
use Rattle.sha256.proofs.ContinuedLaws.{sha256_after_lem}
use Rattle.sha256.proofs.DigestLaws.{length-sha256}
use Rattle.hmac.specs.declared.Prepared.{Prepared}
use Rattle.hmac.specs.Hmac.{B, L, K₀, ipad, opad, ◌⊕◌, hmac}
use Rattle.hmac.specs.Preparation.{after_block, halves, prepared_of, mac_of}
use Rattle.hmac.proofs.Pads.{length-xor}

-- ---- K₀

module _ (K : List ℕ) where
  hashed : List ℕ
  hashed = sha256 K ++ replicate (B - L) 0

  zeroed : List ℕ
  zeroed = K ++ replicate (B - length K) 0

  by_size : (b c : Bool) → eqb (length K) B ≡ b → ltb B (length K) ≡ c → K₀ K ≡ cond b K (cond c hashed zeroed)
  unfolding K₀ hashed zeroed
  by_size b c same longer = ap₂ (λ (s t : Bool). cond s K (cond t hashed zeroed)) same longer

  -- a key of at most a block: zeros up to a block, none where it is one
  pub K₀_short : length K ≤ B → K₀ K ≡ K ++ replicate (B - length K) 0
  unfolding zeroed
  K₀_short short = go (eqb (length K) B) refl
    where
      go : (b : Bool) → eqb (length K) B ≡ b → K₀ K ≡ K ++ replicate (B - length K) 0
      go true same =
          let none : 0 ≡ B - length K = omega (arith, eqb-true (length K) B same) in
          by_size true false same (le-ltb B (length K) short) ∙ sym (append-nil K) ∙ ap (λ (n : ℕ). K ++ replicate n 0) none
      go false other = by_size false false other (le-ltb B (length K) short)

  -- a longer one: its hash, prepared as a short key is
  pub K₀-hashed : B < length K → K₀ K ≡ sha256 K ++ replicate (B - length (sha256 K)) 0
  unfolding hashed
  K₀-hashed long =
      let other : length K ≡ B → ⊥ = λ e. omega arith in
      by_size false true (ne_eqb (length K) B other) (lt-ltb B (length K) long)
      ∙ ap (λ (n : ℕ). sha256 K ++ replicate (B - n) 0) (sym (length-sha256 K))

pub K₀_long : (K : List ℕ) → B < length K → K₀ K ≡ K₀ (sha256 K)
K₀_long K long = K₀-hashed K long ∙ sym (K₀_short (sha256 K) (omega (arith, length-sha256 K)))

-- K₀ is a block
length_zeroed : (l : List ℕ) → length l ≤ B → length (l ++ replicate (B - length l) 0) ≡ B
length_zeroed l short = omega (arith, length-append l (replicate (B - length l) 0), length-replicate {A = ℕ} (B - length l) 0)

pub length-K₀ : (K : List ℕ) → length (K₀ K) ≡ B
length-K₀ K =
    elim (dec_le (length K) B) [
      | yes short ↦ ap length (K₀_short K short) ∙ length_zeroed K short
      | no long ↦ ap length (K₀-hashed K (lt_of_not-le long)) ∙ length_zeroed (sha256 K) (omega (arith, length-sha256 K))
    ]

-- ---- preparing a key

-- a key of at most a block, from its two pads
pub prepared_short : (K i o : List ℕ) → length K ≤ B → i ≡ after_block ((K ++ replicate (B - length K) 0) ⊕ ipad)
    → o ≡ after_block ((K ++ replicate (B - length K) 0) ⊕ opad) → halves i o ≡ prepared_of K
unfolding prepared_of
prepared_short K i o short p q =
    let e = sym (K₀_short K short) in
    ap₂ halves (p ∙ ap (λ (l : List ℕ). after_block (l ⊕ ipad)) e) (q ∙ ap (λ (l : List ℕ). after_block (l ⊕ opad)) e)

-- a longer one is prepared as its hash is
pub prepared_long : (K : List ℕ) → B < length K → prepared_of (sha256 K) ≡ prepared_of K
unfolding prepared_of
prepared_long K long =
    ap (λ (l : List ℕ). halves (after_block (l ⊕ ipad)) (after_block (l ⊕ opad))) (sym (K₀_long K long))

-- two empty pieces behind a message
pub no_more : (l : List ℕ) → l ++ [] ++ [] ≡ l
no_more l = append-nil (l ++ []) ∙ append-nil l

-- ---- the MAC

-- a hash behind a block
behind : (l m : List ℕ) → length l ≡ B → sha256 (l ++ m) ≡ sha256_after (after_block l) 1 m
unfolding after_block hashes
behind l m one = sha256_after_lem l m 1 one

length-pad : (K : List ℕ) (p : ℕ) → length (K₀ K ⊕ replicate B p) ≡ B
length-pad K p =
    length-xor (K₀ K) B p (omega (arith, length-K₀ K)) ∙ length-K₀ K

pub mac_prepared : (K m : List ℕ) → mac_of (prepared_of K) m ≡ hmac K m
unfolding mac_of prepared_of hmac
mac_prepared K m =
    ap (sha256_after (after_block (K₀ K ⊕ opad)) 1) (sym (behind (K₀ K ⊕ ipad) m (length-pad K 0x36)))
    ∙ sym (behind (K₀ K ⊕ opad) (sha256 (K₀ K ⊕ ipad ++ m)) (length-pad K 0x5c))

-- the MAC under a key of at most a block, from its two pads as they are worked out
pub hmac_short : (K m i d o r : List ℕ) → length K ≤ B → i ≡ after_block ((K ++ replicate (B - length K) 0) ⊕ ipad) → d ≡ sha256_after i 1 m
    → o ≡ after_block ((K ++ replicate (B - length K) 0) ⊕ opad) → r ≡ sha256_after o 1 d → r ≡ hmac K m
unfolding mac_of
hmac_short K m i d o r short p q s t =
    t ∙ ap (sha256_after o 1) q ∙ ap (λ (k : Prepared). mac_of k m) (prepared_short K i o short p s) ∙ mac_prepared K m

-- under a longer one: as under its hash
pub hmac_long : (K m : List ℕ) → B < length K → hmac (sha256 K) m ≡ hmac K m
hmac_long K m long = sym (mac_prepared (sha256 K) m) ∙ ap (λ (k : Prepared). mac_of k m) (prepared_long K long) ∙ mac_prepared K m
