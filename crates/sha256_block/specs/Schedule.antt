-- FIPS 180-4, section 6.2.2, step 1: the message schedule W_0 to W_63 of a block of sixteen words M_0 to M_15.
-- It is a growing list here, a word longer at each step; `W_first` and `W_next` give the standard's two equations for its words.
-- Assumes nothing.
use Rattle.std.specs.Prelude.{◌≡◌, length}
use Rattle.std.proofs.Math.Path.{refl, sym, ap}
use Rattle.std.proofs.Common.{ap₂, ◌∙◌, zero-add, suc-add}
use Prim.Native.Nat.{ℕ, zero, suc, ◌+◌, ◌-◌, ◌≤◌, ◌<◌}
use native.Mathlib.Omega.{arith}
use mathlib.Core.List.{List, [], ◌∷◌, ◌++◌}
use Rattle.std.proofs.Math.ListN.{get_or, length-append, get_or-append}
use Rattle.std.proofs.Math.Seq.{get_or_at}
use Rattle.sha256_words.specs.Words.{◌⊞◌}
use Rattle.sha256_words.specs.Functions.{σ₀, σ₁}

-- for 16 ≤ t: the word after W_{t-16} to W_{t-1}, from four of them
unfoldable pub next_word : ℕ → ℕ → ℕ → ℕ → ℕ
next_word w₋₂ w₋₇ w₋₁₅ w₋₁₆ = σ₁ w₋₂ ⊞ w₋₇ ⊞ σ₀ w₋₁₅ ⊞ w₋₁₆

-- W_0 to W_{15 + n} of a block of sixteen words; the word that is added has t = n + 16
unfoldable pub schedule : List ℕ → ℕ → List ℕ
schedule M zero = M
schedule M (suc n) =
    let w = schedule M n in
    w ++ (next_word (get_or w (n + 14) 0) (get_or w (n + 9) 0) (get_or w (n + 1) 0) (get_or w n 0) ∷ [])

-- the whole schedule, W_0 to W_63
unfoldable pub W : List ℕ → List ℕ
W M = schedule M 48

-- ---- the standard's two equations

module _ (M : List ℕ) (sixteen : length M ≡ 16) where
  length-schedule : (n : ℕ) → length (schedule M n) ≡ 16 + n
  unfolding schedule
  length-schedule zero = omega arith
  length-schedule (suc n) = length-append (schedule M n) _ ∙ omega (arith, length-schedule n)

  -- a word that is there stays there
  stays : (n d j : ℕ) → j < 16 + n → get_or (schedule M (d + n)) j 0 ≡ get_or (schedule M n) j 0
  unfolding schedule
  stays n zero j there = ap (λ (m : ℕ). get_or (schedule M m) j 0) (zero-add n)
  stays n (suc d) j there =
      ap (λ (m : ℕ). get_or (schedule M m) j 0) (suc-add d n)
      ∙ get_or-append (schedule M (d + n)) _ 0 j (omega (arith, length-schedule (d + n)))
      ∙ stays n d j there

  among : (n i j : ℕ) → n ≤ 48 → i < 16 + n → i ≡ j → get_or (schedule M n) i 0 ≡ get_or (schedule M 48) j 0
  among n i j some there same =
      let all : 48 - n + n ≡ 48 = omega arith in
      sym (stays n (48 - n) i there) ∙ ap₂ (λ (m x : ℕ). get_or (schedule M m) x 0) all same

  -- W_t = M_t for 0 ≤ t ≤ 15
  pub W_first : (t : ℕ) → t < 16 → get_or (W M) t 0 ≡ get_or M t 0
  unfolding W schedule
  W_first t early = stays 0 48 t early

  -- W_t = σ1(W_{t-2}) + W_{t-7} + σ0(W_{t-15}) + W_{t-16} for 16 ≤ t ≤ 63
  pub W_next : (t : ℕ) → 16 ≤ t → t < 64
      → get_or (W M) t 0 ≡ σ₁ (get_or (W M) (t - 2) 0) ⊞ get_or (W M) (t - 7) 0 ⊞ σ₀ (get_or (W M) (t - 15) 0) ⊞ get_or (W M) (t - 16) 0
  unfolding W schedule next_word
  W_next t late early =
      let n = t - 16 in
      let new : get_or (schedule M (suc n)) t 0 ≡ next_word (get_or (schedule M n) (n + 14) 0) (get_or (schedule M n) (n + 9) 0) (get_or (schedule M n) (n + 1) 0) (get_or (schedule M n) n 0) =
      get_or_at (schedule M n) _ [] 0 t (omega (arith, length-schedule n)) in
      let two = among n (n + 14) (t - 2) (omega arith) (omega arith) (omega arith) in
      let seven = among n (n + 9) (t - 7) (omega arith) (omega arith) (omega arith) in
      let fifteen = among n (n + 1) (t - 15) (omega arith) (omega arith) (omega arith) in
      let last = among n n (t - 16) (omega arith) (omega arith) refl in
      sym (among (suc n) t t (omega arith) (omega arith) refl) ∙ new ∙ cc (two, seven, fifteen, last)
