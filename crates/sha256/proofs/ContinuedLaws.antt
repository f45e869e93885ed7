-- A hash that is continued from the middle of a message is the hash of the whole: what the blocks before the middle give
-- does not depend on what follows, and the blocks behind it are those of the rest. Assumes nothing.
use mathlib.Core.Path.{◌≡◌, refl, ap, ap₂, ◌∙◌}
use Prim.Native.Nat.{ℕ, zero, suc, ◌+◌, ◌*◌, ◌/◌, ◌≤◌, ◌<◌}
use native.Mathlib.Omega.{arith}
use mathlib.Core.List.{List, [], ◌∷◌, ◌++◌, append_assoc}
use lib.ListN.{length, length-append}
use Rattle.sha256_words.specs.Words.{word_at}
use Rattle.sha256.specs.Computation.{H₀}
use Rattle.sha256.specs.Padding.{padding, pad}
use Rattle.sha256.specs.Parsing.{words, block, blocks}
use Rattle.sha256_block.specs.Step.{next_hash}
use Rattle.sha256.specs.Computation.{hashes, digest, sha256}
use Rattle.sha256.specs.Continued.{sha256_after}
use Rattle.sha256.proofs.MessageLaws.{byte_front, byte_back, same-words, word_1}

-- ---- blocks

-- rows of words are equal where each word is
same_rows : (p q : List ℕ) (i j n : ℕ) → ((t : ℕ) → t < n → word_at p (i + 4 * t) ≡ word_at q (j + 4 * t)) → words p i n ≡ words q j n
unfolding words
same_rows p q i j zero same = refl
same_rows p q i j (suc n) same =
    ap₂ (λ (r : List ℕ) (w : ℕ). r ++ (w ∷ [])) (same_rows p q i j n (λ t h. same t (omega arith))) (same n (omega arith))

-- a block that lies inside the first of four lists
pub block_1 : (a b c d : List ℕ) (i : ℕ) → 64 * i + 64 ≤ length a → block (a ++ b ++ c ++ d) i ≡ block a i
unfolding block
block_1 a b c d i inside =
    same_rows (a ++ b ++ c ++ d) a (64 * i) (64 * i) 16 (λ t h. word_1 a b c d (64 * i + 4 * t) (omega arith))

-- a block of what begins with its list
block-front : (q p : List ℕ) (i : ℕ) → 64 * i + 64 ≤ length q → block (q ++ p) i ≡ block q i
unfolding block
block-front q p i inside =
    same_rows (q ++ p) q (64 * i) (64 * i) 16
    (λ t h. same-words (q ++ p) q (64 * i + 4 * t) (64 * i + 4 * t) (λ n k. byte_front q p (64 * i + 4 * t + n) (omega arith)))

-- a block of what ends with its list, behind n blocks
block_back : (q p : List ℕ) (n i : ℕ) → length q ≡ 64 * n → block (q ++ p) (n + i) ≡ block p i
unfolding block
block_back q p n i long =
    same_rows (q ++ p) p (64 * (n + i)) (64 * i) 16
    (λ t h. same-words (q ++ p) p (64 * (n + i) + 4 * t) (64 * i + 4 * t)
    (λ m k. byte_back q p (64 * i + 4 * t + m) (64 * (n + i) + 4 * t + m) (omega arith)))

-- ---- hash values

hashes-front : (H q p : List ℕ) (i : ℕ) → 64 * i ≤ length q → hashes H (q ++ p) i ≡ hashes H q i
unfolding hashes
hashes-front H q p zero inside = refl
hashes-front H q p (suc i) inside =
    ap₂ next_hash (hashes-front H q p i (omega arith)) (block-front q p i (omega arith))

hashes_back : (H q p : List ℕ) (n i : ℕ) → length q ≡ 64 * n → hashes H (q ++ p) (n + i) ≡ hashes (hashes H q n) p i
unfolding hashes
hashes_back H q p n zero long =
    let same : n + 0 ≡ n = omega arith in
    ap (hashes H (q ++ p)) same ∙ hashes-front H q p n (omega arith)
hashes_back H q p n (suc i) long =
    let next : n + suc i ≡ suc (n + i) = omega arith in
    ap (hashes H (q ++ p)) next ∙ ap₂ next_hash (hashes_back H q p n i long) (block_back q p n i long)

-- one block, from the value H
pub one_block : (H a b c d : List ℕ) → 64 ≤ length a → hashes H (a ++ b ++ c ++ d) 1 ≡ next_hash H (block a 0)
unfolding hashes
one_block H a b c d inside = ap (next_hash H) (block_1 a b c d 0 inside)

-- ---- the digest

-- the hash of a message whose first n blocks are q
pub sha256_after_lem : (q m : List ℕ) (n : ℕ) → length q ≡ 64 * n → sha256 (q ++ m) ≡ sha256_after (hashes H₀ q n) n m
unfolding sha256_after sha256 pad blocks
sha256_after_lem q m n long =
    let p = m ++ padding (64 * n + length m) in
    let total : length (q ++ m) ≡ 64 * n + length m = length-append q m ∙ ap (λ (x : ℕ). x + length m) long in
    let split : q ++ m ++ padding (length (q ++ m)) ≡ q ++ p = ap (λ (l : ℕ). q ++ m ++ padding l) total ∙ append_assoc q m (padding (64 * n + length m)) in
    let count : length (q ++ p) / 64 ≡ n + length p / 64 = omega (arith, length-append q p) in
    ap (λ (l : List ℕ). digest (hashes H₀ l (length l / 64)) 8) split
    ∙ ap (λ (i : ℕ). digest (hashes H₀ (q ++ p) i) 8) count
    ∙ ap (λ (v : List ℕ). digest v 8) (hashes_back H₀ q p n (length p / 64) long)
