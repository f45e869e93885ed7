-- A block that is a key and zeros, XORed with one byte throughout: how long it is, and what its bytes are. Assumes nothing.
use Rattle.std.proofs.Common.{◌≡◌, ℕ, zero, suc, ◌-◌, ◌<◌, ◌≤◌, List, [], ◌∷◌, ◌++◌, length, get_or, replicate, bit_xor, refl, ap, ap₂, ◌∙◌, sym, arith}
use Rattle.hmac.specs.Hmac.{◌⊕◌}

-- how long the exclusive-or with a byte repeated is
pub length-xor : (l : List ℕ) (n p : ℕ) → length l ≤ n → length (l ⊕ replicate n p) ≡ length l
unfolding ◌⊕◌
length-xor [] n p short = refl
length-xor (x ∷ l) zero p short = absurd (omega arith)
length-xor (x ∷ l) (suc n) p short = ap suc (length-xor l n p (omega arith))

-- the block of no key
zeros_block : (block : List ℕ) (n p : ℕ) → length block ≡ n → ((k : ℕ) → k < n → get_or block k 0 ≡ p) → block ≡ replicate n 0 ⊕ replicate n p
unfolding ◌⊕◌
zeros_block [] zero p long rest = refl
zeros_block [] (suc n) p long rest = absurd (omega arith)
zeros_block (b ∷ block) zero p long rest = absurd (omega arith)
zeros_block (b ∷ block) (suc n) p long rest =
    ap₂ ◌∷◌ (rest 0 (omega arith)) (zeros_block block n p (omega arith) (λ k h. rest (suc k) (omega arith)))

-- the block of a key that is at most as long as it
pub key_block : (key block : List ℕ) (n p : ℕ) → length key ≤ n → length block ≡ n
    → ((k : ℕ) → k < length key → get_or block k 0 ≡ bit_xor (get_or key k 0) p) → ((k : ℕ) → length key ≤ k → k < n → get_or block k 0 ≡ p)
    → block ≡ (key ++ replicate (n - length key) 0) ⊕ replicate n p
unfolding ◌⊕◌
key_block [] block n p short long each rest =
    let all : n - 0 ≡ n = omega arith in
    zeros_block block n p long (λ k h. rest k (omega arith) h) ∙ ap (λ (m : ℕ). replicate m 0 ⊕ replicate n p) (sym all)
key_block (x ∷ key) [] n p short long each rest = absurd (omega arith)
key_block (x ∷ key) (b ∷ block) zero p short long each rest = absurd (omega arith)
key_block (x ∷ key) (b ∷ block) (suc n) p short long each rest =
    let left : suc n - suc (length key) ≡ n - length key = omega arith in
    rw left
    (ap₂ ◌∷◌ (each 0 (omega arith))
    (key_block key block n p (omega arith) (omega arith) (λ k h. each (suc k) (omega arith)) (λ k h i. rest (suc k) (omega arith) (omega arith))))
