-- FIPS 180-4, section 4.1.2: the six functions of SHA-256, equations (4.2) to (4.7). Assumes nothing.
use Rattle.std.specs.Prelude.{ℕ}
use Rattle.sha256_words.specs.Words.{◌∧w◌, ◌⊕◌, ¬w, SHR, ROTR}

-- (4.2)
unfoldable pub Ch : ℕ → ℕ → ℕ → ℕ
Ch x y z = (x ∧w y) ⊕ (¬w x ∧w z)

-- (4.3)
unfoldable pub Maj : ℕ → ℕ → ℕ → ℕ
Maj x y z = (x ∧w y) ⊕ (x ∧w z) ⊕ (y ∧w z)

-- (4.4)
unfoldable pub Σ₀ : ℕ → ℕ
Σ₀ x = ROTR 2 x ⊕ ROTR 13 x ⊕ ROTR 22 x

-- (4.5)
unfoldable pub Σ₁ : ℕ → ℕ
Σ₁ x = ROTR 6 x ⊕ ROTR 11 x ⊕ ROTR 25 x

-- (4.6)
unfoldable pub σ₀ : ℕ → ℕ
σ₀ x = ROTR 7 x ⊕ ROTR 18 x ⊕ SHR 3 x

-- (4.7)
unfoldable pub σ₁ : ℕ → ℕ
σ₁ x = ROTR 17 x ⊕ ROTR 19 x ⊕ SHR 10 x
