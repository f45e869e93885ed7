-- A chain of tests, joined as `a && b && c`, that passes: each of them passes.
-- The idea: the chain falls to its end where a test fails. Assumes nothing.
use mathlib.Core.Path.{◌≡◌, refl}
use mathlib.Core.Bool.{Bool, true, false, ◌&&◌, false≢true}
use mathlib.Core.List.{List, [], ◌∷◌}

-- the test a and then each of bs, as a chain is written
abbrev pub chain : Bool → List Bool → Bool
chain a [] = a
chain a (b ∷ bs) = chain (a && b) bs

-- each of them, in their order
abbrev pub Each : Bool → List Bool → Type 0
Each a [] = a ≡ true
Each a (b ∷ bs) = (a ≡ true) × Each b bs

-- a chain with a test that fails does not pass
never : (bs : List Bool) → chain false bs ≡ true → ⊥
never [] t = false≢true t
never (b ∷ bs) t = never bs t

-- a chain that passes
pub each_passed : (a : Bool) (bs : List Bool) → chain a bs ≡ true → Each a bs
each_passed a [] t = t
each_passed true (b ∷ bs) t = (refl, each_passed b bs t)
each_passed false (b ∷ bs) t = absurd (never bs t)
