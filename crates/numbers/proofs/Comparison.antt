-- `same` is equality as a test.
-- The idea: by the elements, the test of the first and of the rest. Assumes nothing.
use mathlib.Core.Path.{◌≡◌, refl, ap}
use mathlib.Core.Logic.{◌↔◌}
use mathlib.Core.Bool.{true, false, and-eq-true_iff, and-false, false≢true}
use Prim.Native.Nat.{ℕ, suc}
use mathlib.Core.List.{List, [], ◌∷◌}
use lib.ListN.{length}
use lib.Dec.{eqb}
use borrow.Author.Tests.{eqb-true, eq-eqb}
use Rattle.numbers.specs.Comparing.{same}

-- equal lists are the same
same_refl : (a : List ℕ) → same a a ≡ true
unfolding same
same_refl [] = refl
same_refl (x ∷ a) = rw (eq-eqb x x refl) (same_refl a)

-- lists that are the same are equal
same_equal : (a b : List ℕ) → same a b ≡ true → a ≡ b
unfolding same
same_equal [] [] t = refl
same_equal [] (y ∷ b) t = absurd (false≢true t)
same_equal (x ∷ a) [] t = absurd (false≢true t)
same_equal (x ∷ a) (y ∷ b) t =
    let both = (and-eq-true_iff (eqb x y) (same a b)).0 t in
    rw (eqb-true x y both.0, same_equal a b both.1)

-- `same` is equality as a test
pub same_iff : (a b : List ℕ) → same a b ≡ true ↔ a ≡ b
same_iff a b = (same_equal a b, λ e. rw e (same_refl b))

-- lists of different lengths are not the same
pub same_lengths : (a b : List ℕ) → (length a ≡ length b → ⊥) → same a b ≡ false
unfolding same
same_lengths [] [] h = absurd (h refl)
same_lengths [] (y ∷ b) h = refl
same_lengths (x ∷ a) [] h = refl
same_lengths (x ∷ a) (y ∷ b) h = rw (same_lengths a b (λ e. h (ap suc e))) (and-false (eqb x y))
