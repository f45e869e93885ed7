-- The comparisons without an early exit: every difference is ORed to those before it.
-- The idea: the OR of two numbers is 0 only where both are, and their XOR only where they are equal. Assumes nothing.
use mathlib.Core.Path.{◌≡◌, refl, sym}
use mathlib.Core.Bool.{◌&&◌, and_assoc, and-true}
use Prim.Native.Nat.{ℕ}
use native.Mathlib.Omega.{arith}
use mathlib.Core.List.{List, [], ◌∷◌}
use lib.ListN.{length, replicate}
use lib.Dec.{eqb}
use lib.Bits.{bit_or, bit_xor, and_le_l, and_le_r, or_add_and, xor_add_and, xor_self, xor_zero_r}
use Rattle.std.specs.List.{fold, zip}
use Rattle.std.proofs.lemmas.Bool.Decides.{same_from_decides, Decides-like, Decides-and, Decides-eqb}
use Rattle.numbers.specs.Comparing.{same}

-- no difference after x and y: none before, and x is y
step : (d x y : ℕ) → eqb (bit_or d (bit_xor x y)) 0 ≡ (eqb d 0 && eqb x y)
step d x y =
    same_from_decides _ _ (Decides-like _ none equal (Decides-eqb (bit_or d (bit_xor x y)) 0)) (Decides-and _ _ (Decides-eqb d 0) (Decides-eqb x y))
  where
    none : bit_or d (bit_xor x y) ≡ 0 → (d ≡ 0) × (x ≡ y)
    none z = omega (arith, or_add_and d (bit_xor x y), and_le_l d (bit_xor x y), and_le_r d (bit_xor x y), xor_add_and x y, and_le_l x y, and_le_r x y)

    equal : (d ≡ 0) × (x ≡ y) → bit_or d (bit_xor x y) ≡ 0
    equal z = rw (z.0, z.1, xor_self)

-- what `same` of the crate adds up
abbrev pub with_pair : ℕ → ℕ × ℕ → ℕ
with_pair d p = bit_or d (bit_xor p.0 p.1)

-- behind the differences d, those of a and b
pub differences-same : (d : ℕ) (a b : List ℕ) → length a ≡ length b → eqb (fold with_pair d (zip a b)) 0 ≡ (eqb d 0 && same a b)
unfolding same
differences-same d [] [] e = sym (and-true (eqb d 0))
differences-same d [] (y ∷ b) e = absurd (omega arith)
differences-same d (x ∷ a) [] e = absurd (omega arith)
differences-same d (x ∷ a) (y ∷ b) e = rw (differences-same (with_pair d (x, y)) a b (omega arith), step d x y, and_assoc)

-- against as many zeros, a byte is its own difference
pub against_zeros : (d : ℕ) (s : List ℕ) → fold bit_or d s ≡ fold with_pair d (zip s (replicate (length s) 0))
against_zeros d [] = refl
against_zeros d (x ∷ s) = rw xor_zero_r (against_zeros (bit_or d x) s)
