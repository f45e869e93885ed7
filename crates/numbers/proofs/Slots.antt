-- Forms of equal widths, whose fields are slots: their size, the slot at a place, and laying one slot over the others.
-- The idea: slot i starts i widths from the first. Assumes nothing.
use mathlib.Core.Path.{◌≡◌, sym}
use Prim.Native.Nat.{ℕ, zero, suc, ◌+◌, ◌*◌, ◌≤◌, ◌<◌}
use native.Mathlib.Nat.{zero-mul, suc-mul, add-zero, mul-le-mul_right}
use native.Mathlib.Decide.{dec_lt}
use native.Mathlib.Omega.{arith}
use mathlib.Core.List.{List, []}
use lib.ListN.{length, get_or, replicate}
use Rattle.numbers.specs.Parts.{part, over, size, cut_at}
use Rattle.numbers.proofs.Parts.{part-before-over, part-behind-over}

-- n slots of width w
pub size_replicate : (n w : ℕ) → size (replicate n w) ≡ n * w
size_replicate zero w = sym (zero-mul w)
size_replicate (suc n) w = omega (arith, size_replicate n w, suc-mul n w)

-- slot i of n
pub get_d_cut_at : (n w at i : ℕ) (l : List ℕ) → i < n → get_or (cut_at at (replicate n w) l) i [] ≡ part (at + i * w) w l
get_d_cut_at zero w at i l h = absurd (omega arith)
get_d_cut_at (suc n) w at zero l h = rw (zero-mul, add-zero)
get_d_cut_at (suc n) w at (suc i) l h =
    let next : at + suc i * w ≡ at + w + i * w = omega (arith, suc-mul i w) in
    rw next (get_d_cut_at n w (at + w) i l (omega arith))

-- a slot ends where the next begins, or before
slot_end : (i j w : ℕ) → i < j → i * w + w ≤ j * w
slot_end i j w h = omega (arith, suc-mul i w, mul-le-mul_right w h)

-- v is laid in slot i of those from `from` on
module _ (from i w : ℕ) (v l : List ℕ) (wide : length v ≡ w) (fits : from + i * w + w ≤ length l) where
  -- slot j, another, is as it was
  pub other_slot : (j : ℕ) → (j ≡ i → ⊥) → part (from + j * w) w (over (from + i * w) v l) ≡ part (from + j * w) w l
  other_slot j other = before-or-behind (dec_lt j i)
    where
      before-or-behind : Dec (j < i) → part (from + j * w) w (over (from + i * w) v l) ≡ part (from + j * w) w l
      before-or-behind (yes h) =
          part-before-over (from + i * w) w v l wide fits (from + j * w) w (omega (arith, slot_end j i w h))
      before-or-behind (no h) =
          let later : i < j = omega arith in
          part-behind-over (from + i * w) w v l wide fits (from + j * w) w (omega (arith, slot_end i j w later))
