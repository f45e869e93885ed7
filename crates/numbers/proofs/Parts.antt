-- Parts of a list: their lengths, reading back what was laid, what laying leaves alone, and laying twice.
-- The idea: a list with v laid in it is what stands before, v, and what stands behind. Assumes nothing.
use mathlib.Core.Path.{◌≡◌}
use Prim.Native.Nat.{ℕ, zero, suc, ◌+◌, ◌-◌, ◌≤◌}
use native.Mathlib.Nat.{add_assoc, zero-add, suc-add}
use native.Mathlib.Omega.{arith}
use mathlib.Core.List.{List, [], ◌∷◌, ◌++◌, append_assoc}
use lib.ListN.{length, take, drop, length-append, length-take, length-drop, take-append-drop}
use lib.Seq.{length-take-le, take_at, drop_at, take-append-le, take-nil, take-take, drop-drop, take-add}
use Rattle.numbers.specs.Parts.{part, over}

-- a part that lies inside has its width
pub length_part : (at w : ℕ) (l : List ℕ) → at + w ≤ length l → length (part at w l) ≡ w
unfolding part
length_part at w l fits = simp (length-take, length-drop) (omega arith)

-- laying what fits keeps the length
pub length_over : (at : ℕ) (v d : List ℕ) → at + length v ≤ length d → length (over at v d) ≡ length d
unfolding over
length_over at v d fits = simp (length-append, length-take, length-drop) (omega arith)

-- `take` and `drop` in the other order
pub drop-take : (m n : ℕ) (l : List ℕ) → drop m (take (m + n) l) ≡ take n (drop m l)
drop-take zero n l = rw zero-add
drop-take (suc m) n [] = rw (suc-add, take-nil)
drop-take (suc m) n (x ∷ l) = rw suc-add (drop-take m n l)

-- a part is its first v elements and the w behind them
pub part-add : (at v w : ℕ) (l : List ℕ) → part at (v + w) l ≡ part at v l ++ part (at + v) w l
unfolding part
part-add at v w l = rw (take-add, drop-drop)

-- a part of a part is a part of the whole
pub part-part : (from n at w : ℕ) (l : List ℕ) → at + w ≤ n → part at w (part from n l) ≡ part (from + at) w l
unfolding part
part-part from n at w l fits =
    let split : n ≡ at + (n - at) = omega arith in
    let room : w ≤ n - at = omega arith in
    rw (split, drop-take, take-take, drop-drop)

-- writing back what was read changes nothing
pub over-part : (at w : ℕ) (d : List ℕ) → at + w ≤ length d → over at (part at w d) d ≡ d
unfolding over part
over-part at w d fits = rw (length_part at w d fits, ← take-add, take-append-drop)

-- v has the width w and is laid where it fits
module _ (at w : ℕ) (v d : List ℕ) (wide : length v ≡ w) (fits : at + w ≤ length d) where
  -- what stands before v
  length_before : length (take at d) ≡ at
  length_before = length-take-le at d (omega arith)

  -- what stands before v, and v
  length_head : length (take at d ++ v) ≡ at + w
  length_head = rw (length-append, length_before, wide)

  -- before v all is as it was
  take-over : (n : ℕ) → n ≤ at → take n (over at v d) ≡ take n d
  unfolding over
  take-over n before =
      let in-before : n ≤ length (take at d) = rw length_before before in
      let in_head : n ≤ length (take at d ++ v) = rw length_head (omega arith) in
      rw (take-append-le n (take at d ++ v) (drop (at + length v) d) in_head, take-append-le n (take at d) v in-before, take-take)

  -- behind v all is as it was
  drop-over : (n : ℕ) → at + w ≤ n → drop n (over at v d) ≡ drop n d
  unfolding over
  drop-over n behind =
      let split : n ≡ at + w + (n - (at + w)) = omega arith in
      rw (split, ← drop-drop (n - (at + w)) (at + w) (over at v d), drop_at (take at d ++ v) (drop (at + length v) d) (at + w) length_head, wide, drop-drop)

  -- what was laid is read back
  pub part-over : part at w (over at v d) ≡ v
  unfolding part over
  part-over = rw (append_assoc, drop_at (take at d) (v ++ drop (at + length v) d) at length_before, take_at v (drop (at + length v) d) w wide)

  -- a part before what was laid is unchanged
  pub part-before-over : (from n : ℕ) → from + n ≤ at → part from n (over at v d) ≡ part from n d
  unfolding part
  part-before-over from n before = rw (← drop-take from n (over at v d), take-over (from + n) before, drop-take)

  -- a part behind what was laid is unchanged
  pub part-behind-over : (from n : ℕ) → at + w ≤ from → part from n (over at v d) ≡ part from n d
  unfolding part
  part-behind-over from n behind = rw (drop-over from behind)

  -- laying u right behind v is laying both
  pub over-over : (u : List ℕ) → over (at + w) u (over at v d) ≡ over at (v ++ u) d
  unfolding over
  over-over u =
      let behind : at + w ≤ at + w + length u = omega arith in
      rw (take_at (take at d ++ v) (drop (at + length v) d) (at + w) length_head, drop-over (at + w + length u) behind)
      (rw (length-append, wide, add_assoc, append_assoc (take at d) v u))
