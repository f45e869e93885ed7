-- A form is cut into parts and joined again: the two undo each other, for every list of widths.
-- The idea: a part of width w + n is a part of width w and the part of width n behind it. Assumes nothing.
use mathlib.Core.Path.{◌≡◌, refl, sym, ap, ap₂, ◌∙◌}
use Prim.Native.Nat.{ℕ, ◌+◌, ◌≤◌}
use native.Mathlib.Nat.{le-add_right}
use native.Mathlib.Omega.{arith}
use mathlib.Core.List.{List, [], ◌∷◌, ◌++◌, map}
use lib.ListN.{length, take, drop, length-append}
use lib.Seq.{take_at, drop_at, take-take, drop-drop}
use Rattle.numbers.specs.Parts.{part, size, cut_at, join}
use Rattle.numbers.proofs.Parts.{length_part, part-add, drop-take}

-- joined parts are as long as their widths say
pub length-join : (ps : List (List ℕ)) → length (join ps) ≡ size (map length ps)
length-join [] = refl
length-join (p ∷ ps) = rw (length-append, length-join ps)

-- the parts of what is long enough have the widths that they were cut by
pub widths_cut_at : (at : ℕ) (ws l : List ℕ) → at + size ws ≤ length l → map length (cut_at at ws l) ≡ ws
widths_cut_at at [] l fits = refl
widths_cut_at at (w ∷ ws) l fits =
    ap₂ {C = List ℕ} (λ a b. a ∷ b) (length_part at w l (omega arith)) (widths_cut_at (at + w) ws l (omega arith))

-- cut, and joined again
pub join-cut_at : (at : ℕ) (ws l : List ℕ) → join (cut_at at ws l) ≡ part at (size ws) l
unfolding part
join-cut_at at [] l = refl
join-cut_at at (w ∷ ws) l = rw (join-cut_at (at + w) ws l, part-add)

-- l holds p and q end to end from `at` on
module _ (at w n : ℕ) (p q l : List ℕ) (wide : length p ≡ w) (joined : part at (w + n) l ≡ p ++ q) where
  -- the first part is p
  front : part at w l ≡ p
  unfolding part
  front = sym (take-take w (w + n) (drop at l) (le-add_right w n)) ∙ ap (take w) joined ∙ take_at p q w wide

  -- what follows is q
  behind : part (at + w) n l ≡ q
  unfolding part
  behind = rw (← drop-drop, ← drop-take) (ap (drop w) joined ∙ drop_at p q w wide)

-- joined, and cut again by the widths of the parts themselves
cut_joined : (at : ℕ) (l : List ℕ) (ps : List (List ℕ)) → part at (size (map length ps)) l ≡ join ps → cut_at at (map length ps) l ≡ ps
cut_joined at l [] joined = refl
cut_joined at l (p ∷ ps) joined =
    let n : ℕ = size (map length ps) in
    let rest = cut_joined (at + length p) l ps (behind at (length p) n p (join ps) l refl joined) in
    rw (front at (length p) n p (join ps) l refl joined, rest)

-- joined, and cut again: where l holds the parts ps end to end from `at` on, cutting l there by their widths gives ps
pub cut_at-join : (at : ℕ) (ws l : List ℕ) (ps : List (List ℕ)) → map length ps ≡ ws → part at (size ws) l ≡ join ps → cut_at at ws l ≡ ps
cut_at-join at ws l ps widths = rw (← widths) (cut_joined at l ps)
