-- What a caller that lends `&s[at..at + w]` or `&mut d[at..at + w]` knows, in the words of `part` and `over`.
-- The idea: the checker says the width as `at + w - at`, and what stands behind the part by two drops. Assumes nothing.
use mathlib.Core.Path.{◌≡◌}
use Prim.Native.Nat.{ℕ, ◌+◌, ◌-◌}
use native.Mathlib.Nat.{add-sub_cancel_left}
use mathlib.Core.List.{List, ◌++◌, append_assoc}
use lib.ListN.{length, take, drop}
use lib.Seq.{drop-drop}
use Rattle.numbers.specs.Parts.{part, over}

-- the part that is lent
pub lent : (at w : ℕ) (l : List ℕ) → take (at + w - at) (drop at l) ≡ part at w l
unfolding part
lent at w l = rw add-sub_cancel_left

-- the whole, when the part came back as v
pub returned : (at w : ℕ) (v d : List ℕ) → length v ≡ w → take at d ++ (v ++ drop (at + w - at) (drop at d)) ≡ over at v d
unfolding over
returned at w v d wide = rw (add-sub_cancel_left, drop-drop, ← append_assoc, wide)
