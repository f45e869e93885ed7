-- A field of one byte is that byte. Assumes nothing.
use mathlib.Core.Path.{◌≡◌}
use Prim.Native.Nat.{ℕ, ◌<◌}
use native.Mathlib.Nat.{zero-add}
use mathlib.Core.List.{List}
use lib.ListN.{length, get_or}
use lib.Seq.{drop-cons}
use Rattle.numbers.specs.Numbers.{be_from, be}
use Rattle.numbers.specs.Parts.{part}

pub one_byte : (at : ℕ) (l : List ℕ) → at < length l → be (part at 1 l) ≡ get_or l at 0
unfolding be_from be part
one_byte at l inside = rw (drop-cons l at 0 inside) (zero-add (get_or l at 0))
