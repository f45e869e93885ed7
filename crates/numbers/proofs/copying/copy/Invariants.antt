-- `copy` meets its contract. The invariant: d is what it was with the first i bytes of s laid in it (`paste`). Assumes nothing.
use mathlib.Core.Path.{◌≡◌}
use lib.Seq.{paste}
use Rattle.numbers.proofs.copying.copy.Given as goal

abbrev pub invariant-loop-i : goal.invariant-loop-i
invariant-loop-i l = l.d ≡ paste l.initial.d l.at l.s l.i
