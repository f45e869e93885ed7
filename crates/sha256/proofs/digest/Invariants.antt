-- `digest` gives the bytes of eight words. The invariant: the first 4 i bytes are those of the first i words. Assumes nothing.
use Rattle.std.proofs.Common.{◌≡◌, ◌*◌, length, take}
use Rattle.sha256.specs.Computation.{digest}
use Rattle.sha256.proofs.digest.Given as goal

abbrev pub invariant-loop-i : goal.invariant-loop-i
invariant-loop-i l = (length l.d ≡ 32) × (take (4 * l.i) l.d ≡ digest l.h l.i)
