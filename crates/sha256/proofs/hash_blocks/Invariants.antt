-- `hash_blocks` goes block by block. The invariant: the value is the standard's after i blocks. Assumes nothing.
use Rattle.std.proofs.Common.{◌≡◌}
use Rattle.sha256.specs.Computation.{hashes}
use Rattle.sha256.proofs.hash_blocks.Given as goal

abbrev pub invariant-loop-i : goal.invariant-loop-i
invariant-loop-i l = l.value ≡ hashes l.initial.value l.message l.i
