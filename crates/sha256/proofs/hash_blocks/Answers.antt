-- `hash_blocks` goes block by block. The invariant: the value is the standard's after i blocks. Assumes nothing.
use Rattle.std.proofs.Common.{refl, add-one}
use Rattle.sha256_block.specs.Step.{next_hash}
use Rattle.sha256.specs.Computation.{hashes}
use Rattle.sha256.proofs.hash_blocks.Goals as goal

pub loop-i-init : goal.loop-i-init
unfolding hashes
loop-i-init c = refl

pub loop-i-preserved : goal.loop-i-preserved
unfolding hashes next_hash
loop-i-preserved c = rw (add-one, ← c.loop-i.invariant, ← c.schedule.ensures) c.next_hash-next.ensures
