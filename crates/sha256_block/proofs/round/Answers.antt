-- `round` is one round of step 3, from what each of its sums ensures. Assumes nothing.
use Rattle.sha256_block.specs.Step.{T₁, T₂, round}
use Rattle.sha256_block.proofs.round.Goals as goal

pub returns : goal.returns
unfolding round T₁ T₂
returns c = cc
