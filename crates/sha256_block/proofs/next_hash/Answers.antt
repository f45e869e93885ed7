-- `next_hash` adds the working variables to the hash value. The invariant: the first i words are sums, and the others the
-- working variables. Assumes nothing.
use Rattle.std.proofs.Common.{ap, ◌∙◌, arith}
use Rattle.sha256_block.proofs.RoundLaws.{added}
use Rattle.sha256_block.specs.Step.{add_to}
use Rattle.sha256_block.proofs.next_hash.Goals as goal

pub returns : goal.returns
returns c =
    let at = c.loop-i in
    added _ _ _ at.invariant.0 (λ k h. at.invariant.1 k (omega arith)) ∙ ap (add_to _) c.rounds-next.ensures
