-- `digest` gives the bytes of eight words. The invariant: the first 4 i bytes are those of the first i words. Assumes nothing.
use Rattle.std.proofs.Common.{rules, arith, ◌∙◌}
use Rattle.std.proofs.lemmas.Slice.{overwrites}
use Rattle.sha256.specs.Computation.{digest}
use Rattle.sha256.proofs.DigestLaws.{word_more}
use Rattle.sha256.proofs.digest.Goals as goal

pub loop-i-init : goal.loop-i-init
unfolding digest
loop-i-init c = search rules

pub loop-i-preserved : goal.loop-i-preserved
loop-i-preserved c = (
  search (rules, overwrites),
  word_more _ c.loop-i.d _ c.loop-i.i _ (omega arith) c.loop-i.invariant.1 (c.copy_from_slice.ensures.after ∙ c.to_be_bytes.ensures),
)
