-- `all_zero` meets its contract: the fold is that of `same`, against as many zeros. Assumes nothing.
use mathlib.Core.Path.{sym, ap, ◌∙◌}
use lib.ListN.{length, replicate, length-replicate}
use lib.Dec.{eqb}
use lib.Bits.{bit_or}
use Rattle.std.proofs.Common.{rules}
use Rattle.std.proofs.lemmas.Iterator.{YieldsList-from_slice}
use Rattle.std.proofs.lemmas.Iterator.Consumers.{fold_from_yields_List}
use Rattle.numbers.proofs.Differences.{against_zeros, differences-same}
use Rattle.numbers.proofs.comparing.all_zero.Goals as goal

pub returns : goal.returns
returns c =
    let s = c.args.s.now in
    ap (λ d. eqb d 0) (fold_from_yields_List _ bit_or 0 c.fold.result c.fold.ensures.ran (YieldsList-from_slice s cc) (λ d x r q k. search rules) ∙ against_zeros 0 s)
    ∙ differences-same 0 s (replicate (length s) 0) (sym (length-replicate (length s) 0))
