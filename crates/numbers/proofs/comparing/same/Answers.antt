-- `same` meets its contract. Assumes nothing.
use mathlib.Core.Path.{sym, ap, ◌∙◌}
use lib.Dec.{eqb}
use borrow.Author.Tests.{ne_eqb}
use Rattle.std.proofs.Common.{rules}
use Rattle.std.proofs.lemmas.Iterator.{YieldsList-from_slice, YieldsList-from_zip}
use Rattle.std.proofs.lemmas.Iterator.Consumers.{fold_from_yields_List}
use Rattle.numbers.proofs.Comparison.{same_lengths}
use Rattle.numbers.proofs.Differences.{with_pair, differences-same}
use Rattle.numbers.proofs.comparing.same.Goals as goal

pub returns-then-a-b : goal.returns-then-a-b
returns-then-a-b c =
    let a = c.args.a.now in
    let b = c.args.b.now in
    ap (λ d. eqb d 0)
    (fold_from_yields_List _ with_pair 0 c.fold.result c.fold.ensures.ran
    (YieldsList-from_zip (YieldsList-from_slice a cc) (YieldsList-from_slice b cc)) (λ d x r q k. search rules))
    ∙ differences-same 0 a b c.if-a-b.true

pub returns-else-a-b : goal.returns-else-a-b
returns-else-a-b c = ne_eqb _ _ c.if-a-b.false ∙ sym (same_lengths c.args.a.now c.args.b.now c.if-a-b.false)
