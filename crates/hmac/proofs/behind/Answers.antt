-- `behind` hashes the two pieces, and an empty one behind them. Assumes nothing.
use Rattle.sha256.specs.Continued.{sha256_after}
use mathlib.Core.List.{◌++◌, append-nil}
use mathlib.Core.Path.{ap, ◌∙◌}
use Rattle.hmac.proofs.behind.Goals as goal

pub returns : goal.returns
returns c =
    let s = c.args in
    c.sha256_after.ensures ∙ ap (sha256_after s.h.now 1) (append-nil (s.a.now ++ s.b.now))
