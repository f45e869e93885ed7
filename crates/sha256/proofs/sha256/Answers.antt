-- `sha256` is the hash continued behind no blocks. Assumes nothing.
use Rattle.sha256.proofs.ContinuedLaws.{sha256_after_lem}
use Rattle.sha256.specs.Continued.{sha256_after}
use Rattle.sha256.specs.Computation.{hashes}
use mathlib.Core.Path.{refl, sym, ap, ◌∙◌}
use mathlib.Core.List.{List, [], ◌++◌}
use Prim.Native.Nat.{ℕ}
use Rattle.sha256.proofs.sha256.Goals as goal

pub returns : goal.returns
unfolding hashes
returns c =
    let s = c.args in
    let m = s.a.now ++ s.b.now ++ s.c.now in
    c.sha256_after.ensures ∙ ap (λ (v : List ℕ). sha256_after v 0 m) c.initial.ensures ∙ sym (sha256_after_lem [] m 0 refl)
