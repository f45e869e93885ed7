-- `hmac` hashes a key that is longer than a block first, as K₀ does. Assumes nothing.
use Rattle.hmac.specs.Hmac.{hmac}
use Rattle.sha256.specs.Computation.{sha256}
use Prim.Native.Nat.{ℕ}
use mathlib.Core.List.{List, ◌++◌}
use mathlib.Core.Path.{ap, ◌∙◌}
use Rattle.hmac.proofs.Macs.{hmac_long, no_more}
use Rattle.hmac.proofs.hmac.Goals as goal

pub returns-then-key-gt-BLOCK_SIZE : goal.returns-then-key-gt-BLOCK_SIZE
returns-then-key-gt-BLOCK_SIZE c =
    let s = c.args in
    let m = s.a.now ++ s.b.now in
    c.hmac_short.ensures
    ∙ ap (λ (k : List ℕ). hmac k m) (c.sha256-hashed.ensures ∙ ap sha256 (no_more s.key.now))
    ∙ hmac_long s.key.now m c.if-key-gt-BLOCK_SIZE.true
