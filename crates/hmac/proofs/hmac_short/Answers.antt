-- `hmac_short` hashes behind the inner block, and then behind the outer one, which is FIPS 198-1's MAC. Assumes nothing.
use Rattle.sha256.specs.Continued.{sha256_after}
use mathlib.Core.List.{◌++◌, append-nil}
use mathlib.Core.Path.{ap, ◌∙◌}
use Rattle.hmac.proofs.Macs.{hmac_short, no_more}
use Rattle.hmac.proofs.hmac_short.Goals as goal

pub returns : goal.returns
returns c =
    let s = c.args in
    let m = s.a.now ++ s.b.now in
    let d = c.sha256_after-d.result in
    hmac_short s.key.now m _ _ _ _ c.requires.key_len_bound
    c.after_pad-inner.ensures
    (c.sha256_after-d.ensures ∙ ap (sha256_after _ 1) (append-nil m))
    c.after_pad-outer.ensures
    (c.sha256_after.ensures ∙ ap (sha256_after _ 1) (no_more d))
