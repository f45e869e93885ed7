-- `mac` goes on behind the inner block with the message, and behind the outer one with that digest. Assumes nothing.
use Rattle.std.proofs.Common.{ap, ◌∙◌, append-nil}
use Rattle.hmac.specs.Preparation.{mac_of}
use Rattle.sha256.specs.Continued.{sha256_after}
use Rattle.hmac.proofs.Prepared.mac.Goals as goal

pub returns : goal.returns
unfolding mac_of
returns c =
    c.behind.ensures ∙ ap (sha256_after c.args.self.now.outer 1) (append-nil c.behind-d.result ∙ c.behind-d.ensures)
