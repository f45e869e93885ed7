-- `block_count` is the padded message's length in blocks. Assumes nothing.
use Rattle.std.proofs.Common.{arith}
use Rattle.sha256.specs.Parsing.{blocks}
use Rattle.sha256.proofs.MessageLaws.{sizes}
use Rattle.sha256.proofs.message.Message.block_count.Goals as goal

pub returns : goal.returns
unfolding blocks
returns c =
    let s = c.self.inside in
    let z = sizes s.a.now s.b.now s.c.now s.len c.self.invariant c.self.view_is in
    omega arith
