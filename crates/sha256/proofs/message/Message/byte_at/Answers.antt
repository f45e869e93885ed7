-- `byte_at` finds a byte in the piece that holds it, or in the padding before the length field. Assumes nothing.
use Rattle.std.proofs.Common.{◌-◌, length, sym, ◌∙◌, arith}
use Rattle.sha256.specs.Padding.{padding}
use Rattle.sha256.proofs.MessageLaws.{sizes, byte_4, zero_byte}
use Rattle.sha256.proofs.message.Message.byte_at.Goals as goal

pub returns-then-j-c-2 : goal.returns-then-j-c-2
unfolding padding
returns-then-j-c-2 c =
    let s = c.self.inside in
    rw (← c.self.view_is) (sym (byte_4 s.a.now s.b.now s.c.now (padding s.len) 0 c.args.k (omega arith)))

pub returns-else-j-c-2 : goal.returns-else-j-c-2
returns-else-j-c-2 c =
    let s = c.self.inside in
    let z = sizes s.a.now s.b.now s.c.now s.len c.self.invariant c.self.view_is in
    let past = c.args.k - length s.a.now - length s.b.now - length s.c.now in
    rw (← c.self.view_is) (sym (byte_4 s.a.now s.b.now s.c.now (padding s.len) past c.args.k (omega arith) ∙ zero_byte s.len past (omega arith) (omega arith)))
