-- `absorb` hashes one block: the first of a message that begins with it. Assumes nothing.
use Rattle.std.proofs.Common.{◌≡◌, ◌∙◌, [], length, refl, arith, rules}
use Rattle.sha256.specs.Padding.{padding}
use Rattle.sha256.proofs.ContinuedLaws.{one_block}
use Rattle.sha256.proofs.MessageLaws.{within, sizes}
use Rattle.sha256.proofs.absorb.Goals as goal

pub hash_blocks-requires : goal.hash_blocks-requires
hash_blocks-requires c =
    let s = c.args in
    let long : length s.bytes.now ≡ 64 = search rules in
    let inside = within s.bytes.now [] [] 64 (omega arith) (omega arith) (omega arith) in
    let z = sizes s.bytes.now [] [] 64 inside refl in
    record { within = inside; count_in_bounds = omega arith }

pub returns : goal.returns
returns c =
    let s = c.args in
    let long : length s.bytes.now ≡ 64 = search rules in
    c.hash_blocks.ensures ∙ one_block s.h s.bytes.now [] [] (padding 64) (omega arith)
