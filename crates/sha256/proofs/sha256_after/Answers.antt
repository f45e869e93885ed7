-- `sha256_after` hashes the blocks of the rest, with the padding of the whole message, and gives the digest. Assumes nothing.
use Rattle.std.proofs.Common.{◌≡◌, ℕ, ◌+◌, ◌*◌, List, ◌++◌, length, length-append, sym, ap, ap₂, ◌∙◌, arith}
use Rattle.sha256.specs.Padding.{padding}
use Rattle.sha256.specs.Parsing.{blocks}
use Rattle.sha256.specs.Computation.{hashes, digest}
use Rattle.sha256.specs.Continued.{sha256_after}
use Rattle.sha256.proofs.MessageLaws.{within}
use Rattle.sha256.proofs.sha256_after.Goals as goal

pub new-requires : goal.new-requires
new-requires c =
    let s = c.args in
    within s.a.now s.b.now s.c.now (64 * s.done + (length s.a.now + length s.b.now + length s.c.now)) c.requires (omega arith) (omega arith)

pub hash_blocks-requires : goal.hash_blocks-requires
unfolding blocks
hash_blocks-requires c =
    let s = c.args in
    record {
      within = within s.a.now s.b.now s.c.now (64 * s.done + (length s.a.now + length s.b.now + length s.c.now)) c.requires (omega arith) (omega arith);
      count_in_bounds = omega (arith, c.block_count-count.ensures, ap length c.new.ensures);
    }

pub returns : goal.returns
unfolding sha256_after
returns c =
    let s = c.args in
    let m = s.a.now ++ s.b.now ++ s.c.now in
    let three : length m ≡ length s.a.now + length s.b.now + length s.c.now = simp length-append in
    let rest : c.new.result ≡ m ++ padding (64 * s.done + length m) = rw three c.new.ensures in
    c.digest.ensures
    ∙ ap (λ (v : List ℕ). digest v 8) (c.hash_blocks.ensures ∙ ap₂ (hashes s.h) (sym c.new.ensures) c.block_count-count.ensures)
    ∙ ap (λ (p : List ℕ). digest (hashes s.h p (blocks p)) 8) rest
