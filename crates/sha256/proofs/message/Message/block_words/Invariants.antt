-- `block_words` gives a block's sixteen words. The invariant: the first t words are the block's. Assumes nothing.
use Rattle.std.proofs.Common.{◌≡◌, ◌*◌, length, take}
use Rattle.sha256.specs.Parsing.{words}
use Rattle.sha256.proofs.message.Message.block_words.Given as goal

abbrev pub invariant-loop-t : goal.invariant-loop-t
invariant-loop-t l = (length l.w ≡ 64) × (take l.t l.w ≡ words l.self (64 * l.i) l.t)
