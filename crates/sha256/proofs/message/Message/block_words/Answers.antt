-- `block_words` gives a block's sixteen words. The invariant: the first t words are the block's. Assumes nothing.
use Rattle.std.proofs.Common.{arith, rules}
use Rattle.std.proofs.lemmas.Grind.{common_steps}
use Rattle.sha256.specs.Parsing.{words, block}
use Rattle.sha256.proofs.MessageLaws.{sizes, words-suc}
use Rattle.sha256.proofs.message.Message.block_words.Goals as goal

pub loop-t-init : goal.loop-t-init
unfolding words
loop-t-init c = search rules

pub overflow_mul-i : goal.overflow_mul-i
overflow_mul-i c =
    let s = c.self.inside in
    let z = sizes s.a.now s.b.now s.c.now s.len c.self.invariant c.self.view_is in
    omega arith

pub overflow_add-i : goal.overflow_add-i
overflow_add-i c =
    let s = c.self.inside in
    let z = sizes s.a.now s.b.now s.c.now s.len c.self.invariant c.self.view_is in
    omega arith

pub loop-t-preserved : goal.loop-t-preserved
loop-t-preserved c = let at = c.loop-t in (grind (arith, common_steps), grind (arith, common_steps, words-suc))

pub returns : goal.returns
unfolding block
returns c = grind (arith, common_steps)
