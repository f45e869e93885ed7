-- `schedule` gives W of the block. The invariant: the first 4 turn + 16 words are the schedule after 4 turn steps. Assumes nothing.
use Rattle.std.proofs.Common.{arith, rules}
use Rattle.std.proofs.lemmas.Grind.{common_steps}
use Rattle.sha256.specs.Parsing.{block}
use Rattle.sha256_block.specs.Schedule.{schedule, W}
use Rattle.sha256.proofs.ScheduleLaws.{at_place}
use Rattle.sha256.proofs.schedule.schedule.Goals as goal

pub loop-turn-init : goal.loop-turn-init
unfolding schedule
loop-turn-init c = search rules

pub loop-turn-preserved : goal.loop-turn-preserved
loop-turn-preserved c =
    let M = block c.args.message.now c.args.i in
    let s₁ = c.add_word.ensures M c.loop-turn.invariant.1 in
    let s₂ = c.add_word-in-loop-turn.ensures M s₁ in
    let s₃ = c.add_word-in-loop-turn-2.ensures M (at_place M _ _ _ (omega arith) s₂) in
    let s₄ = c.add_word-in-loop-turn-3.ensures M (at_place M _ _ _ (omega arith) s₃) in
    (search rules, at_place M _ _ _ (omega arith) s₄)

pub returns : goal.returns
unfolding W
returns c = grind (arith, common_steps)
