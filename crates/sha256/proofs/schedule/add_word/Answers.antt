-- `add_word` writes the schedule's next word. Assumes nothing.
use Rattle.std.proofs.Common.{◌≡◌, ◌+◌, get_or, length, arith, rules}
use Rattle.sha256_block.specs.Schedule.{next_word}
use Rattle.sha256.proofs.ScheduleLaws.{one_word}
use Rattle.sha256.proofs.schedule.add_word.Goals as goal

pub returns : goal.returns
returns c = λ M front.
    let w = c.args.w.now in
    let n = c.args.n in
    let long : length w ≡ 64 = search rules in
    let word : c.next_word.result ≡ next_word (get_or w (n + 14) 0) (get_or w (n + 9) 0) (get_or w (n + 1) 0) (get_or w n 0) = c.next_word.ensures in
    one_word M w n _ (omega arith) front word
