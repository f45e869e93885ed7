-- `schedule` gives W of the block. The invariant: the first 4 turn + 16 words are the schedule after 4 turn steps. Assumes nothing.
use Rattle.std.proofs.Common.{◌≡◌, ◌+◌, ◌*◌, length, take}
use Rattle.sha256_block.specs.Schedule.{schedule}
use Rattle.sha256.specs.Parsing.{block}
use Rattle.sha256.proofs.schedule.schedule.Given as goal

abbrev pub invariant-loop-turn : goal.invariant-loop-turn
invariant-loop-turn l =
    (length l.w ≡ 64) × (take (4 * l.turn + 16) l.w ≡ schedule (block l.message l.i) (4 * l.turn))
