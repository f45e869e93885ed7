-- What the answers of open say: document 01's number. The promise uses this. Assumes nothing.
use Rattle.std.specs.Prelude.{ℕ, List}
use Rattle.refusals.specs.Tested.{Tested, number_told}
use Rattle.answers.specs.Answers.{Outcome}

-- an answer, with what page and answer buffer hold then
abbrev pub told_open : Tested → List ℕ → List ℕ → Outcome
told_open r page answer = record { number = number_told r; page = page; answer = answer }
