-- What the answers of perform and repeat say: document 01's number and figure. Their promises use this. Assumes nothing.
use Rattle.std.specs.Prelude.{ℕ, List, Result, Ok, Err}
use Rattle.refusals.specs.declared.Refusal.{Refusal}
use Rattle.refusals.specs.Tested.{number_told}
use Rattle.answers.specs.Answers.{Performed}

-- what is stored, or 0 with a refusal
abbrev pub stored_told : Result ℕ Refusal → ℕ
stored_told (Ok stored) = stored
stored_told (Err r) = 0

-- an answer, with what page and answer buffer hold then
abbrev pub told : Result ℕ Refusal → List ℕ → List ℕ → Performed
told r page answer = record { number = number_told r; stored = stored_told r; page = page; answer = answer }
