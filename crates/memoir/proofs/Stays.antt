-- A refused call leaves every variable and the answer buffer as they were. The idea: a refusal changes nothing, over any design.
-- Assumes nothing.
use mathlib.Core.Path.{ap}
use Prim.Native.Nat.{ℕ}
use mathlib.Core.List.{List}
use Rattle.records.specs.Form.{Form}
use Rattle.answers.specs.Answers.{Performed}
use Rattle.answers.specs.Unchanged.{Unchanged}
use Rattle.answers.specs.Edition.{design}
use Rattle.answers.proofs.Refusals.{refusals_change_nothing}
use Rattle.memoir.specs.Storage.{LL1Vars}
use Rattle.memoir.specs.Actions.{offering}
use Rattle.memoir.specs.Theorems.{Stays, OtherwiseStays}

unchanged_stays : (f : Form) (page l answer : List ℕ) (vars : LL1Vars) (p : Performed) → Unchanged page answer p → Stays f page l answer vars p
unchanged_stays f page l answer vars p u =
    record { variables = ap (λ (q : List ℕ). offering f q l vars) u.page_stays; buffer = u.answer_stays }

pub otherwise_stays : (f : Form) → OtherwiseStays f
otherwise_stays f =
    record {
      performs = λ page l request answer vars refused.
          unchanged_stays f page l answer vars _ ((refusals_change_nothing (design f)).performs page l request answer refused);
      repeats = λ page l request answer vars refused.
          unchanged_stays f page l answer vars _ ((refusals_change_nothing (design f)).repeats page l request answer refused);
    }
