-- An accepted call was possible: the tests 1 to 6 let it pass, and the charge rules carried its request out. Assumes nothing.
use Prim.Native.Nat.{ℕ}
use mathlib.Core.List.{List}
use Rattle.records.specs.Form.{Form}
use Rattle.answers.specs.Accepting.{Passing}
use Rattle.answers.specs.Edition.{design}
use Rattle.answers.proofs.Tests.{offered-passes}
use Rattle.answers.proofs.Accepted.{perform_passed, repeat_passed}
use Rattle.memoir.specs.Actions.{Possible}
use Rattle.memoir.specs.Theorems.{AcceptedArePossible}

possible : (f : Form) (page l request answer summary state : List ℕ) → Passing (design f) page l request answer summary state → Possible f page l request answer
possible f page l request answer summary state p =
    record {
      passed = offered-passes (design f) page l request answer (record { right = p.right; room = p.room; tests = p.tests; formed = p.formed });
      state = state;
      carries = p.carries;
    }

pub accepted_are_possible : (f : Form) → AcceptedArePossible f
accepted_are_possible f =
    record {
      performs = λ page l request answer e.
          let (state, p) = perform_passed (design f) page l request answer e in
          possible f page l request answer _ state p;
      repeats = λ page l request answer e.
          let (state, p) = repeat_passed (design f) page l request answer e in
          possible f page l request answer _ state p;
    }
