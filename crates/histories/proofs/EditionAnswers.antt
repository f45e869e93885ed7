-- What counts as answered is what was written, for the design that ships, at any number of racks and any version. The idea: a record
-- that is written reads back as what was bound, so its binding is the one that counts. Assumes nothing.
use mathlib.Core.Path.{◌≡◌, refl}
use Prim.Native.Nat.{ℕ}
use native.Mathlib.Omega.{arith}
use mathlib.Core.List.{List, [], ◌∷◌}
use Rattle.std.specs.Prelude.{Ok, Err}
use Rattle.refusals.specs.Tested.{Tested}
use Rattle.records.specs.Form.{Form}
use Rattle.answers.specs.Design.{Design, Served}
use Rattle.answers.specs.Hashing.{next_summary, binding_of, binding_in}
use Rattle.answers.specs.Judging.{Verdict, early, forged, stale, barred, good, perform_verdict, repeat_verdict}
use Rattle.answers.specs.Answers.{open_tests, opened_by, opened, Performed, answered_by, performed, repeated}
use Rattle.answers.specs.Edition.{design}
use Rattle.answers.specs.Written.{front, Reads, Answered}
use Rattle.answers.proofs.ReadsBack.{reads_back}
use Rattle.histories.specs.Did.{open_did, perform_did, repeat_did}
use Rattle.histories.specs.Ties.{WhereAccepted, AnswersAreCounted}
use Rattle.histories.proofs.Verdicts.{perform_good, repeat_good, some_number}

-- a record that reads as a state and a summary has their binding
reads-bound : (D : Design) (page l state summary : List ℕ) → Reads D page l state summary → binding_of D summary state ∷ [] ≡ binding_in D l ∷ []
reads-bound D page l state summary r = rw (r.summary_is, r.state_is) refl

-- the service gives one state
one_state : {s : Served} {a b : List ℕ} → s ≡ Served.carried a → s ≡ Served.carried b → a ≡ b
one_state p q = cc

-- what perform or repeat has answered has the binding of the state that the service gives
answered-bound : (D : Design) (l request answer state : List ℕ) (p : Performed) → D.served (D.state_bytes l) request ≡ Served.carried state → Answered D l request answer p
    → binding_of D (next_summary D (D.summary l) request) state ∷ [] ≡ binding_in D (front D p.answer) ∷ []
answered-bound D l request answer state p serves a =
    let is : state ≡ a.state = one_state serves a.carries in rw is (reads-bound D _ _ _ _ a.wrote.reads)

-- what counts, by the tests of open and by the verdict of perform and repeat, if the accepted call's record has the binding that counts
module _ (D : Design) (page : List ℕ) where
  open_counted : (after answer bound : List ℕ) (t : Tested) → (t ≡ Ok tt → (open_did D after (Ok tt)).answered ≡ bound ∷ [])
      → WhereAccepted (opened_by D page answer t).number bound (open_did D after t).answered
  open_counted after answer bound (Ok x) is = record { accepted = λ zero. is refl; refused = λ other. absurd (other refl) }
  open_counted after answer bound (Err r) is = record { accepted = λ zero. absurd (omega (arith, some_number r)); refused = λ other. refl }

  perform_counted : (left l request answer after bound : List ℕ) (v : Verdict)
      → ((state : List ℕ) → v ≡ good state → binding_of D (next_summary D (D.summary l) request) state ∷ [] ≡ bound ∷ [])
      → WhereAccepted (answered_by D page l request answer after v).number bound (perform_did D left l request v).answered
  perform_counted left l request answer after bound (good state) is = record { accepted = λ zero. is state refl; refused = λ other. absurd (other refl) }
  perform_counted left l request answer after bound (early r) is =
      record { accepted = λ zero. absurd (omega (arith, some_number r)); refused = λ other. refl }
  perform_counted left l request answer after bound forged is = record { accepted = λ zero. absurd (omega arith); refused = λ other. refl }
  perform_counted left l request answer after bound stale is = record { accepted = λ zero. absurd (omega arith); refused = λ other. refl }
  perform_counted left l request answer after bound (barred r) is =
      record { accepted = λ zero. absurd (omega (arith, some_number r)); refused = λ other. refl }

-- perform and repeat answer alike
answer_alike : (D : Design) (left l request : List ℕ) (v : Verdict) → (repeat_did D left l request v).answered ≡ (perform_did D left l request v).answered
answer_alike D left l request (early r) = refl
answer_alike D left l request forged = refl
answer_alike D left l request stale = refl
answer_alike D left l request (barred r) = refl
answer_alike D left l request (good state) = refl

pub answers_are_counted : (f : Form) (page : List ℕ) → AnswersAreCounted (design f) page
unfolding opened performed repeated
answers_are_counted f page =
    let D = design f in
    record {
      by_open = λ answer.
          open_counted D page (opened D page answer).page answer _ (open_tests D page answer)
          (λ passed. reads-bound D _ _ _ _ ((reads_back f).opens page answer (rw passed refl)).1.reads);
      by_perform = λ l request answer.
          perform_counted D page (performed D page l request answer).page l request answer _ _ (perform_verdict D page l request answer)
          (λ state e. answered-bound D l request answer state _ (perform_good D page l request answer state e) ((reads_back f).performs page l request answer (rw e refl)));
      by_repeat = λ l request answer.
          rw (answer_alike D (repeated D page l request answer).page l request (repeat_verdict D page l request answer))
          (perform_counted D page (repeated D page l request answer).page l request answer _ _ (repeat_verdict D page l request answer)
          (λ state e. answered-bound D l request answer state _ (repeat_good D page l request answer state e) ((reads_back f).repeats page l request answer (rw e refl))));
    }
