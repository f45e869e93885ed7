-- What open, perform and repeat write when they accept: a record at the front of the answer buffer, which reads back as what was bound
-- and is current on the page then left, and no other byte of the buffer. Assumes nothing.
use Rattle.std.specs.Prelude.{◌≡◌, true, ℕ, List, length, drop, Ok}
use Rattle.numbers.specs.Parts.{part}
use Rattle.records.specs.Page.{zero_summary}
use Rattle.answers.specs.Design.{Design, Served}
use Rattle.answers.specs.Hashing.{next_summary, binding_of, valid, bound_record}
use Rattle.answers.specs.Judging.{Verdict, by_service, offered, perform_verdict, looked, shown, view_verdict, resume_verdict}
use Rattle.answers.specs.Answers.{opened, Performed, performed, repeated}

-- ---- a record on a page

-- it reads as a state, a summary, and the authenticator of their binding under the page's key; so test 7 passes
pub record Reads (D : Design) (page l state summary : List ℕ) : Type 0 where
  pub state_is : D.state_bytes l ≡ state
  pub summary_is : D.summary l ≡ summary
  pub authenticator_is : D.authenticator l ≡ D.mac page (binding_of D summary state)
  pub validity : valid D page l ≡ true

-- it passes the tests 3, 4 and 5 and is current: resume hands it back, and where the tests before 7 pass, perform and view get past 8
-- and go on with the state
pub record Stands (D : Design) (page l state : List ℕ) : Type 0 where
  pub passes : D.tested l ≡ Ok tt
  pub resumes : resume_verdict D page l ≡ Verdict.good state
  pub performs : (request answer : List ℕ) → offered D page l request answer ≡ Ok tt
      → perform_verdict D page l request answer ≡ by_service (D.served state request)
  pub views : (rack : ℕ) → looked D page l rack ≡ Ok tt → view_verdict D page l rack ≡ shown D state rack

-- ---- what a call has written

-- the record at the front of an answer buffer
abbrev pub front : Design → List ℕ → List ℕ
front D answer = part 0 D.record_size answer

-- `after` is `before` with such a record in front, and every byte behind it as it was
pub record Wrote (D : Design) (page before after state summary : List ℕ) : Type 0 where
  pub is : front D after ≡ bound_record D page summary state
  pub reads : Reads D page (front D after) state summary
  pub rest : drop D.record_size after ≡ drop D.record_size before
  pub size : length after ≡ length before

-- perform and repeat: the request's next state, bound to the next summary, which the page then holds
pub record Answered (D : Design) (l request answer : List ℕ) (p : Performed) : Type 0 where
  pub state : List ℕ
  pub carries : D.served (D.state_bytes l) request ≡ Served.carried state
  pub figure : p.stored ≡ D.stored_after state request
  pub holds : D.page_summary p.page ≡ next_summary D (D.summary l) request
  pub wrote : Wrote D p.page answer p.answer state (next_summary D (D.summary l) request)

-- ---- what is proved: of every accepted call

pub record ReadsBack (D : Design) : Type 0 where
  pub opens : (page answer : List ℕ) → (opened D page answer).number ≡ 0
      → (D.page_summary (opened D page answer).page ≡ zero_summary)
      × Wrote D (opened D page answer).page answer (opened D page answer).answer D.first_bytes zero_summary
  pub performs : (page l request answer : List ℕ) → (performed D page l request answer).number ≡ 0
      → Answered D l request answer (performed D page l request answer)
  pub repeats : (page l request answer : List ℕ) → (repeated D page l request answer).number ≡ 0
      → Answered D l request answer (repeated D page l request answer)

-- the record at the front is current on the page then left, with the state that it reads as
pub record AnswersStand (D : Design) : Type 0 where
  pub opens : (page answer : List ℕ) → (opened D page answer).number ≡ 0
      → Stands D (opened D page answer).page (front D (opened D page answer).answer) D.first_bytes
  pub performs : (page l request answer : List ℕ) → (performed D page l request answer).number ≡ 0
      → Stands D (performed D page l request answer).page (front D (performed D page l request answer).answer)
      (D.state_bytes (front D (performed D page l request answer).answer))
  pub repeats : (page l request answer : List ℕ) → (repeated D page l request answer).number ≡ 0
      → Stands D (repeated D page l request answer).page (front D (repeated D page l request answer).answer)
      (D.state_bytes (front D (repeated D page l request answer).answer))
