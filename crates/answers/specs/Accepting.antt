-- Document 01, 'The five calls': what perform and repeat need. They are accepted just where the tests 1 to 7 pass, the record is current
-- as the call defines it, and the charge rules carry the request out. Assumes nothing.
use Rattle.std.specs.Prelude.{◌≡◌, true, ℕ, ◌≤◌, List, length, Ok}
use Rattle.answers.specs.Design.{Design, Served}
use Rattle.answers.specs.Hashing.{next_summary, binding_in}
use Rattle.answers.specs.Judging.{Verdict}
use Rattle.answers.specs.Answers.{answered_by, performed, repeated}

-- what the tests say: `summary` is the one that the call wants to be the page's, and the request leads to `state`
pub record Passing (D : Design) (page l request answer summary state : List ℕ) : Type 0 where
  pub right : D.right_page page ≡ true
  pub room : D.record_size ≤ length answer
  pub tests : D.tested l ≡ Ok tt
  pub formed : D.formed request ≡ true
  pub authentic : D.authenticator l ≡ D.mac page (binding_in D l)
  pub current : summary ≡ D.page_summary page
  pub carries : D.served (D.state_bytes l) request ≡ Served.carried state

-- perform wants the record's summary, repeat that summary moved on by the request
abbrev pub PerformPassing : Design → List ℕ → List ℕ → List ℕ → List ℕ → List ℕ → Type 0
PerformPassing D page l request answer state = Passing D page l request answer (D.summary l) state

abbrev pub RepeatPassing : Design → List ℕ → List ℕ → List ℕ → List ℕ → List ℕ → Type 0
RepeatPassing D page l request answer state = Passing D page l request answer (next_summary D (D.summary l) request) state

-- the page that an accepted perform leaves
abbrev pub page_next : Design → List ℕ → List ℕ → List ℕ → List ℕ
page_next D page l request = D.with_summary page (next_summary D (D.summary l) request)

-- an accepted call has passed, and what has passed is answered so
pub record AcceptedJustWhere (D : Design) : Type 0 where
  pub performs : (page l request answer : List ℕ) → (performed D page l request answer).number ≡ 0 → (state : List ℕ) × PerformPassing D page l request answer state
  pub perform_answers : (page l request answer state : List ℕ) → PerformPassing D page l request answer state
      → performed D page l request answer ≡ answered_by D page l request answer (page_next D page l request) (Verdict.good state)
  pub repeats : (page l request answer : List ℕ) → (repeated D page l request answer).number ≡ 0 → (state : List ℕ) × RepeatPassing D page l request answer state
  pub repeat_answers : (page l request answer state : List ℕ) → RepeatPassing D page l request answer state
      → repeated D page l request answer ≡ answered_by D page l request answer page (Verdict.good state)
