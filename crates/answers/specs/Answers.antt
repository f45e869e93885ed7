-- Document 01, 'The five calls': what each call answers, for every content and length of what it is lent. An answer is 01's number,
-- the figures, and what the page and the answer buffer hold afterwards. A refusal gives its number, zeros for every other figure,
-- and both as they were. Assumes nothing.
use Rattle.std.specs.Prelude.{ℕ, Bool, true, false, List, length, leb, Ok, Err}
use Rattle.numbers.specs.Parts.{over}
use Rattle.numbers.specs.Comparing.{same}
use Rattle.refusals.specs.declared.Refusal.TheVariants.{Page, Answer, Fresh}
use Rattle.refusals.specs.Numbers.{number_of}
use Rattle.refusals.specs.Tested.{Tested}
use Rattle.records.specs.Page.{zero_summary}
use Rattle.answers.specs.Design.{Design, Figures}
use Rattle.answers.specs.Hashing.{next_summary, bound_record}
use Rattle.answers.specs.Judging.{unless, and_then, Verdict, number, perform_verdict, repeat_verdict, view_verdict, resume_verdict}

-- ---- open

-- a number, and what page and answer buffer hold then; a C caller gets no more of perform and repeat either
pub record Outcome : Type 0 where
  pub number : ℕ
  pub page : List ℕ
  pub answer : List ℕ

-- tests 1, 2 and 13
unfoldable pub open_tests : Design → List ℕ → List ℕ → Tested
open_tests D page answer =
    and_then (unless (D.right_page page) Page)
    (and_then (unless (leb D.record_size (length answer)) Answer)
    (unless (same (D.page_summary page) zero_summary) Fresh))

-- the first record, with summary zero and its authenticator; the page stays as it is
abbrev pub opened_by : Design → List ℕ → List ℕ → Tested → Outcome
opened_by D page answer (Err r) = record { number = number_of r; page = page; answer = answer }
opened_by D page answer (Ok x) = record { number = 0; page = page; answer = over 0 (bound_record D page zero_summary D.first_bytes) answer }

unfoldable pub opened : Design → List ℕ → List ℕ → Outcome
opened D page answer = opened_by D page answer (open_tests D page answer)

-- ---- perform and repeat

pub record Performed : Type 0 where
  pub number : ℕ
  pub stored : ℕ
  pub page : List ℕ
  pub answer : List ℕ

-- nothing is written
abbrev pub refusal : ℕ → List ℕ → List ℕ → Performed
refusal k page answer = record { number = k; stored = 0; page = page; answer = answer }

-- the record that a request leads to from a record, its state being given: that state bound to the next summary
abbrev pub next_record : Design → List ℕ → List ℕ → List ℕ → List ℕ → List ℕ
next_record D page l request state = bound_record D page (next_summary D (D.summary l) request) state

-- a good record: the next one is written to the front of the answer, and the page becomes `after`
abbrev pub answered_by : Design → List ℕ → List ℕ → List ℕ → List ℕ → List ℕ → Verdict → Performed
answered_by D page l request answer after (Verdict.good state) =
    record { number = 0; stored = D.stored_after state request; page = after; answer = over 0 (next_record D page l request state) answer }
answered_by D page l request answer after (Verdict.early r) = refusal (number (Verdict.early r)) page answer
answered_by D page l request answer after Verdict.forged = refusal (number Verdict.forged) page answer
answered_by D page l request answer after Verdict.stale = refusal (number Verdict.stale) page answer
answered_by D page l request answer after (Verdict.barred r) = refusal (number (Verdict.barred r)) page answer

-- perform puts the next summary in the page
unfoldable pub performed : Design → List ℕ → List ℕ → List ℕ → List ℕ → Performed
performed D page l request answer =
    answered_by D page l request answer (D.with_summary page (next_summary D (D.summary l) request)) (perform_verdict D page l request answer)

-- repeat leaves the page as it is
unfoldable pub repeated : Design → List ℕ → List ℕ → List ℕ → List ℕ → Performed
repeated D page l request answer = answered_by D page l request answer page (repeat_verdict D page l request answer)

-- ---- view

pub record Viewed : Type 0 where
  pub number : ℕ
  pub figures : Figures

abbrev pub no_figures : Figures
no_figures = record { stored = 0; capacity = 0; percent = 0; total = 0 }

abbrev pub viewed_by : Design → ℕ → Verdict → Viewed
viewed_by D rack (Verdict.good state) = record { number = 0; figures = D.figures state rack }
viewed_by D rack (Verdict.early r) = record { number = number (Verdict.early r); figures = no_figures }
viewed_by D rack Verdict.forged = record { number = number Verdict.forged; figures = no_figures }
viewed_by D rack Verdict.stale = record { number = number Verdict.stale; figures = no_figures }
viewed_by D rack (Verdict.barred r) = record { number = number (Verdict.barred r); figures = no_figures }

unfoldable pub viewed : Design → List ℕ → List ℕ → ℕ → Viewed
viewed D page l rack = viewed_by D rack (view_verdict D page l rack)

-- ---- resume

-- which of the two records is handed back
pub data Resumed : Type 0 where
  neither : Resumed
  ram : Resumed
  disk : Resumed

-- 01's numbers for them
abbrev pub resumed_number : Resumed → ℕ
resumed_number Resumed.neither = 0
resumed_number Resumed.ram = 1
resumed_number Resumed.disk = 2

abbrev pub is_good : Verdict → Bool
is_good (Verdict.good state) = true
is_good (Verdict.early r) = false
is_good Verdict.forged = false
is_good Verdict.stale = false
is_good (Verdict.barred r) = false

-- if both are current it is the RAM one; the disk one counts only where RAM's is not current
abbrev pub resumed_by : Bool → Bool → Resumed
resumed_by true d = Resumed.ram
resumed_by false true = Resumed.disk
resumed_by false false = Resumed.neither

unfoldable pub resumed : Design → List ℕ → List ℕ → List ℕ → Resumed
resumed D page in_ram on_disk = resumed_by (is_good (resume_verdict D page in_ram)) (is_good (resume_verdict D page on_disk))
