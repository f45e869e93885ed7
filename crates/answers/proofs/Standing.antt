-- The records that open, perform and repeat write are current on the page that they leave. The idea: each reads back as what was bound,
-- passes the tests 3, 4 and 5, and its summary is the page's. Assumes nothing.
use mathlib.Core.Path.{◌≡◌, sym, ap, ◌∙◌}
use mathlib.Core.Bool.{true}
use Prim.Native.Nat.{ℕ}
use mathlib.Core.List.{List}
use lib.ListN.{length}
use borrow.Author.Tests.{eqb-true, eq-eqb}
use Rattle.std.specs.Prelude.{Ok}
use Rattle.numbers.proofs.Comparison.{same_iff}
use Rattle.racks.specs.Racks.{first_state}
use Rattle.racks.specs.Layout.{bytes_of_state}
use Rattle.records.proofs.FormLaws.{Fits}
use Rattle.records.specs.Form.{Form}
use Rattle.records.specs.Page.{hash_size, page_size, zero_summary}
use Rattle.records.specs.Record.{summary, state_bytes}
use Rattle.records.specs.Tests.{tested}
use Rattle.answers.specs.Design.{Design}
use Rattle.answers.specs.Hashing.{next_summary, bound_record}
use Rattle.answers.specs.Judging.{perform_verdict, view_verdict, resume_verdict}
use Rattle.answers.specs.Answers.{Performed, opened, performed, repeated}
use Rattle.answers.specs.Edition.{design}
use Rattle.answers.specs.Written.{Reads, Stands, front, Answered, AnswersStand}
use Rattle.answers.proofs.Tests.{opening}
use Rattle.answers.proofs.Accepted.{perform_passed, perform_is, repeat_passed, repeat_is, open_passed, open_is}
use Rattle.answers.proofs.Pages.{length_put}
use Rattle.answers.proofs.States.{GoodBytes, first_good, record_good, served_good}
use Rattle.answers.proofs.Records.{bound-passes}
use Rattle.answers.proofs.ReadsBack.{length-zero_summary, length_next, reads_back}

-- over any design: what makes a record current on a page
pub stands : (D : Design) (page l state summary : List ℕ) → D.right_page page ≡ true → D.tested l ≡ Ok tt → Reads D page l state summary
    → D.page_summary page ≡ summary → Stands D page l state
unfolding perform_verdict view_verdict resume_verdict
stands D page l state summary right passes reads holds =
    let current = (same_iff (D.summary l) (D.page_summary page)).1 (reads.summary_is ∙ sym holds) in
    record {
      passes = passes;
      resumes = rw (right, passes, reads.validity, current, reads.state_is);
      performs = λ request answer offered. rw (offered, reads.validity, current, reads.state_is);
      views = λ rack looked. rw (looked, reads.validity, current, reads.state_is);
    }

module _ (f : Form) (fits : Fits f) where
  -- a good state bound to a summary passes the tests, whatever page it was bound on
  passes : (page s state l : List ℕ) → length s ≡ hash_size → GoodBytes f.racks state → l ≡ bound_record (design f) page s state → tested f l ≡ Ok tt
  passes page s state l wide good is = ap (tested f) is ∙ bound-passes f page s state wide good.size fits good.good

  open_stands : (page answer : List ℕ) → (opened (design f) page answer).number ≡ 0
      → Stands (design f) (opened (design f) page answer).page (front (design f) (opened (design f) page answer).answer) (bytes_of_state (first_state f.racks))
  open_stands page answer e =
      let w = (reads_back f).opens page answer e in
      let passed = open_passed (design f) page answer e in
      stands (design f) _ _ _ zero_summary (rw (open_is (design f) page answer passed) (opening (design f) page answer passed).right)
      (passes _ zero_summary _ _ length-zero_summary (first_good f.racks) w.1.is) w.1.reads w.0

  -- what perform or repeat has answered, on a page of its size, from a record that has passed its tests
  answered_stands : (l request answer : List ℕ) (p : Performed) → Answered (design f) l request answer p → tested f l ≡ Ok tt
      → length p.page ≡ page_size → Stands (design f) p.page (front (design f) p.answer) (state_bytes f (front (design f) p.answer))
  answered_stands l request answer p w passed long =
      let good = served_good f.racks (state_bytes f l) request w.state (record_good f l passed) w.carries in
      rw w.wrote.reads.state_is
      (stands (design f) _ _ w.state _ (eq-eqb _ _ long)
      (passes _ _ w.state _ (length_next f (summary f l) request) good w.wrote.is) w.wrote.reads w.holds)

  perform_stands : (page l request answer : List ℕ) → (performed (design f) page l request answer).number ≡ 0
      → Stands (design f) (performed (design f) page l request answer).page (front (design f) (performed (design f) page l request answer).answer)
      (state_bytes f (front (design f) (performed (design f) page l request answer).answer))
  perform_stands page l request answer e =
      let (state, p) = perform_passed (design f) page l request answer e in
      let put = length_put page (next_summary (design f) (summary f l) request) (eqb-true _ _ p.right) (length_next f (summary f l) request) in
      let is = perform_is (design f) page l request answer state p in
      answered_stands l request answer _ ((reads_back f).performs page l request answer e) p.tests (ap (λ (p : Performed). length p.page) is ∙ put)

  repeat_stands : (page l request answer : List ℕ) → (repeated (design f) page l request answer).number ≡ 0
      → Stands (design f) (repeated (design f) page l request answer).page (front (design f) (repeated (design f) page l request answer).answer)
      (state_bytes f (front (design f) (repeated (design f) page l request answer).answer))
  repeat_stands page l request answer e =
      let (state, p) = repeat_passed (design f) page l request answer e in
      let is = repeat_is (design f) page l request answer state p in
      answered_stands l request answer _ ((reads_back f).repeats page l request answer e) p.tests (ap (λ (p : Performed). length p.page) is ∙ eqb-true _ _ p.right)

  pub answers_stand : AnswersStand (design f)
  answers_stand = record { opens = open_stands; performs = perform_stands; repeats = repeat_stands }
