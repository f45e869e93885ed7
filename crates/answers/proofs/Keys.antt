-- The page's key is never changed by a call. The idea: only an accepted perform writes to the page, and it lays 32 bytes over the first 32.
-- Assumes nothing.
use mathlib.Core.Path.{◌≡◌, refl, ap, ◌∙◌}
use Prim.Native.Nat.{ℕ}
use native.Mathlib.Decide.{ℕ_discrete}
use mathlib.Core.List.{List}
use borrow.Author.Tests.{eqb-true}
use Rattle.std.specs.Prelude.{Ok, Err}
use Rattle.refusals.specs.Tested.{Tested}
use Rattle.records.specs.Form.{Form}
use Rattle.records.specs.Page.{page_key, page_of}
use Rattle.records.specs.Record.{summary}
use Rattle.answers.specs.Design.{Design}
use Rattle.answers.specs.Hashing.{next_summary}
use Rattle.answers.specs.Judging.{Verdict, repeat_verdict}
use Rattle.answers.specs.Answers.{Performed, open_tests, opened_by, opened, answered_by, performed, repeated}
use Rattle.answers.specs.Edition.{design}
use Rattle.answers.specs.Unchanged.{KeyStays}
use Rattle.answers.proofs.Accepted.{perform_passed, perform_is}
use Rattle.answers.proofs.Pages.{key_put, page_put}
use Rattle.answers.proofs.Refusals.{refusals_change_nothing}
use Rattle.answers.proofs.ReadsBack.{length_next}

-- over any design, open and repeat leave the whole page
open_leaves : (D : Design) (page answer : List ℕ) (t : Tested) → (opened_by D page answer t).page ≡ page
open_leaves D page answer (Err r) = refl
open_leaves D page answer (Ok x) = refl

repeat_leaves : (D : Design) (page l request answer : List ℕ) (v : Verdict) → (answered_by D page l request answer page v).page ≡ page
repeat_leaves D page l request answer (Verdict.early r) = refl
repeat_leaves D page l request answer Verdict.forged = refl
repeat_leaves D page l request answer Verdict.stale = refl
repeat_leaves D page l request answer (Verdict.barred r) = refl
repeat_leaves D page l request answer (Verdict.good state) = refl

pub open_page : (D : Design) (page answer : List ℕ) → (opened D page answer).page ≡ page
unfolding opened
open_page D page answer = open_leaves D page answer (open_tests D page answer)

pub repeat_page : (D : Design) (page l request answer : List ℕ) → (repeated D page l request answer).page ≡ page
unfolding repeated
repeat_page D page l request answer = repeat_leaves D page l request answer (repeat_verdict D page l request answer)

pub perform_key : (f : Form) (page l request answer : List ℕ) → page_key (performed (design f) page l request answer).page ≡ page_key page
perform_key f page l request answer = by (ℕ_discrete (performed (design f) page l request answer).number 0)
  where
    by : Dec ((performed (design f) page l request answer).number ≡ 0) → page_key (performed (design f) page l request answer).page ≡ page_key page
    by (yes accepted) =
        let (state, p) = perform_passed (design f) page l request answer accepted in
        ap (λ (p : Performed). page_key p.page) (perform_is (design f) page l request answer state p)
        ∙ key_put page (next_summary (design f) (summary f l) request) (eqb-true _ _ p.right) (length_next f (summary f l) request)
    by (no refused) = ap page_key ((refusals_change_nothing (design f)).performs page l request answer refused).page_stays

perform_moves : (f : Form) (page l request answer : List ℕ) → (performed (design f) page l request answer).number ≡ 0
    → (performed (design f) page l request answer).page ≡ page_of (next_summary (design f) (summary f l) request) (page_key page)
perform_moves f page l request answer accepted =
    let (state, p) = perform_passed (design f) page l request answer accepted in
    ap (λ (p : Performed). p.page) (perform_is (design f) page l request answer state p)
    ∙ page_put page (next_summary (design f) (summary f l) request) (eqb-true _ _ p.right) (length_next f (summary f l) request)

pub key_stays : (f : Form) → KeyStays f
key_stays f = record { opens = open_page (design f); performs = perform_key f; repeats = repeat_page (design f); moves = perform_moves f }
