-- The afternoon: no summary that the page has held returns after it has moved on, and a record for such a summary is refused. The idea: at
-- both moments the page stands at the end of a path, and equal ends have equal paths; and what is taken has the page's summary. Nothing is
-- asked of authenticators. Assumes nothing.
use mathlib.Core.Path.{◌≡◌, refl, sym, ap, ◌∙◌}
use mathlib.Core.Bool.{Bool, true, false}
use Prim.Native.Nat.{ℕ, zero, suc, ◌<◌}
use native.Mathlib.Omega.{arith}
use mathlib.Core.List.{List, [], Memᴰ}
use lib.Dec.{leb}
use borrow.Author.Tests.{leb-true, leb-false}
use Rattle.refusals.specs.declared.Refusal.TheVariants.{Current}
use Rattle.refusals.specs.Numbers.{number_of}
use Rattle.numbers.specs.Comparing.{same}
use Rattle.answers.specs.Design.{Design}
use Rattle.answers.specs.Hashing.{next_summary}
use Rattle.answers.specs.Judging.{number, by_service, shown, perform_verdict, view_verdict, resume_verdict}
use Rattle.answers.specs.Answers.{performed, viewed}
use Rattle.answers.proofs.Refusals.{refusals_change_nothing}
use Rattle.histories.specs.Calls.{Call, performs, views}
use Rattle.histories.specs.Did.{did}
use Rattle.histories.specs.Runs.{Run, Fresh, page_after, moved_before}
use Rattle.histories.specs.Laws.{Laws}
use Rattle.histories.specs.Ties.{PastTest, NumberLaws}
use Rattle.histories.specs.Premises.{FewerHashPremise}
use Rattle.histories.specs.Statements.{NoSummaryReturns, UpToEight, OldRecordsAreRefused}
use Rattle.histories.proofs.Paths.{one_path}
use Rattle.histories.proofs.Verdicts.{differ, judged-stale, good_past, resume_fits, ram_good, disk_good}
use Rattle.histories.proofs.Inversions.{deed}
use Rattle.histories.proofs.Invariant.{needed_in}
use Rattle.histories.proofs.Moments.{stands_at}
use Rattle.histories.proofs.Ties.{answered_number, viewed_number, did_by_number}

-- ---- a record that is not taken has a number from 1 to 8

up_to_eight : (k : ℕ) (b : Bool) → leb k (number_of Current) ≡ b → (k ≡ 0 → ⊥) → (number_of Current < k → ⊥) → UpToEight k
up_to_eight zero b e some low = absurd (some refl)
up_to_eight (suc k) true e some low = record { refused = omega arith; before = leb-true (suc k) (number_of Current) e }
up_to_eight (suc k) false e some low = absurd (low (leb-false (suc k) (number_of Current) e))

not_taken : (k : ℕ) (l : List ℕ) (taken : List (List ℕ)) → PastTest (number_of Current) k l taken → (Memᴰ l taken → ⊥) → UpToEight k
not_taken k l taken tie never =
    up_to_eight k (leb k (number_of Current)) refl
    (λ zero. never (rw (tie.accepted zero) (Memᴰ.head refl))) (λ past. never (rw (tie.behind past) (Memᴰ.head refl)))

-- ---- the run

module _ (D : Design) (laws : Laws D) (fresh : List ℕ) (f : Fresh D fresh) (run : Run) (clear : FewerHashPremise D fresh run) where
  pub no_summary_returns : NoSummaryReturns D fresh run
  no_summary_returns newer older e back =
      let now = stands_at D laws fresh f run [] run refl in
      let then = stands_at D laws fresh f run newer older e in
      one_path D laws (needed_in D fresh run) clear (moved_before D fresh run) (moved_before D fresh older) now.walked then.walked
      (sym now.ends ∙ back ∙ then.ends)

  pub old_records_refused : NumberLaws D → OldRecordsAreRefused D fresh run
  unfolding performed perform_verdict viewed view_verdict
  old_records_refused numbers newer older e on l of =
      let page = page_after D fresh run in
      let ties = did_by_number D numbers page in
      let old : D.summary l ≡ D.page_summary page → ⊥ = λ same. on (no_summary_returns newer older e (sym same ∙ of)) in
      let other : same (D.summary l) (D.page_summary page) ≡ false = differ (D.summary l) (D.page_summary page) old in
      let never : (c : Call) → Memᴰ l (did D page c).taken → ⊥ = λ c m. old ((deed D page c).takens l m).fits.current in
      record {
        perform = λ request answer.
            let refused = not_taken _ l _ (ties.perform_taken l request answer) (never (performs l request answer)) in
            (refused, (refusals_change_nothing D).performs page l request answer (λ zero. absurd (omega (arith, refused.refused))));
        perform_eight = λ request answer tests seven.
            answered_number D page l request answer (D.with_summary page (next_summary D (D.summary l) request)) (perform_verdict D page l request answer)
            ∙ ap number (judged-stale (by_service (D.served (D.state_bytes l) request)) tests seven other);
        view = λ rack. not_taken _ l _ (ties.view_taken l rack) (never (views l rack));
        view_eight = λ rack tests seven.
            viewed_number D page l rack (view_verdict D page l rack) ∙ ap number (judged-stale (shown D (D.state_bytes l) rack) tests seven other);
        in_ram = λ on_disk ram. old (resume_fits D page l (good_past (resume_verdict D page l) (ram_good D page l on_disk ram))).current;
        on_disk = λ in_ram disk. old (resume_fits D page l (good_past (resume_verdict D page l) (disk_good D page in_ram l disk))).current;
      }
