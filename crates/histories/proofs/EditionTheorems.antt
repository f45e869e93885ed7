-- The third condition, the afternoon and the duty for the keeper that ships, under the condition's own premises and under those that the
-- argument needs. The idea: each is the theorem over any design at this edition; the racks' figures and the sums come from the replay of
-- the charge rules. Assumes nothing.
use mathlib.Core.Path.{◌≡◌, ap, ◌∙◌}
use mathlib.Core.Logic.{⊎_elim}
use Prim.Native.Nat.{ℕ, ◌<◌}
use native.Mathlib.Omega.{arith}
use mathlib.Core.List.Memᴰ
use mathlib.Core.List.{List, [], ◌∷◌, Memᴰ}
use Rattle.refusals.specs.declared.Refusal.TheVariants.{Current}
use Rattle.refusals.specs.Numbers.{number_of}
use Rattle.racks.specs.Layout.{state_of}
use Rattle.racks.specs.Edition.{racks}
use Rattle.rules.proofs.Replays.{total-replay}
use Rattle.records.specs.Form.{version1}
use Rattle.records.specs.Record.{state_bytes, state}
use Rattle.answers.specs.Edition.{this_edition}
use Rattle.histories.specs.Calls.{performs}
use Rattle.histories.specs.Runs.{cut_before, Run, Fresh, in_run}
use Rattle.histories.specs.Laws.{Laws}
use Rattle.histories.specs.Premises.{Premises, FewerPremises, HashPremise}
use Rattle.histories.specs.Statements.{Replayed, NoSummaryReturns, OldRecordsAreRefused}
use Rattle.histories.specs.Duty.{Duty, DutyWithoutPerform}
use Rattle.histories.specs.Ties.{DidByNumber, NumberLaws}
use Rattle.histories.specs.Closed.{TrueRecord, TakenAreTrue, PerformedAreTrue, ViewedAreTrue, ResumedAreTrue, AnsweredAreTrue}
use Rattle.histories.proofs.Moments.{condition_three}
use Rattle.histories.proofs.Ties.{did_by_number}
use Rattle.histories.proofs.ConditionThree.{performed-replayed, viewed-replayed, resumed-replayed, answered-replayed}
use Rattle.histories.proofs.Afternoon.{no_summary_returns, old_records_refused}
use Rattle.histories.proofs.Duty.{duty, duty_without_perform}
use Rattle.histories.proofs.Literal.{needed_hashed, fewer_hashes, fewer}
use Rattle.histories.proofs.EditionLaws.{laws, number_laws}
use Rattle.histories.proofs.EditionBook.{reads_back, books}

-- a record that holds what the service gives for the requests that moved the page has a true book
true_record : (fresh : List ℕ) (older : Run) (l : List ℕ) → Replayed this_edition fresh older l → TrueRecord fresh older l
true_record fresh older l e =
    let b = books version1 _ (state_bytes version1 l) e in
    let read : state version1 l ≡ b.state = ap (state_of racks) b.written ∙ reads_back racks b.state b.racks b.good in
    rw read (record { racks_are = b.replays; charge_is = total-replay racks b.state _ b.replays })

these_laws : Laws this_edition
these_laws = laws version1

these_numbers : NumberLaws this_edition
these_numbers = number_laws version1

-- 9, 10 and 11 come behind 8
one_of : (k : ℕ) → Memᴰ k (0 ∷ 9 ∷ 10 ∷ 11 ∷ []) → (A : Type 0) → (k ≡ 0 → A) → (number_of Current < k → A) → A
one_of k m A zero past =
    ⊎_elim zero (λ a. ⊎_elim (λ e. past (omega arith)) (λ b. ⊎_elim (λ e. past (omega arith)) (λ c. ⊎_elim (λ e. past (omega arith)) (λ d. absurd (Memᴰ.not-nil d))
    (Memᴰ.cases_cons c)) (Memᴰ.cases_cons b)) (Memᴰ.cases_cons a)) (Memᴰ.cases_cons m)

-- ---- under the premises that the argument needs

module _ (fresh : List ℕ) (f : Fresh this_edition fresh) (run : Run) (p : FewerPremises this_edition fresh run) where
  pub taken_are_true_by_fewer : TakenAreTrue fresh run
  taken_are_true_by_fewer newer older s e l m = true_record fresh older l (condition_three this_edition these_laws fresh f run p newer older s e l m)

  pub performed_are_true_by_fewer : PerformedAreTrue fresh run
  performed_are_true_by_fewer newer older s e l request answer is m =
      let r = performed-replayed this_edition these_laws these_numbers fresh f run p newer older s e l request answer is in
      true_record fresh older l (one_of _ m (Replayed this_edition fresh older l) r.0 r.1)

  pub viewed_are_true_by_fewer : ViewedAreTrue fresh run
  viewed_are_true_by_fewer newer older s e l rack is zero =
      let v = viewed-replayed this_edition these_laws these_numbers fresh f run p newer older s e l rack is zero in
      (true_record fresh older l v.0, v.1)

  pub resumed_are_true_by_fewer : ResumedAreTrue fresh run
  resumed_are_true_by_fewer newer older s e in_ram on_disk is =
      let r = resumed-replayed this_edition these_laws these_numbers fresh f run p newer older s e in_ram on_disk is in
      (λ ram. true_record fresh older in_ram (r.0 ram), λ disk. true_record fresh older on_disk (r.1 disk))

-- ---- under the condition's own premises

module _ (fresh : List ℕ) (f : Fresh this_edition fresh) (run : Run) (p : Premises this_edition fresh run) where
  pub taken_are_true : TakenAreTrue fresh run
  taken_are_true = taken_are_true_by_fewer fresh f run (fewer this_edition fresh run p)

  pub performed_are_true : PerformedAreTrue fresh run
  performed_are_true = performed_are_true_by_fewer fresh f run (fewer this_edition fresh run p)

  pub viewed_are_true : ViewedAreTrue fresh run
  viewed_are_true = viewed_are_true_by_fewer fresh f run (fewer this_edition fresh run p)

  pub resumed_are_true : ResumedAreTrue fresh run
  resumed_are_true = resumed_are_true_by_fewer fresh f run (fewer this_edition fresh run p)

  pub answered_are_true : AnsweredAreTrue fresh run
  answered_are_true l on_disk handed answered clear =
      true_record fresh run l
      (answered-replayed this_edition these_laws fresh f run (fewer this_edition fresh run p).unforged (in_run (λ d. d.hashed)) (needed_hashed this_edition fresh run)
      l on_disk handed answered clear)

-- ---- under the premise on hashes alone

module _ (fresh : List ℕ) (f : Fresh this_edition fresh) (run : Run) (clear : HashPremise this_edition fresh run) where
  pub no_summary_of_the_page_returns : NoSummaryReturns this_edition fresh run
  no_summary_of_the_page_returns = no_summary_returns this_edition these_laws fresh f run (fewer_hashes this_edition fresh run clear)

  pub old_records_are_refused : OldRecordsAreRefused this_edition fresh run
  old_records_are_refused = old_records_refused this_edition these_laws fresh f run (fewer_hashes this_edition fresh run clear) these_numbers

module _ (fresh : List ℕ) (f : Fresh this_edition fresh) (older : Run) (l request answer : List ℕ)
    (clear : HashPremise this_edition fresh (cut_before (performs l request answer) ∷ older)) where
  pub one_retry_is_accepted : Duty this_edition fresh older l request answer
  one_retry_is_accepted = duty this_edition these_laws fresh f older l request answer (fewer_hashes this_edition fresh (cut_before (performs l request answer) ∷ older) clear)

  pub one_retry_is_accepted_without_perform : DutyWithoutPerform this_edition fresh older l request answer
  one_retry_is_accepted_without_perform = duty_without_perform this_edition these_laws fresh f older l request answer (fewer_hashes this_edition fresh (cut_before (performs l request answer) ∷ older) clear)

-- ---- without any premise: what a call did is what its number says

pub this_did_by_number : (page : List ℕ) → DidByNumber this_edition page
this_did_by_number = did_by_number this_edition these_numbers
