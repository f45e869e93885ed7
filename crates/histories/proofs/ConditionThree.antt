-- The third condition call by call, over any design: the record of a perform or a view past test 8, the one that resume hands back, and
-- one that was answered though no call took it. The idea: the numbers say what was taken. Assumes nothing.
use mathlib.Core.Path.{◌≡◌, refl}
use Prim.Native.Nat.{ℕ}
use mathlib.Core.List.Memᴰ
use mathlib.Core.List.{List, [], ◌∷◌, ◌++◌, Memᴰ}
use Rattle.answers.specs.Design.{Design}
use Rattle.answers.specs.Judging.{resume_verdict}
use Rattle.histories.specs.Calls.{performs, views, resumes}
use Rattle.histories.specs.Did.{Did, record_messages, did}
use Rattle.histories.specs.Runs.{Step, Run, Fresh, page_after, done_by, answered_before, moved_before}
use Rattle.histories.specs.Laws.{Laws}
use Rattle.histories.specs.Premises.{Unforged, FewerPremises}
use Rattle.histories.specs.Statements.{Replayed, PerformedAreReplayed, ViewedAreReplayed, ResumedAreReplayed, AnsweredAreReplayed}
use Rattle.histories.specs.Ties.{NumberLaws}
use Rattle.histories.proofs.Paths.{Within}
use Rattle.histories.proofs.Verdicts.{good_past, resume_fits, view_accepted, ram_good}
use Rattle.histories.proofs.Invariant.{needed_in, stands_after, tree_after, rests_on, rests_here}
use Rattle.histories.proofs.Moments.{condition_three}
use Rattle.histories.proofs.Ties.{did_by_number}

module _ (D : Design) (laws : Laws D) (numbers : NumberLaws D) (fresh : List ℕ) (f : Fresh D fresh) (run : Run) (p : FewerPremises D fresh run) where
  -- a record that is the one that a step took
  only_taken : (newer older : Run) (s : Step) → run ≡ newer ++ s ∷ older → (l : List ℕ) (d : Did) → done_by D fresh older s ≡ d → d.taken ≡ l ∷ [] → Replayed D fresh older l
  only_taken newer older s e l d is taken = condition_three D laws fresh f run p newer older s e l (rw (is, taken) (Memᴰ.head refl))

  pub performed-replayed : PerformedAreReplayed D fresh run
  performed-replayed newer older s e l request answer is =
      let page = page_after D fresh older in
      let tie = (did_by_number D numbers page).perform_taken l request answer in
      let d = did D page (performs l request answer) in
      (λ zero. only_taken newer older s e l d (rw is refl) (tie.accepted zero), λ past. only_taken newer older s e l d (rw is refl) (tie.behind past))

  pub viewed-replayed : ViewedAreReplayed D fresh run
  viewed-replayed newer older s e l rack is zero =
      let page = page_after D fresh older in
      let tie = (did_by_number D numbers page).view_taken l rack in
      (only_taken newer older s e l (did D page (views l rack)) (rw is refl) (tie.accepted zero), view_accepted D page l rack zero)

  pub resumed-replayed : ResumedAreReplayed D fresh run
  resumed-replayed newer older s e in_ram on_disk is =
      let page = page_after D fresh older in
      let tie = (did_by_number D numbers page).resume_taken in_ram on_disk in
      let d = did D page (resumes in_ram on_disk) in (
        λ ram. only_taken newer older s e in_ram d (rw is refl) (rw ram at tie),
        λ disk. only_taken newer older s e on_disk d (rw is refl) (rw disk at tie),
      )

-- a record that was answered, though no call took it: the invariant among the messages of the run and its own
pub answered-replayed : (D : Design) → Laws D → (fresh : List ℕ) → Fresh D fresh → (run : Run) → Unforged (λ d. d.relied) D fresh run
    → (messages : Design → List ℕ → Run → List (List ℕ)) → Within (needed_in D fresh run) (messages D fresh run) → AnsweredAreReplayed messages D fresh run
answered-replayed D laws fresh f run unforged messages all l on_disk handed answered clear =
    let page = page_after D fresh run in
    let counted = record_messages D l ++ messages D fresh run in
    let hashed : Within (needed_in D fresh run) counted = λ x m. Memᴰ.append_right (record_messages D l) (all x m) in
    let fits = resume_fits D page l (good_past (resume_verdict D page l) (ram_good D page l on_disk handed)) in
    rests_here D laws counted clear page (moved_before D fresh run) (stands_after D laws fresh f counted run hashed) l
    (rests_on D laws counted clear (answered_before D fresh run) (tree_after D laws counted clear fresh run hashed unforged) l fits.tests answered (λ x m. Memᴰ.append_left _ m))
    fits.current
