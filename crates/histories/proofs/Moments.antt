-- The invariant at each moment of a run, from the premises of the whole run. The idea: what went before a moment hashed no more than
-- the whole run, and its findings are findings of the run. Assumes nothing.
use mathlib.Core.Path.{◌≡◌, sym, ◌∙◌}
use Prim.Native.Nat.{ℕ}
use mathlib.Core.List.{List, [], ◌∷◌, ◌++◌}
use lib.Seq.{append_snoc}
use Rattle.answers.specs.Design.{Design}
use Rattle.histories.specs.Runs.{Step, Run, call_of, Fresh, page_after, done_by, answered_before, moved_before}
use Rattle.histories.specs.Laws.{Laws}
use Rattle.histories.specs.Premises.{FewerPremises}
use Rattle.histories.specs.Statements.{TakenAreReplayed}
use Rattle.histories.proofs.Paths.{Within}
use Rattle.histories.proofs.Steps.{each_before, gathered-before, gathered-at}
use Rattle.histories.proofs.Inversions.{deed}
use Rattle.histories.proofs.Invariant.{needed_in, Standing, stands_after, Tree, tree_after, rests, rests_here}

module _ (D : Design) (laws : Laws D) (fresh : List ℕ) (f : Fresh D fresh) (run newer older : Run) where
  -- the page at a moment
  pub stands_at : run ≡ newer ++ older → Standing D (needed_in D fresh run) (page_after D fresh older) (moved_before D fresh older)
  stands_at e = stands_after D laws fresh f (needed_in D fresh run) older (rw e (gathered-before _ newer older))

  -- what was answered by then
  pub tree_at : FewerPremises D fresh run → run ≡ newer ++ older → Tree D (needed_in D fresh run) (answered_before D fresh older)
  tree_at p e =
      tree_after D laws (needed_in D fresh run) p.hashes fresh older (rw e (gathered-before _ newer older))
      (each_before _ newer older (rw e at p.unforged))

  -- what a step needs was hashed in the run
  pub needed_at : (s : Step) → run ≡ newer ++ s ∷ older → Within (done_by D fresh older s).needed (needed_in D fresh run)
  needed_at s e = rw e (gathered-at _ newer older s)

-- the third condition, over any design
pub condition_three : (D : Design) → Laws D → (fresh : List ℕ) → Fresh D fresh → (run : Run) → FewerPremises D fresh run → TakenAreReplayed D fresh run
condition_three D laws fresh f run p newer older s e l m =
    let page = page_after D fresh older in
    let before : run ≡ (newer ++ (s ∷ [])) ++ older = e ∙ sym (append_snoc newer s older) in
    let tree = tree_at D laws fresh f run (newer ++ (s ∷ [])) older p before in
    let now = stands_at D laws fresh f run (newer ++ (s ∷ [])) older before in
    let taken = (deed D page (call_of s)).takens l m in
    rests_here D laws (needed_in D fresh run) p.hashes page (moved_before D fresh older) now l
    (rests D laws (needed_in D fresh run) p.hashes (answered_before D fresh older) tree (done_by D fresh older s)
    (needed_at D laws fresh f run newer older s e) (p.unforged newer older s e) l taken.based) taken.fits.current
