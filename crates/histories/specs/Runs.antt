-- A run: a fresh page that only the keeper writes, and then any calls in any order, with power cuts, and with any records and requests
-- offered. A call is whole, or cut as document 01's 'Power cuts' says: a cut during perform leaves the page of before or the page of
-- after; a cut in any other call leaves the page of before, which for these calls is the page of after too. Assumes nothing.
use Rattle.std.specs.Prelude.{◌≡◌, true, ℕ, List, []}
use Rattle.records.specs.Page.{zero_summary}
use Rattle.answers.specs.Design.{Design}
use Rattle.histories.specs.Folds.{state_after, gathered}
use Rattle.histories.specs.Calls.{Call}
use Rattle.histories.specs.Did.{Did, did}

-- a step: a call that was whole, or cut with the page of before, or cut with the page of after
pub data Step : Type 0 where
  whole : Call → Step
  cut_before : Call → Step
  cut_after : Call → Step

abbrev pub call_of : Step → Call
call_of (whole c) = c
call_of (cut_before c) = c
call_of (cut_after c) = c

-- a run's steps, the newest first
abbrev pub Run : Type 0
Run = List Step

-- a fresh page: of its size, with 32 zero bytes for its summary, and any key
pub record Fresh (D : Design) (page : List ℕ) : Type 0 where
  pub right : D.right_page page ≡ true
  pub zero : D.page_summary page ≡ zero_summary

-- ---- what a step leaves and moves

abbrev pub page_after_step : Design → List ℕ → Step → List ℕ
page_after_step D page (whole c) = (did D page c).page
page_after_step D page (cut_before c) = page
page_after_step D page (cut_after c) = (did D page c).page

-- the requests of accepted performs and of cut ones that left the page of after
abbrev pub moved_by : Design → List ℕ → Step → List (List ℕ)
moved_by D page (whole c) = (did D page c).moved
moved_by D page (cut_before c) = []
moved_by D page (cut_after c) = (did D page c).moved

-- ---- a run that began with `fresh`

abbrev pub page_after : Design → List ℕ → Run → List ℕ
page_after D fresh run = state_after (page_after_step D) fresh run

-- what the call of a step did, after those before it; a cut call has made its tests and its hashes like a whole one, and its record may
-- have reached the site computer
abbrev pub done_by : Design → List ℕ → Run → Step → Did
done_by D fresh older s = did D (page_after D fresh older) (call_of s)

-- one thing that the calls of a run did, the newest first
abbrev pub in_run : (Did → List (List ℕ)) → Design → List ℕ → Run → List (List ℕ)
in_run effect D fresh run = gathered (λ older s. effect (done_by D fresh older s)) run

-- the bindings answered in a run, and the requests that moved its page
abbrev pub answered_before : Design → List ℕ → Run → List (List ℕ)
answered_before D fresh run = in_run (λ d. d.answered) D fresh run

abbrev pub moved_before : Design → List ℕ → Run → List (List ℕ)
moved_before D fresh run = gathered (λ older s. moved_by D (page_after D fresh older) s) run
