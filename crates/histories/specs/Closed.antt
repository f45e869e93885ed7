-- The third condition in document 01's words, for the keeper that ships: SHA-256, HMAC-SHA-256, 16 racks, records of 451 bytes. In each
-- record that perform, view or resume takes as current, each rack's figures are what the requests that moved the page give in order,
-- and the charge over all racks, plus the sum that they discharged, is the sum that they charged.
use Rattle.std.specs.Prelude.{◌≡◌, ℕ, ◌+◌}
use mathlib.Core.List.{List, [], ◌∷◌, ◌++◌, Memᴰ}
use Rattle.racks.specs.Racks.{State, first_state}
use Rattle.racks.specs.Figures.{total_stored}
use Rattle.racks.specs.Edition.{racks}
use Rattle.rules.specs.Replay.{Booked, replay}
use Rattle.rules.specs.Sums.{sum_charged, sum_discharged}
use Rattle.records.specs.Form.{version1}
use Rattle.records.specs.Record.{state}
use Rattle.answers.specs.Hashing.{binding_in}
use Rattle.answers.specs.Answers.{performed, viewed, Resumed, resumed}
use Rattle.answers.specs.Edition.{this_edition, figures_of}
use Rattle.histories.specs.Folds.{AtEach}
use Rattle.histories.specs.Calls.{performs, views, resumes}
use Rattle.histories.specs.Did.{record_messages}
use Rattle.histories.specs.Runs.{Run, call_of, page_after, done_by, in_run, answered_before}
use Rattle.histories.specs.Premises.{Apart}
use Rattle.histories.specs.Statements.{requests_before}

-- a state is what the requests give, and its charge is the sum charged less the sum discharged
pub record TrueBook (requests : List (List ℕ)) (s : State) : Type 0 where
  pub racks_are : replay racks (first_state racks) requests ≡ Booked.booked s
  pub charge_is : total_stored s + sum_discharged racks requests ≡ sum_charged racks requests

-- a record holds such a state, of the requests that moved the page
abbrev pub TrueRecord : List ℕ → Run → List ℕ → Type 0
TrueRecord fresh older l = TrueBook (requests_before this_edition fresh older) (state version1 l)

abbrev pub TakenAreTrue : List ℕ → Run → Type 0
TakenAreTrue fresh run = AtEach (λ older s. (l : List ℕ) → Memᴰ l (done_by this_edition fresh older s).taken → TrueRecord fresh older l) run

-- a perform that answers 0, 9, 10 or 11 was offered such a record
abbrev pub PerformedAreTrue : List ℕ → Run → Type 0
PerformedAreTrue fresh run =
    AtEach (λ older s. (l request answer : List ℕ) → call_of s ≡ performs l request answer
    → Memᴰ (performed this_edition (page_after this_edition fresh older) l request answer).number (0 ∷ 9 ∷ 10 ∷ 11 ∷ [])
    → TrueRecord fresh older l) run

-- an accepted view's stored, capacity, percent and total are those of such a state
abbrev pub ViewedAreTrue : List ℕ → Run → Type 0
ViewedAreTrue fresh run =
    AtEach (λ older s. (l : List ℕ) (rack : ℕ) → call_of s ≡ views l rack → (viewed this_edition (page_after this_edition fresh older) l rack).number ≡ 0
    → TrueRecord fresh older l × ((viewed this_edition (page_after this_edition fresh older) l rack).figures ≡ figures_of (state version1 l) rack)) run

-- the record that resume hands back holds such a state
abbrev pub ResumedAreTrue : List ℕ → Run → Type 0
ResumedAreTrue fresh run =
    AtEach (λ older s. (in_ram on_disk : List ℕ) → call_of s ≡ resumes in_ram on_disk
    → (resumed this_edition (page_after this_edition fresh older) in_ram on_disk ≡ Resumed.ram → TrueRecord fresh older in_ram)
    × (resumed this_edition (page_after this_edition fresh older) in_ram on_disk ≡ Resumed.disk → TrueRecord fresh older on_disk)) run

-- so does a record that resume would hand back after the run, and whose binding was answered in it
abbrev pub AnsweredAreTrue : List ℕ → Run → Type 0
AnsweredAreTrue fresh run =
    (l on_disk : List ℕ) → resumed this_edition (page_after this_edition fresh run) l on_disk ≡ Resumed.ram
    → Memᴰ (binding_in this_edition l) (answered_before this_edition fresh run)
    → Apart this_edition (record_messages this_edition l ++ in_run (λ d. d.hashed) this_edition fresh run)
    → TrueRecord fresh run l
