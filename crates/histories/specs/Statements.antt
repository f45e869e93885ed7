-- What is proved of every run under the premises: the third condition, and the afternoon itself. Each is a statement about the definitions
-- that the contracts of the calls cite. A run's older part is what went before a moment in it.
use Rattle.std.specs.Prelude.{◌≡◌, true, ℕ, ◌<◌, ◌≤◌, Ok}
use mathlib.Core.List.{List, ◌++◌, Memᴰ, reverse}
use Rattle.refusals.specs.declared.Refusal.TheVariants.{Current}
use Rattle.refusals.specs.Numbers.{number_of}
use Rattle.answers.specs.Design.{Design, Served}
use Rattle.answers.specs.Hashing.{binding_in, valid}
use Rattle.answers.specs.Judging.{offered, looked}
use Rattle.answers.specs.Unchanged.{Unchanged}
use Rattle.answers.specs.Rows.{replayed}
use Rattle.answers.specs.Answers.{performed, viewed, Resumed, resumed}
use Rattle.histories.specs.Folds.{AtEach}
use Rattle.histories.specs.Calls.{performs, views, resumes}
use Rattle.histories.specs.Did.{record_messages}
use Rattle.histories.specs.Runs.{Run, call_of, page_after, done_by, answered_before, moved_before}
use Rattle.histories.specs.Premises.{Apart}

-- the requests that moved the page, in order
abbrev pub requests_before : Design → List ℕ → Run → List (List ℕ)
requests_before D fresh run = reverse (moved_before D fresh run)

-- a record holds what the requests that moved the page give in order
abbrev pub Replayed : Design → List ℕ → Run → List ℕ → Type 0
Replayed D fresh older l = replayed D (requests_before D fresh older) ≡ Served.carried (D.state_bytes l)

-- ---- condition 3: so does a record taken as current at any step of a run, with the requests before that step

abbrev pub TakenAreReplayed : Design → List ℕ → Run → Type 0
TakenAreReplayed D fresh run = AtEach (λ older s. (l : List ℕ) → Memᴰ l (done_by D fresh older s).taken → Replayed D fresh older l) run

-- the record of a perform that is accepted, or refused behind test 8, is such a record
abbrev pub PerformedAreReplayed : Design → List ℕ → Run → Type 0
PerformedAreReplayed D fresh run =
    AtEach (λ older s. (l request answer : List ℕ) → call_of s ≡ performs l request answer
    → ((performed D (page_after D fresh older) l request answer).number ≡ 0 → Replayed D fresh older l)
    × (number_of Current < (performed D (page_after D fresh older) l request answer).number → Replayed D fresh older l)) run

-- a view that is accepted shows the figures of that replay
abbrev pub ViewedAreReplayed : Design → List ℕ → Run → Type 0
ViewedAreReplayed D fresh run =
    AtEach (λ older s. (l : List ℕ) (rack : ℕ) → call_of s ≡ views l rack → (viewed D (page_after D fresh older) l rack).number ≡ 0
    → Replayed D fresh older l × ((viewed D (page_after D fresh older) l rack).figures ≡ D.figures (D.state_bytes l) rack)) run

-- the record that resume hands back is such a record
abbrev pub ResumedAreReplayed : Design → List ℕ → Run → Type 0
ResumedAreReplayed D fresh run =
    AtEach (λ older s. (in_ram on_disk : List ℕ) → call_of s ≡ resumes in_ram on_disk
    → (resumed D (page_after D fresh older) in_ram on_disk ≡ Resumed.ram → Replayed D fresh older in_ram)
    × (resumed D (page_after D fresh older) in_ram on_disk ≡ Resumed.disk → Replayed D fresh older on_disk)) run

-- a record that resume would hand back after the run, and whose binding was answered in it, is such a record too, though no call took it:
-- its own messages are counted with those of the run. So is a disk record that resume does not look at since RAM's is current
abbrev pub AnsweredAreReplayed : (Design → List ℕ → Run → List (List ℕ)) → Design → List ℕ → Run → Type 0
AnsweredAreReplayed messages D fresh run =
    (l on_disk : List ℕ) → resumed D (page_after D fresh run) l on_disk ≡ Resumed.ram → Memᴰ (binding_in D l) (answered_before D fresh run)
    → Apart D (record_messages D l ++ messages D fresh run) → Replayed D fresh run l

-- ---- the afternoon: no summary that the page has held returns after it has moved on

abbrev pub NoSummaryReturns : Design → List ℕ → Run → Type 0
NoSummaryReturns D fresh run =
    (newer older : Run) → run ≡ newer ++ older
    → D.page_summary (page_after D fresh run) ≡ D.page_summary (page_after D fresh older)
    → moved_before D fresh run ≡ moved_before D fresh older

-- a refusal by test 8 or one before it
pub record UpToEight (number : ℕ) : Type 0 where
  pub refused : 0 < number
  pub before : number ≤ number_of Current

-- a record for the summary of an earlier moment, since which the page has moved on: perform and view refuse it by test 8 at the latest,
-- perform changes nothing, the answer is 8 where the tests before 8 pass, and resume does not hand it back, from RAM or from disk
pub record RefusedAsOld (D : Design) (page l : List ℕ) : Type 0 where
  pub perform : (request answer : List ℕ) → UpToEight (performed D page l request answer).number × Unchanged page answer (performed D page l request answer)
  pub perform_eight : (request answer : List ℕ) → offered D page l request answer ≡ Ok tt → valid D page l ≡ true
      → (performed D page l request answer).number ≡ number_of Current
  pub view : (rack : ℕ) → UpToEight (viewed D page l rack).number
  pub view_eight : (rack : ℕ) → looked D page l rack ≡ Ok tt → valid D page l ≡ true → (viewed D page l rack).number ≡ number_of Current
  pub in_ram : (on_disk : List ℕ) → resumed D page l on_disk ≡ Resumed.ram → ⊥
  pub on_disk : (in_ram : List ℕ) → resumed D page in_ram l ≡ Resumed.disk → ⊥

abbrev pub OldRecordsAreRefused : Design → List ℕ → Run → Type 0
OldRecordsAreRefused D fresh run =
    (newer older : Run) → run ≡ newer ++ older → (moved_before D fresh run ≡ moved_before D fresh older → ⊥)
    → (l : List ℕ) → D.summary l ≡ D.page_summary (page_after D fresh older)
    → RefusedAsOld D (page_after D fresh run) l
