-- Document 01, 'Power cuts', the duty: 'Exactly one of perform and repeat, called with that record and request on the page that then
-- stands, is accepted, and it answers the record of the uncut call; the other is refused as not current.' Said of every run that goes on
-- after the cut without moving the page; 01's 'no other perform' is such a run. Assumes nothing.
use Rattle.std.specs.Prelude.{◌≡◌, ℕ, ◌≤◌, List, ◌∷◌, ◌++◌, length}
use Rattle.numbers.specs.Parts.{over}
use Rattle.refusals.specs.declared.Refusal.TheVariants.{Current}
use Rattle.refusals.specs.Numbers.{number_of}
use Rattle.answers.specs.Design.{Design}
use Rattle.answers.specs.Answers.{refusal, Performed, performed, repeated}
use Rattle.answers.specs.Written.{front}
use Rattle.histories.specs.Folds.{AtEach}
use Rattle.histories.specs.Calls.{performs}
use Rattle.histories.specs.Runs.{cut_before, cut_after, Run, call_of, page_after, moved_before}

-- accepted, with the figure and the page of the uncut call, and its record at the front of this buffer
pub record Retried (D : Design) (uncut : Performed) (room : List ℕ) (p : Performed) : Type 0 where
  pub number : p.number ≡ 0
  pub stored : p.stored ≡ uncut.stored
  pub page : p.page ≡ uncut.page
  pub answer : p.answer ≡ over 0 (front D uncut.answer) room

-- perform is accepted so, and repeat is refused as not current, on a page and with a buffer
pub record ByPerform (D : Design) (uncut : Performed) (page l request room : List ℕ) : Type 0 where
  pub perform : Retried D uncut room (performed D page l request room)
  pub repeat : repeated D page l request room ≡ refusal (number_of Current) page room

-- the other way round
pub record ByRepeat (D : Design) (uncut : Performed) (page l request room : List ℕ) : Type 0 where
  pub repeat : Retried D uncut room (repeated D page l request room)
  pub perform : performed D page l request room ≡ refusal (number_of Current) page room

-- for the runs since the cut that `Since` names, with any buffer that has room; `older` is what went before the cut call
abbrev pub DutyWhere : (Run → Run → Type 0) → Design → List ℕ → Run → List ℕ → List ℕ → List ℕ → Type 0
DutyWhere Since D fresh older l request answer =
    (since : Run) (room : List ℕ) → D.record_size ≤ length room
    → (Since since (cut_before (performs l request answer) ∷ older)
    → ByPerform D (performed D (page_after D fresh older) l request answer) (page_after D fresh (since ++ cut_before (performs l request answer) ∷ older)) l request room)
    × (Since since (cut_after (performs l request answer) ∷ older)
    → ByRepeat D (performed D (page_after D fresh older) l request answer) (page_after D fresh (since ++ cut_after (performs l request answer) ∷ older)) l request room)

-- nothing has moved the page since
abbrev pub Duty : Design → List ℕ → Run → List ℕ → List ℕ → List ℕ → Type 0
Duty D fresh older l request answer =
    (performed D (page_after D fresh older) l request answer).number ≡ 0
    → DutyWhere (λ since cut. moved_before D fresh (since ++ cut) ≡ moved_before D fresh cut) D fresh older l request answer

-- 01's words: no other perform since
abbrev pub NoPerform : Run → Type 0
NoPerform since = AtEach (λ older s. (l request answer : List ℕ) → call_of s ≡ performs l request answer → ⊥) since

abbrev pub DutyWithoutPerform : Design → List ℕ → Run → List ℕ → List ℕ → List ℕ → Type 0
DutyWithoutPerform D fresh older l request answer =
    (performed D (page_after D fresh older) l request answer).number ≡ 0 → DutyWhere (λ since cut. NoPerform since) D fresh older l request answer
