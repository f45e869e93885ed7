-- Document 01: 'A refusal returns its number and zeros for every other figure, and writes to no buffer', and 'The page's key is never
-- changed by a call'. Assumes nothing.
use Rattle.std.specs.Prelude.{◌≡◌, ℕ, List}
use Rattle.records.specs.Form.{Form}
use Rattle.records.specs.Page.{page_key, page_of}
use Rattle.records.specs.Record.{summary}
use Rattle.answers.specs.Design.{Design}
use Rattle.answers.specs.Hashing.{next_summary}
use Rattle.answers.specs.Answers.{Outcome, opened, Performed, performed, repeated, no_figures, viewed}
use Rattle.answers.specs.Edition.{design}

-- the page and the answer buffer are as they were, and the figure is 0
pub record OpenUnchanged (page answer : List ℕ) (o : Outcome) : Type 0 where
  pub page_stays : o.page ≡ page
  pub answer_stays : o.answer ≡ answer

pub record Unchanged (page answer : List ℕ) (p : Performed) : Type 0 where
  pub page_stays : p.page ≡ page
  pub answer_stays : p.answer ≡ answer
  pub no_figure : p.stored ≡ 0

-- a number other than 0: nothing is changed
pub record RefusalsChangeNothing (D : Design) : Type 0 where
  pub opens : (page answer : List ℕ) → ((opened D page answer).number ≡ 0 → ⊥) → OpenUnchanged page answer (opened D page answer)
  pub performs : (page l request answer : List ℕ) → ((performed D page l request answer).number ≡ 0 → ⊥)
      → Unchanged page answer (performed D page l request answer)
  pub repeats : (page l request answer : List ℕ) → ((repeated D page l request answer).number ≡ 0 → ⊥)
      → Unchanged page answer (repeated D page l request answer)
  pub views : (page l : List ℕ) (rack : ℕ) → ((viewed D page l rack).number ≡ 0 → ⊥) → (viewed D page l rack).figures ≡ no_figures

-- the key of the page is what it was, whatever the page and whatever the answer; open and repeat leave the whole page, and one that
-- perform has moved on is made of the next summary and the key
pub record KeyStays (f : Form) : Type 0 where
  pub opens : (page answer : List ℕ) → (opened (design f) page answer).page ≡ page
  pub performs : (page l request answer : List ℕ) → page_key (performed (design f) page l request answer).page ≡ page_key page
  pub repeats : (page l request answer : List ℕ) → (repeated (design f) page l request answer).page ≡ page
  pub moves : (page l request answer : List ℕ) → (performed (design f) page l request answer).number ≡ 0
      → (performed (design f) page l request answer).page ≡ page_of (next_summary (design f) (summary f l) request) (page_key page)
