-- Document 01: repeat 'writes the record that perform would write for that record and request on a page that holds the record's own
-- summary'. Assumes nothing.
use Rattle.std.specs.Prelude.{◌≡◌, ℕ, List, length}
use Rattle.records.specs.Form.{Form}
use Rattle.records.specs.Page.{page_size, page_summary, page_key}
use Rattle.records.specs.Record.{summary}
use Rattle.answers.specs.Answers.{Performed, performed, repeated}
use Rattle.answers.specs.Edition.{design}

-- both are accepted, with the same figure and the same answer buffer
pub record SameAnswer (p q : Performed) : Type 0 where
  pub first : p.number ≡ 0
  pub second : q.number ≡ 0
  pub stored : p.stored ≡ q.stored
  pub answer : p.answer ≡ q.answer

-- a page of its size with the same key, that holds the record's own summary
pub record OwnPage (f : Form) (page l own : List ℕ) : Type 0 where
  pub size : length own ≡ page_size
  pub key : page_key own ≡ page_key page
  pub summary : page_summary own ≡ summary f l

-- wherever repeat accepts, there is such a page, and on each such page perform answers the same
pub record RepeatIsPerform (f : Form) : Type 0 where
  pub page_of_record : (page l request answer : List ℕ) → (repeated (design f) page l request answer).number ≡ 0
      → OwnPage f page l ((design f).with_summary page (summary f l))
  pub on_each : (page l request answer own : List ℕ) → (repeated (design f) page l request answer).number ≡ 0 → OwnPage f page l own
      → SameAnswer (performed (design f) own l request answer) (repeated (design f) page l request answer)
