-- What the argument asks of a design: a hash takes 32 bytes, different states are hashed as different messages, a record that passes the
-- tests 3, 4 and 5 has a summary of 32 bytes, and a page with another summary is a page with that summary and the same key; and, for the
-- duty, that the record which a request leads to is of its size. `Edition` is shown to have these in proofs/.
use Rattle.std.specs.Prelude.{◌≡◌, true, ℕ, List, length, Ok}
use Rattle.records.specs.Page.{hash_size}
use Rattle.answers.specs.Design.{Design, Served}
use Rattle.answers.specs.Answers.{next_record}

pub record Laws (D : Design) : Type 0 where
  pub length-hash : (m : List ℕ) → length (D.hash m) ≡ hash_size
  pub states_apart : (a b : List ℕ) → D.state_message a ≡ D.state_message b → a ≡ b
  pub length_summary : (l : List ℕ) → D.tested l ≡ Ok tt → length (D.summary l) ≡ hash_size
  pub right_page_lem : (page s : List ℕ) → D.right_page page ≡ true → length s ≡ hash_size → D.right_page (D.with_summary page s) ≡ true
  pub page_summary_lem : (page s : List ℕ) → D.right_page page ≡ true → length s ≡ hash_size → D.page_summary (D.with_summary page s) ≡ s
  pub page_mac : (page s bound : List ℕ) → D.right_page page ≡ true → length s ≡ hash_size → D.mac (D.with_summary page s) bound ≡ D.mac page bound
  pub length_next : (page l request state : List ℕ) → D.tested l ≡ Ok tt → D.served (D.state_bytes l) request ≡ Served.carried state
      → length (next_record D page l request state) ≡ D.record_size
