-- What a C caller gets of open, perform and repeat: one number, and what page and answer buffer hold then. The figure of perform and
-- repeat stands in the record written. Assumes nothing.
use Rattle.std.specs.Prelude.{ℕ, List}
use Rattle.answers.specs.Answers.{Outcome, Performed}

abbrev pub outcome : ℕ → List ℕ → List ℕ → Outcome
outcome number page answer = record { number = number; page = page; answer = answer }

abbrev pub perform_outcome : Performed → Outcome
perform_outcome p = outcome p.number p.page p.answer
