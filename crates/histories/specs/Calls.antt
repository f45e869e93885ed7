-- A call, with all that it is lent but the page, which is the run's own; view stands for each of its figure functions too.
-- Assumes nothing.
use Rattle.std.specs.Prelude.{ℕ, List}

pub data Call : Type 0 where
  -- open: answer
  opens : List ℕ → Call
  -- perform and repeat: record, request, answer
  performs : List ℕ → List ℕ → List ℕ → Call
  repeats : List ℕ → List ℕ → List ℕ → Call
  -- view: record, rack
  views : List ℕ → ℕ → Call
  -- resume: the record in RAM, the record from disk
  resumes : List ℕ → List ℕ → Call
