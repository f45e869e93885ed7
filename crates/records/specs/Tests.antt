-- Document 01, 'Numbers of refusal', rows 3, 4 and 5: what the tests of a record's form and state find, in the order of the
-- numbers. Assumes nothing.
use Rattle.std.specs.Prelude.{ℕ, cond, List, Ok, Err}
use Rattle.refusals.specs.declared.Refusal.TheVariants.{Record, Version, State}
use Rattle.refusals.specs.Tested.{Tested}
use Rattle.records.specs.Form.{Form}
use Rattle.records.specs.Record.{right_size, right_version, right_state}

-- the first that applies is the answer
unfoldable pub tested : Form → List ℕ → Tested
tested f l =
    cond (right_size f l)
    (cond (right_version f l)
    (cond (right_state f l) (Ok tt) (Err State))
    (Err Version))
    (Err Record)
