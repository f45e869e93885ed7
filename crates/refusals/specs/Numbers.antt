-- Document 01, 'Numbers of refusal': the table's first column. A later order adds a row; no number is used again.
-- Assumes nothing.
use Rattle.std.specs.Prelude.{ℕ}
use Rattle.refusals.specs.declared.Refusal.{Refusal}
use Rattle.refusals.specs.declared.Refusal.TheVariants.{Page, Answer, Record, Version, State, Request, Authenticator, Current, Capacity, Stored, Limit, Total, Fresh}

abbrev pub number_of : Refusal → ℕ
number_of Page = 1
number_of Answer = 2
number_of Record = 3
number_of Version = 4
number_of State = 5
number_of Request = 6
number_of Authenticator = 7
number_of Current = 8
number_of Capacity = 9
number_of Stored = 10
number_of Limit = 11
number_of Total = 12
number_of Fresh = 13
