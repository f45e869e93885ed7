-- What a request's bytes do to a state of n racks, and what requests give in order: the service that the history of a page is
-- replayed with. Well-formedness is inside, so that a replay which gives a state says that each request was well formed.
-- Assumes nothing.
use Rattle.std.specs.Prelude.{ℕ, List, [], ◌∷◌, Option, Some, None, Ok, Err}
use Rattle.racks.specs.Racks.{State}
use Rattle.refusals.specs.declared.Refusal.{Refusal}
use Rattle.refusals.specs.declared.Refusal.TheVariants.{Request as RequestRefusal}
use Rattle.requests.specs.Requests.{read_request}
use Rattle.rules.specs.Rules.{ruling, carry_out}
use Rattle.refusals.specs.Tested.{Tested}
use Rattle.requests.specs.declared.Request.{Request}

-- what comes of a request, or of a row of them
pub data Booked : Type 0 where
  booked : State → Booked
  refused : Refusal → Booked

abbrev pub by_ruling : Tested → State → Booked
by_ruling (Ok x) s = booked s
by_ruling (Err r) s = refused r

abbrev pub by_reading : State → Option Request → Booked
by_reading s None = refused RequestRefusal
by_reading s (Some q) = by_ruling (ruling s q) (carry_out s q)

-- one request's bytes on a state of n racks
unfoldable pub book : ℕ → State → List ℕ → Booked
book n s l = by_reading s (read_request n l)

-- requests in order: the first refusal ends it

abbrev pub then_book : (State → Booked) → Booked → Booked
then_book next (booked s) = next s
then_book next (refused r) = refused r

unfoldable pub replay : ℕ → State → List (List ℕ) → Booked
replay n s [] = booked s
replay n s (l ∷ ls) = then_book (λ t. replay n t ls) (book n s l)
