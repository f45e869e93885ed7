-- The tests before the authenticator, by the lengths of page and answer alone, and what is known once they have passed. Assumes nothing.
use Rattle.std.specs.Prelude.{◌≡◌, ℕ, ◌≤◌, ◌<◌, List, eqb, leb, ltb, Some, Result, Ok, Err}
use Rattle.requests.specs.declared.Request.{Request}
use Rattle.requests.specs.Formed.{well_formed}
use Rattle.requests.specs.Requests.{read_request}
use Rattle.records.specs.Form.{Form}
use Rattle.records.specs.Page.{page_size}
use Rattle.records.specs.Record.{record_size}
use Rattle.records.specs.Tests.{tested}
use Rattle.answers.specs.Judging.{offer_tests, look_tests}
use Rattle.refusals.specs.Tested.{Tested}
use Rattle.refusals.specs.declared.Refusal.{Refusal}

-- `offered` of the calls' definitions, for a page and an answer buffer of these lengths
abbrev pub offered_at : Form → ℕ → ℕ → List ℕ → List ℕ → Tested
offered_at f page room l request = offer_tests (eqb page page_size) (leb (record_size f) room) (tested f l) (well_formed f.racks request)

-- `looked`, for a page of this length
abbrev pub looked_at : Form → ℕ → List ℕ → ℕ → Tested
looked_at f page l rack = look_tests (eqb page page_size) (tested f l) (ltb rack f.racks)

-- an offer from what the tests find and what the request asks
abbrev pub offer_by : Tested → Request → Result Request Refusal
offer_by (Ok x) q = Ok q
offer_by (Err r) q = Err r

-- tests 1 to 6 have passed, and the request asks q
pub record PassedOffer (f : Form) (page room : ℕ) (l request : List ℕ) (q : Request) : Type 0 where
  pub size : page ≡ page_size
  pub answer : record_size f ≤ room
  pub passed : tested f l ≡ Ok tt
  pub read : read_request f.racks request ≡ Some q

-- tests 1 to 6 of view have passed
pub record PassedLook (f : Form) (page : ℕ) (l : List ℕ) (rack : ℕ) : Type 0 where
  pub size : page ≡ page_size
  pub passed : tested f l ≡ Ok tt
  pub inside : rack < f.racks
