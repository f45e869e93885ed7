-- What is known once tests 1 to 6 have passed: of the record, of the request and of the rack. Assumes nothing.
use mathlib.Core.Path.{◌≡◌, refl}
use mathlib.Core.Bool.{Bool, true, false}
use Prim.Native.Nat.{ℕ}
use native.Mathlib.Omega.{arith}
use mathlib.Core.List.{List}
use lib.ListN.{length}
use lib.Dec.{eqb, leb}
use borrow.Author.Tests.{eqb-true, leb-true, ltb-true}
use Rattle.std.specs.Prelude.{Ok, Err}
use Rattle.refusals.specs.declared.Refusal.{Refusal}
use Rattle.refusals.specs.declared.Refusal.TheVariants.{Page, Answer, Request as RequestRefusal}
use Rattle.refusals.specs.Tested.{Tested}
use Rattle.racks.specs.Rule.{good_state}
use Rattle.requests.specs.declared.Request.{Request}
use Rattle.requests.specs.Formed.{well_formed}
use Rattle.requests.specs.Requests.{request_of, read_request}
use Rattle.requests.specs.Range.{InRange}
use Rattle.requests.proofs.Formed.{in_range}
use Rattle.records.specs.Form.{Form}
use Rattle.records.specs.Page.{page_size}
use Rattle.records.specs.Record.{record_size, state}
use Rattle.records.specs.Tests.{tested}
use Rattle.records.proofs.Headers.{right_length}
use Rattle.records.proofs.TestCases.{tests_passed}
use Rattle.answers.proofs.States.{record_good}
use Rattle.answers.specs.Judging.{unless, and_then}
use Rattle.offers.specs.Offers.{offered_at, looked_at, offer_by, PassedOffer, PassedLook}

-- ---- an offer

pub offer_passed : (t : Tested) (x q : Request) → offer_by t x ≡ Ok q → (t ≡ Ok tt) × (x ≡ q)
offer_passed (Ok u) x q e = (refl, cc)
offer_passed (Err r) x q e = let z : ◌≡◌ {A = ℕ} 0 1 = cc in absurd (omega arith)

pub offer_refused : (t : Tested) (x : Request) (r : Refusal) → offer_by t x ≡ Err r → t ≡ Err r
offer_refused (Ok u) x r e = let z : ◌≡◌ {A = ℕ} 0 1 = cc in absurd (omega arith)
offer_refused (Err s) x r e = cc

-- ---- tests that have passed

pub both : (s t : Tested) → and_then s t ≡ Ok tt → (s ≡ Ok tt) × (t ≡ Ok tt)
both (Ok x) t e = (refl, e)
both (Err r) t e = let z : ◌≡◌ {A = ℕ} 0 1 = cc in absurd (omega arith)

pub held : (b : Bool) (r : Refusal) → unless b r ≡ Ok tt → b ≡ true
held true r e = refl
held false r e = let z : ◌≡◌ {A = ℕ} 0 1 = cc in absurd (omega arith)

pub offered : (f : Form) (page room : ℕ) (l request : List ℕ) (q : Request) → offered_at f page room l request ≡ Ok tt → request_of request ≡ q → PassedOffer f page room l request q
unfolding read_request
offered f page room l request q tests asks =
    let one = both (unless (eqb page page_size) Page) _ tests in
    let two = both (unless (leb (record_size f) room) Answer) _ one.1 in
    let five = both (tested f l) _ two.1 in
    let six : well_formed f.racks request ≡ true = held (well_formed f.racks request) RequestRefusal five.1 in
    record {
      size = eqb-true page page_size (held _ Page one.0);
      answer = leb-true (record_size f) room (held _ Answer two.0);
      passed = five.0;
      read = rw (six, asks) refl;
    }

pub looked : (f : Form) (page : ℕ) (l : List ℕ) (rack : ℕ) → looked_at f page l rack ≡ Ok tt → PassedLook f page l rack
looked f page l rack tests =
    let one = both (unless (eqb page page_size) Page) _ tests in
    let five = both (tested f l) _ one.1 in
    record {
      size = eqb-true page page_size (held _ Page one.0);
      passed = five.0;
      inside = ltb-true rack f.racks (held _ RequestRefusal five.1);
    }

-- ---- a record whose tests have passed

pub passed_length : (f : Form) (l : List ℕ) → tested f l ≡ Ok tt → length l ≡ record_size f
passed_length f l passed = right_length f l (tests_passed f l passed).0

-- ---- what follows for an offer, and for a look

module _ (f : Form) (page room : ℕ) (l request : List ℕ) (q : Request) (o : PassedOffer f page room l request q) where
  pub offered_good : good_state (state f l) ≡ true
  offered_good = record_good f l o.passed

  pub offered-range : InRange f.racks q
  offered-range = in_range f.racks request q o.read

module _ (f : Form) (page : ℕ) (l : List ℕ) (rack : ℕ) (o : PassedLook f page l rack) where
  pub looked-length : length l ≡ record_size f
  looked-length = passed_length f l o.passed

  pub looked_good : good_state (state f l) ≡ true
  looked_good = record_good f l o.passed
