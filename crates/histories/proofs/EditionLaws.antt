-- The design that ships, at any number of racks and any version, has what the argument asks of a design: a hash takes 32 bytes, summaries
-- are read where they are written, records are of their size, and refusals have the numbers of their tests. The hash itself stays closed.
-- Assumes nothing.
use mathlib.Core.Path.{◌≡◌, refl, sym, ap}
use mathlib.Core.Bool.{Bool, true, false, cond}
use Prim.Native.Nat.{ℕ, ◌+◌, ◌<◌}
use native.Mathlib.Omega.{arith}
use mathlib.Core.List.{List, []}
use lib.ListN.{length, drop}
use lib.Dec.{eqb}
use borrow.Author.Tests.{eqb-true, eq-eqb}
use Rattle.numbers.specs.Parts.{over}
use Rattle.numbers.proofs.Parts.{length_part}
use Rattle.refusals.specs.declared.Refusal.{Refusal}
use Rattle.refusals.specs.declared.Refusal.TheVariants.{Record, Version, State, Authenticator, Current, Capacity, Stored, Limit}
use Rattle.refusals.specs.Numbers.{number_of}
use Rattle.refusals.specs.Tested.{Tested}
use Rattle.racks.specs.Layout.{state_of}
use Rattle.requests.specs.Formed.{well_formed}
use Rattle.requests.specs.Requests.{request_of, read_request}
use Rattle.rules.specs.Rules.{over_capacity, over_stored, over_limit, ruling, carry_out}
use Rattle.rules.specs.Replay.{by_ruling, book}
use Rattle.records.specs.Form.{Form}
use Rattle.records.specs.Page.{hash_size, page_size, page_summary, page_key}
use Rattle.records.specs.Record.{state_size, state_bytes, summary, right_size, right_version, right_state}
use Rattle.records.specs.Tests.{tested}
use Rattle.records.proofs.Headers.{right_length}
use Rattle.sha256.proofs.DigestLaws.{length-sha256}
use Rattle.bindings.specs.Hashed.{authenticator_of}
use Rattle.answers.specs.Design.{Served}
use Rattle.answers.specs.Hashing.{next_summary}
use Rattle.answers.specs.Edition.{in_bytes, served_bytes, design}
use Rattle.answers.proofs.Pages.{summary_put, key_put, length_put}
use Rattle.answers.proofs.Records.{length-bound}
use Rattle.answers.proofs.ReadsBack.{length_next}
use Rattle.answers.proofs.States.{record_good, served_good}
use Rattle.histories.specs.Laws.{Laws}
use Rattle.histories.specs.Ties.{NumberLaws}
use Rattle.std.specs.Prelude.{Ok, Err}
use Rattle.records.proofs.TestCases.{tests_passed}

-- ---- a record that passes its tests has a summary of 32 bytes

pub summary_is_32 : (f : Form) (l : List ℕ) → tested f l ≡ Ok tt → length (summary f l) ≡ hash_size
summary_is_32 f l e =
    let long = right_length f l (tests_passed f l e).0 in
    length_part (2 + 1 + state_size f) hash_size l (omega arith)

-- ---- a page with another summary

module _ (page s : List ℕ) (right : eqb (length page) page_size ≡ true) (wide : length s ≡ hash_size) where
  long : length page ≡ page_size
  long = eqb-true (length page) page_size right

  pub page_stays_right : eqb (length (over 0 s page)) page_size ≡ true
  page_stays_right = eq-eqb _ _ (length_put page s long wide)

  pub summary_is_put : page_summary (over 0 s page) ≡ s
  summary_is_put = summary_put page s long wide

  pub key_stays : page_key (over 0 s page) ≡ page_key page
  key_stays = key_put page s long wide

pub laws : (f : Form) → Laws (design f)
laws f =
    record {
      length-hash = length-sha256;
      states_apart = λ a b e. ap (drop 1) e;
      length_summary = summary_is_32 f;
      right_page_lem = page_stays_right;
      page_summary_lem = summary_is_put;
      page_mac = λ page s bound right long. ap (λ (key : List ℕ). authenticator_of key [] bound) (key_stays page s right long);
      length_next = λ page l request state passed serves.
          length-bound f page (next_summary (design f) (summary f l) request) state (length_next f (summary f l) request)
          (served_good f.racks (state_bytes f l) request state (record_good f l passed) serves).size;
    }

-- ---- the numbers of refusals

early_number : (size version state : Bool) (r : Refusal) → ◌≡◌ {A = Tested} (cond size (cond version (cond state (Ok tt) (Err State)) (Err Version)) (Err Record)) (Err r)
    → number_of r < number_of Authenticator
early_number true true true r e = let z : ◌≡◌ {A = ℕ} 0 1 = cc in absurd (omega arith)
early_number true true false r e = let is : State ≡ r = cc in rw (sym is) (omega arith)
early_number true false state r e = let is : Version ≡ r = cc in rw (sym is) (omega arith)
early_number false version state r e = let is : Record ≡ r = cc in rw (sym is) (omega arith)

behind_number : (capacity stored limit : Bool) (state : _) (r : Refusal)
    → in_bytes (by_ruling (cond capacity (Err Capacity) (cond stored (Err Stored) (cond limit (Err Limit) (Ok tt)))) state) ≡ Served.barred r
    → number_of Current < number_of r
behind_number true stored limit state r e = let is : Capacity ≡ r = cc in rw (sym is) (omega arith)
behind_number false true limit state r e = let is : Stored ≡ r = cc in rw (sym is) (omega arith)
behind_number false false true state r e = let is : Limit ≡ r = cc in rw (sym is) (omega arith)
behind_number false false false state r e = let z : ◌≡◌ {A = ℕ} 0 1 = cc in absurd (omega arith)

pub early_numbers : (f : Form) (l : List ℕ) (r : Refusal) → tested f l ≡ Err r → number_of r < number_of Authenticator
unfolding tested
early_numbers f l r e = early_number (right_size f l) (right_version f l) (right_state f l) r e

pub behind_numbers : (n : ℕ) (state request : List ℕ) (r : Refusal) → well_formed n request ≡ true → served_bytes n state request ≡ Served.barred r
    → number_of Current < number_of r
unfolding served_bytes book read_request ruling
behind_numbers n state request r formed e =
    let s = state_of n state in
    let q = request_of request in
    behind_number (over_capacity s q) (over_stored s q) (over_limit s q) (carry_out s q) r (rw formed at e)

pub number_laws : (f : Form) → NumberLaws (design f)
number_laws f = record { early = early_numbers f; behind = behind_numbers f.racks }
