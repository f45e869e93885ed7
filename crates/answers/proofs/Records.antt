-- The record that binds a state to a summary, in the design that ships: it reads back as what was bound, on every page with the key
-- that it was bound under, and passes the tests 3, 4 and 5. Assumes nothing.
use mathlib.Core.Path.{◌≡◌, sym, ap, ap₂, ◌∙◌}
use mathlib.Core.Bool.{true}
use Prim.Native.Nat.{ℕ}
use mathlib.Core.List.{List, []}
use lib.ListN.{length}
use Rattle.std.specs.Prelude.{Ok}
use Rattle.numbers.proofs.Comparison.{same_iff}
use Rattle.racks.specs.Rule.{good_state}
use Rattle.racks.specs.Layout.{state_of}
use Rattle.bindings.specs.Hashed.{authenticator_of}
use Rattle.bindings.proofs.Hashes.{length_authenticator}
use Rattle.records.specs.Form.{Form}
use Rattle.records.specs.Page.{hash_size, page_key}
use Rattle.records.specs.Record.{state_size, record_size, record_of, right_state}
use Rattle.records.specs.Tests.{tested}
use Rattle.records.proofs.FormLaws.{Fits}
use Rattle.records.proofs.RecordBytes.{length_record, record_state, record_summary, record_authenticator, record_size_lem, record_version}
use Rattle.records.proofs.TestCases.{all_passed}
use Rattle.answers.specs.Design.{Design}
use Rattle.answers.specs.Hashing.{binding_of, valid, bound_record}
use Rattle.answers.specs.Edition.{design}
use Rattle.answers.specs.Written.{Reads}

-- over any design: what a record reads as makes it valid
pub reads-valid : (D : Design) (page l state summary : List ℕ) → D.state_bytes l ≡ state → D.summary l ≡ summary
    → D.authenticator l ≡ D.mac page (binding_of D summary state) → valid D page l ≡ true
reads-valid D page l state summary p q a =
    (same_iff _ _).1 (a ∙ ap₂ (λ (s u : List ℕ). D.mac page (binding_of D u s)) (sym p) (sym q))

-- a record is bound under the key alone
pub bound_key : (f : Form) (page other s state : List ℕ) → page_key other ≡ page_key page
    → bound_record (design f) other s state ≡ bound_record (design f) page s state
bound_key f page other s state key = ap (λ (k : List ℕ). record_of f state s (authenticator_of k [] (binding_of (design f) s state))) key

module _ (f : Form) (page s state : List ℕ) (wide : length s ≡ hash_size) (size : length state ≡ state_size f) where
  pub length-bound : length (bound_record (design f) page s state) ≡ record_size f
  length-bound = length_record f state s _ size wide (length_authenticator (page_key page) [] _)

  pub bound-reads : (after : List ℕ) → page_key after ≡ page_key page → Reads (design f) after (bound_record (design f) page s state) state s
  bound-reads after key =
      let au = authenticator_of (page_key page) [] (binding_of (design f) s state) in
      let a : length au ≡ hash_size = length_authenticator (page_key page) [] _ in
      let state_is = record_state f state s au size wide a in
      let summary_is = record_summary f state s au size wide a in
      let authenticator_is = record_authenticator f state s au size wide a ∙ ap (λ (k : List ℕ). authenticator_of k [] (binding_of (design f) s state)) (sym key) in
      record {
        state_is = state_is;
        summary_is = summary_is;
        authenticator_is = authenticator_is;
        validity = reads-valid (design f) after _ state s state_is summary_is authenticator_is;
      }

  pub bound-passes : Fits f → good_state (state_of f.racks state) ≡ true → tested f (bound_record (design f) page s state) ≡ Ok tt
  unfolding right_state
  bound-passes fits good =
      let au = authenticator_of (page_key page) [] (binding_of (design f) s state) in
      let a : length au ≡ hash_size = length_authenticator (page_key page) [] _ in
      let state_is = record_state f state s au size wide a in
      sym (all_passed f _ (record_size_lem f state s au size wide a fits) (record_version f state s au size wide a fits) (ap (λ (m : List ℕ). good_state (state_of f.racks m)) state_is ∙ good))
