-- What open answers, by what its three tests say, and the record that it writes. Assumes nothing.
use mathlib.Core.Path.{◌≡◌, refl, ap, ◌∙◌}
use mathlib.Core.Bool.{Bool, true, false}
use Prim.Native.Nat.{ℕ, ◌*◌, ◌≤◌}
use mathlib.Core.List.{List, [], ◌∷◌}
use lib.ListN.{length, replicate}
use lib.Dec.{eqb, leb}
use borrow.Author.Tests.{eq-eqb, le-leb}
use Rattle.std.specs.Prelude.{Ok, Err}
use Rattle.numbers.specs.Parts.{over, join}
use Rattle.numbers.specs.Comparing.{same}
use Rattle.numbers.proofs.Comparison.{same_iff}
use Rattle.numbers.proofs.Testing.{failed, passed}
use Rattle.racks.specs.Racks.{first_state}
use Rattle.racks.specs.Layout.{rack_size, bytes_of_state}
use Rattle.racks.specs.Edition.{racks}
use Rattle.racks.proofs.FirstState.{length-first_state}
use Rattle.racks.proofs.StateBytes.{length-bytes_of_state}
use Rattle.refusals.specs.declared.Refusal.TheVariants.{Page, Answer, Fresh}
use Rattle.records.specs.Form.{version1}
use Rattle.records.specs.Page.{hash_size, page_size, page_summary, page_key, zero_summary}
use Rattle.records.specs.Record.{state_size, record_size, header}
use Rattle.hmac.specs.declared.Prepared.{Prepared}
use Rattle.hmac.specs.Preparation.{prepared_of}
use Rattle.bindings.specs.Sealing.{sealed}
use Rattle.bindings.proofs.Seals.{length-page_summary, sealed_laid}
use Rattle.answers.specs.Hashing.{bound_record}
use Rattle.answers.specs.Judging.{unless, and_then}
use Rattle.answers.specs.Answers.{opened_by, open_tests, opened}
use Rattle.answers.specs.Edition.{this_edition}
use Rattle.offers.proofs.Authenticators.{sealed-bound}
use Rattle.opens.specs.Told.{told_open}

-- by the tests' answers
by_tests : (page answer : List ℕ) (a b c : Bool) → eqb (length page) page_size ≡ a → leb (record_size version1) (length answer) ≡ b
    → same (page_summary page) zero_summary ≡ c
    → opened this_edition page answer ≡ opened_by this_edition page answer (and_then (unless a Page) (and_then (unless b Answer) (unless c Fresh)))
unfolding opened open_tests
by_tests page answer a b c p q r = rw (p, q, r) refl

-- the page's summary is held against as many zeros as it is long, which are 32
zeros : (page s : List ℕ) (r : Bool) → length page ≡ page_size → s ≡ page_summary page → r ≡ same s (replicate (length s) 0)
    → r ≡ same (page_summary page) zero_summary
unfolding zero_summary
zeros page s r long is test = test ∙ rw (is, length-page_summary page long) refl

module _ (page answer : List ℕ) where
  module _ (size : length page ≡ page_size) where
    module _ (room : record_size version1 ≤ length answer) (s : List ℕ) (r : Bool) (is : s ≡ page_summary page) (test : r ≡ same s (replicate (length s) 0)) where
      pub open_13 : r ≡ false → told_open (Err Fresh) page answer ≡ opened this_edition page answer
      open_13 old =
          rw (by_tests page answer true true false (eq-eqb (length page) page_size size) (le-leb (record_size version1) (length answer) room) (failed r _ (zeros page s r size is test) old)) refl

      fresh : r ≡ true → page_summary page ≡ zero_summary
      fresh new = (same_iff (page_summary page) zero_summary).0 (passed r _ (zeros page s r size is test) new)

      pub open_0 : r ≡ true → (after : List ℕ) → after ≡ over 0 (bound_record this_edition page (page_summary page) (bytes_of_state (first_state racks))) answer
          → told_open (Ok tt) page after ≡ opened this_edition page answer
      open_0 new after written =
          rw (by_tests page answer true true true (eq-eqb (length page) page_size size) (le-leb (record_size version1) (length answer) room) (passed r _ (zeros page s r size is test) new), written, fresh new) refl

-- the header, the first state and a summary, sealed under the page's key
pub first_sealed : (page su x y z : List ℕ) (key : Prepared) → record_size version1 ≤ length x → length su ≡ hash_size → su ≡ page_summary page → key ≡ prepared_of (page_key page)
    → y ≡ over 0 (join (header version1 ∷ bytes_of_state (first_state racks) ∷ su ∷ [])) x → z ≡ sealed version1 key y
    → z ≡ over 0 (bound_record this_edition page (page_summary page) (bytes_of_state (first_state racks))) x
first_sealed page su x y z key room wide is prepared laid seals =
    let size : length (bytes_of_state (first_state racks)) ≡ state_size version1 = length-bytes_of_state (first_state racks) ∙ ap (λ (k : ℕ). k * rack_size) (length-first_state racks) in
    seals
    ∙ ap (sealed version1 key) laid
    ∙ sealed_laid version1 (bytes_of_state (first_state racks)) su x size wide room key
    ∙ rw (sealed-bound version1 page key prepared su (bytes_of_state (first_state racks)), is)
