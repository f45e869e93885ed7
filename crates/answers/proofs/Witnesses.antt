-- Accepted calls, for every key and every summary of 32 bytes, without computing a hash: the first state, bound to the summary on the
-- page that holds it, is a current record, and a request that sets rack 0's capacity to 5 is carried out on it. Assumes nothing.
use mathlib.Core.Path.{◌≡◌, refl, ap, ◌∙◌}
use mathlib.Core.Bool.{true}
use Prim.Native.Nat.{ℕ}
use mathlib.Core.List.{List}
use lib.ListN.{length, set}
use borrow.Author.Tests.{eq-eqb}
use Rattle.numbers.specs.Numbers.{be_from, be, bytes_of}
use Rattle.numbers.specs.Parts.{part}
use Rattle.racks.specs.Racks.{State, first_state, empty_rack}
use Rattle.racks.specs.Layout.{state_of, bytes_of_state}
use Rattle.racks.specs.Edition.{racks}
use Rattle.racks.proofs.StateBytes.{state_of-bytes_of_state}
use Rattle.racks.proofs.StateRule.{fits_at}
use Rattle.racks.proofs.FirstState.{length-first_state, good_first_state}
use Rattle.requests.specs.Layout.{bytes_of_request}
use Rattle.requests.specs.Formed.{right_form, right_other, right_amount, well_formed}
use Rattle.requests.specs.Requests.{request_by, request_of, read_request}
use Rattle.rules.specs.Rules.{with_capacity, over_capacity, over_stored, over_limit, ruling, carry_out}
use Rattle.rules.specs.Replay.{Booked, book}
use Rattle.records.specs.Form.{Form}
use Rattle.records.specs.Page.{hash_size, page_of}
use Rattle.records.proofs.FormLaws.{Fits}
use Rattle.records.proofs.PageBytes.{page_summary_lem, length_page}
use Rattle.answers.specs.Design.{Served}
use Rattle.answers.specs.Hashing.{bound_record}
use Rattle.answers.specs.Edition.{design, in_bytes, served_bytes}
use Rattle.answers.specs.Written.{Stands}
use Rattle.answers.proofs.States.{GoodBytes}
use Rattle.answers.proofs.Records.{bound-reads, bound-passes}
use Rattle.answers.proofs.Standing.{stands}

-- ---- for every key, summary and good state there is a record, current on the page that holds the summary
pub a_current_record : (f : Form) → Fits f → (key s state : List ℕ) → length key ≡ hash_size → length s ≡ hash_size → GoodBytes f.racks state
    → Stands (design f) (page_of s key) (bound_record (design f) (page_of s key) s state) state
a_current_record f fits key s state k w good =
    stands (design f) (page_of s key) _ state s (eq-eqb _ _ (length_page s key w k))
    (bound-passes f (page_of s key) s state w good.size fits good.good)
    (bound-reads f (page_of s key) s state w good.size (page_of s key) refl) (page_summary_lem s key w k)

-- ---- the request: rack 0's capacity becomes 5

abbrev pub asked : List ℕ
asked = bytes_of_request 1 0 0 5

abbrev pub afterwards : State
afterwards = set (first_state racks) 0 (with_capacity 5 empty_rack)

pub asked_formed : well_formed racks asked ≡ true
unfolding be_from be bytes_of part bytes_of_request right_form right_other right_amount well_formed
asked_formed = refl

booked_first : book racks (first_state racks) asked ≡ Booked.booked afterwards
unfolding be_from be bytes_of part first_state bytes_of_request right_form right_other right_amount well_formed request_by request_of read_request over_capacity over_stored over_limit ruling carry_out book
booked_first = refl

pub first_back : state_of racks (bytes_of_state (first_state racks)) ≡ first_state racks
first_back = state_of-bytes_of_state racks (first_state racks) (length-first_state racks) (λ i. fits_at (first_state racks) i (good_first_state racks))

pub served_first : served_bytes racks (bytes_of_state (first_state racks)) asked ≡ Served.carried (bytes_of_state afterwards)
unfolding served_bytes
served_first = ap (λ (s : State). in_bytes (book racks s asked)) first_back ∙ ap in_bytes booked_first
