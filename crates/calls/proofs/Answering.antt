-- What perform and repeat answer, by their tests in the order of the numbers, in the design of a form.
-- The idea: what a test found is put in the place of the test, and past them all stands what was written. Assumes nothing.
use mathlib.Core.Path.{◌≡◌, refl, sym, ap, ap₂, ◌∙◌}
use mathlib.Core.Bool.{Bool, true, false}
use Prim.Native.Nat.{ℕ}
use native.Mathlib.Omega.{arith}
use mathlib.Core.List.{List}
use lib.ListN.{length}
use Rattle.std.specs.Prelude.{Ok, Err}
use Rattle.numbers.specs.Parts.{over}
use Rattle.numbers.specs.Comparing.{same}
use Rattle.numbers.proofs.Comparison.{same_iff}
use Rattle.numbers.proofs.Testing.{failed, passed}
use Rattle.refusals.specs.declared.Refusal.{Refusal}
use Rattle.refusals.specs.declared.Refusal.TheVariants.{Authenticator, Current}
use Rattle.refusals.specs.Tested.{Tested}
use Rattle.racks.specs.Racks.{State, rack_at}
use Rattle.racks.specs.Layout.{state_of}
use Rattle.racks.specs.Rule.{good_state}
use Rattle.racks.proofs.StatePlaces.{length-state_of}
use Rattle.racks.proofs.StateBytes.{state_of-bytes_of_state}
use Rattle.racks.proofs.StateRule.{fits_at}
use Rattle.requests.specs.declared.Request.{Request}
use Rattle.requests.specs.Requests.{request_of, rack_of_request}
use Rattle.requests.specs.Range.{InRange}
use Rattle.requests.proofs.Formed.{read_formed}
use Rattle.rules.specs.Rules.{ruling, carry_out}
use Rattle.rules.specs.Ready.{Ready}
use Rattle.rules.specs.Replay.{by_ruling, book}
use Rattle.rules.proofs.Changes.{length-carry_out}
use Rattle.rules.proofs.Kept.{good_carry_out}
use Rattle.records.specs.declared.Form.{Form as Chosen}
use Rattle.records.specs.declared.page.Page.{Page}
use Rattle.records.specs.Form.{Form, form_of}
use Rattle.records.specs.Page.{page_summary, page_key}
use Rattle.records.specs.Record.{state_bytes, summary, authenticator, state}
use Rattle.hmac.specs.declared.Prepared.{Prepared}
use Rattle.hmac.specs.Preparation.{prepared_of}
use Rattle.bindings.specs.Hashed.{next_summary}
use Rattle.bindings.specs.Sealing.{own_authenticator, sealed_record}
use Rattle.answers.specs.Hashing.{valid, bound_record}
use Rattle.answers.specs.Judging.{by_service, judged, offered, perform_verdict, repeat_verdict}
use Rattle.answers.specs.Answers.{Performed, answered_by, performed, repeated}
use Rattle.answers.specs.Edition.{in_bytes, served_bytes, stored_after, design}
use Rattle.offers.specs.declared.offer.Offer.{Offer}
use Rattle.offers.specs.Offers.{offered_at, offer_by, PassedOffer}
use Rattle.offers.proofs.Authenticators.{valid_prepared, sealed-bound}
use Rattle.offers.proofs.Passing.{offer_passed, offer_refused, offered as offered-is, offered_good, offered-range}
use Rattle.calls.specs.Told.{told}
use Rattle.calls.specs.Next.{moved_on, next_bytes, next_stored, next_record}
use Rattle.calls.proofs.CarryingOut.{ready}

-- the service on the record's state, for a request that was offered with it, and the figure as it is read from the next state's bytes
module _ (f : Form) (page l request answer : List ℕ) (q : Request) (o : PassedOffer f (length page) (length answer) l request q) where
  served_is : served_bytes f.racks (state_bytes f l) request ≡ in_bytes (by_ruling (ruling (state f l) q) (carry_out (state f l) q))
  unfolding served_bytes book
  served_is = rw o.read

  stored_is : ruling (state f l) q ≡ Ok tt → stored_after f.racks (next_bytes f l q) request ≡ next_stored f l q
  unfolding stored_after
  stored_is free =
      let racks : length (state f l) ≡ f.racks = length-state_of f.racks (state_bytes f l) in
      let range : InRange (length (state f l)) q = rw racks (offered-range f (length page) (length answer) l request q o) in
      let good : good_state (carry_out (state f l) q) ≡ true = good_carry_out (state f l) q range free (offered_good f (length page) (length answer) l request q o) in
      let back : state_of f.racks (next_bytes f l q) ≡ carry_out (state f l) q =
      state_of-bytes_of_state f.racks (carry_out (state f l) q) (length-carry_out (state f l) q ∙ racks) (λ i. fits_at (carry_out (state f l) q) i good) in
      ap₂ (λ (t : State) (p : Request). (rack_at t (rack_of_request p)).stored) back (read_formed f.racks request q o.read).1

-- a call of form x, which answers p: its tests 1 to 6 found the page `held` and the offer o, in these buffers, its test 8 says c,
-- and past all tests the page becomes `after`
pub record Call (x : Chosen) (page l request answer : List ℕ) (held : Page) (o : Offer) (c : Bool) (after : List ℕ) (p : Performed) : Type 0 where
  pub of_page : held.bytes.now ≡ page
  pub of_form : o.«record».form ≡ x
  pub of_record : o.«record».bytes.now ≡ l
  pub of_request : o.request.now ≡ request
  pub tests : Ok o.asks ≡ offer_by (offered_at (form_of x) (length page) (length answer) l request) (request_of request)
  pub is : answered_by (design (form_of x)) page l request answer after (judged (offered (design (form_of x)) page l request answer) (valid (design (form_of x)) page l) c (by_service (served_bytes (form_of x).racks (state_bytes (form_of x) l) request))) ≡ p

module _ {x : Chosen} {page l request answer : List ℕ} (held : Page) (o : Offer) (of_page : held.bytes.now ≡ page) (of_record : (o.«record».bytes.now ≡ l) × (o.«record».form ≡ x)) (of_request : o.request.now ≡ request) (tests : Ok o.asks ≡ offer_by (offered_at (form_of x) (length page) (length answer) l request) (request_of request)) where
  -- perform: a record whose summary is the page's, and the page moves on
  pub performs : Call x page l request answer held o (same (summary (form_of o.«record».form) o.«record».bytes.now) (page_summary held.bytes.now)) (over 0 (moved_on (form_of o.«record».form) o.«record».bytes.now o.request.now) page) (performed (design (form_of x)) page l request answer)
  unfolding performed perform_verdict next_summary
  performs = record { of_page = of_page; of_form = of_record.1; of_record = of_record.0; of_request = of_request; tests = tests; is = rw (of_record.1, of_record.0, of_request, of_page) refl }

  -- repeat: a record whose summary, moved on, is the page's, and the page stays
  pub repeats : Call x page l request answer held o (same (moved_on (form_of o.«record».form) o.«record».bytes.now o.request.now) (page_summary held.bytes.now)) page (repeated (design (form_of x)) page l request answer)
  unfolding repeated repeat_verdict next_summary
  repeats = record { of_page = of_page; of_form = of_record.1; of_record = of_record.0; of_request = of_request; tests = tests; is = rw (of_record.1, of_record.0, of_request, of_page) refl }

-- what they find
past : {x : Chosen} {page l request answer : List ℕ} {held : Page} {o : Offer} {c : Bool} {after : List ℕ} {p : Performed} → Call x page l request answer held o c after p
    → (offered_at (form_of x) (length page) (length answer) l request ≡ Ok tt) × (request_of request ≡ o.asks)
past {x} {page} {l} {request} {answer} {held} {o} call =
    offer_passed (offered_at (form_of x) (length page) (length answer) l request) (request_of request) o.asks (sym call.tests)

asked : {x : Chosen} {page l request answer : List ℕ} {held : Page} {o : Offer} {c : Bool} {after : List ℕ} {p : Performed} → Call x page l request answer held o c after p
    → PassedOffer (form_of x) (length page) (length answer) l request o.asks
asked {x} {page} {l} {request} {answer} {held} {o} call =
    offered-is (form_of x) (length page) (length answer) l request o.asks (past call).0 (past call).1

-- a request that nothing bars can be carried out on the record that it is offered with
pub ready_to_carry : (o : Offer) {w : Tested} → w ≡ ruling (state (form_of o.«record».form) o.«record».bytes.now) o.asks → w ≡ Ok tt
    → Ready (state_bytes (form_of o.«record».form) o.«record».bytes.now) o.asks
ready_to_carry o judgement free =
    ready (form_of o.«record».form) o.«record».bytes.now o.asks (omega (arith, o.«record».sized)) o.ranged (sym judgement ∙ free)

-- one of the tests 1 to 6 refuses
module _ (x : Chosen) (page l request answer : List ℕ) (r : Refusal) (refused : Err r ≡ offer_by (offered_at (form_of x) (length page) (length answer) l request) (request_of request)) where
  none : offered (design (form_of x)) page l request answer ≡ Err r
  none = offer_refused (offered_at (form_of x) (length page) (length answer) l request) (request_of request) r (sym refused)

  pub perform_early : performed (design (form_of x)) page l request answer ≡ told (Err r) page answer
  unfolding performed perform_verdict
  perform_early = rw none refl

  pub repeat_early : repeated (design (form_of x)) page l request answer ≡ told (Err r) page answer
  unfolding repeated repeat_verdict
  repeat_early = rw none refl

-- all of them pass
module _ {x : Chosen} {page l request answer : List ℕ} {held : Page} {o : Offer} {c : Bool} {after : List ℕ} {p : Performed} (call : Call x page l request answer held o c after p) where
  -- r is what test 7 finds under the page's key
  module _ {key : Prepared} (prepared : key ≡ prepared_of (page_key held.bytes.now)) {r : Bool} (seven : r ≡ same (authenticator (form_of o.«record».form) o.«record».bytes.now) (own_authenticator (form_of o.«record».form) key o.«record».bytes.now)) where
    key_is : key ≡ prepared_of (page_key page)
    key_is = rw call.of_page at prepared

    valid_is : r ≡ valid (design (form_of x)) page l
    valid_is = valid_prepared (form_of x) page key key_is l r (rw (call.of_form, call.of_record) at seven)

    pub forged : r ≡ false → told (Err Authenticator) page answer ≡ p
    forged fails = rw ((past call).0, failed r _ valid_is fails) at call.is

    -- t is what test 8 finds
    module _ (ok : r ≡ true) {t : Bool} (eight : t ≡ c) where
      pub stale : t ≡ false → told (Err Current) page answer ≡ p
      stale fails = rw ((past call).0, passed r _ valid_is ok, failed t c eight fails) at call.is

      -- w is the charge rules' ruling
      module _ (current : t ≡ true) {w : Tested} (judgement : w ≡ ruling (state (form_of o.«record».form) o.«record».bytes.now) o.asks) where
        ruling_is : w ≡ ruling (state (form_of x) l) o.asks
        ruling_is = rw (call.of_form, call.of_record) at judgement

        served : answered_by (design (form_of x)) page l request answer after (by_service (in_bytes (by_ruling (ruling (state (form_of x) l) o.asks) (carry_out (state (form_of x) l) o.asks)))) ≡ p
        served = rw ((past call).0, passed r _ valid_is ok, passed t c eight current, served_is (form_of x) page l request answer o.asks (asked call)) at call.is

        pub barred : (b : Refusal) → w ≡ Err b → told (Err b) page answer ≡ p
        barred b is = rw (sym ruling_is ∙ is) at served

        -- past all tests, k was answered, the page became y and the answer z, with the summary su
        pub done : w ≡ Ok tt → {k : ℕ} {y z su : List ℕ} → y ≡ after → su ≡ moved_on (form_of o.«record».form) o.«record».bytes.now o.request.now
            → k ≡ next_stored (form_of o.«record».form) o.«record».bytes.now o.asks
            → z ≡ over 0 (next_record (form_of o.«record».form) key o.«record».bytes.now o.asks su) answer → told (Ok k) y z ≡ p
        unfolding next_summary
        done free {k} {y} {z} {su} moved next stored written =
            let f = form_of x in
            let next-is : su ≡ moved_on f l request = rw (call.of_form, call.of_record, call.of_request) at next in
            let free-is : ruling (state f l) o.asks ≡ Ok tt = sym ruling_is ∙ free in
            let k-is : k ≡ next_stored f l o.asks = rw (call.of_form, call.of_record) at stored in
            let z-is : z ≡ over 0 (sealed_record f key su (next_bytes f l o.asks)) answer = rw (call.of_form, call.of_record) at written in
            let bound : z ≡ over 0 (bound_record (design f) page su (next_bytes f l o.asks)) answer =
            z-is ∙ ap (λ (m : List ℕ). over 0 m answer) (sealed-bound f page key key_is su (next_bytes f l o.asks)) in
            rw (moved, k-is, bound, next-is, ← stored_is f page l request answer o.asks (asked call) free-is) (rw free-is at served)

-- two summaries that were found the same
pub follows : {t : Bool} {a b : List ℕ} → t ≡ same a b → t ≡ true → b ≡ a
follows {t} {a} {b} compared holds = sym ((same_iff a b).0 (passed t (same a b) compared holds))
