-- View by its cases: what is refused gives its number and zeros, and past the tests are the figures. Assumes nothing.
use mathlib.Core.Path.{◌≡◌, refl, sym, ap, ◌∙◌}
use mathlib.Core.Bool.{Bool, true, false, cond}
use Prim.Native.Nat.{ℕ, ◌*◌, ◌/◌, ◌^◌, ◌≤◌, ◌<◌}
use native.Mathlib.Omega.{arith}
use native.Mathlib.Nat.{mul-div_cancel}
use mathlib.Core.List.{List}
use lib.ListN.{length}
use lib.Dec.{ltb, lit<}
use borrow.Author.Tests.{lt-ltb, le-ltb}
use Rattle.std.specs.Prelude.{Ok, Err}
use Rattle.numbers.specs.Parts.{part}
use Rattle.numbers.specs.Comparing.{same}
use Rattle.numbers.proofs.Testing.{failed, passed}
use Rattle.refusals.specs.declared.Refusal.{Refusal}
use Rattle.refusals.specs.declared.Refusal.TheVariants.{Authenticator, Current, Total}
use Rattle.refusals.specs.Tested.{Tested}
use Rattle.racks.specs.declared.Rack.{Rack}
use Rattle.racks.specs.Racks.{rack_at}
use Rattle.racks.specs.Layout.{rack_size, rack_of, state_of}
use Rattle.racks.specs.Rule.{good_rack, good_state}
use Rattle.racks.specs.Figures.{percent, total_stored}
use Rattle.racks.proofs.StatePlaces.{rack_at-state_of}
use Rattle.racks.proofs.StateRule.{good_at}
use Rattle.rules.specs.Ready.{racks_in, state_in}
use Rattle.records.specs.Form.{Form}
use Rattle.records.specs.Page.{page_summary, page_key}
use Rattle.records.specs.Record.{state_size, state_bytes, summary, authenticator, state}
use Rattle.hmac.specs.declared.Prepared.{Prepared}
use Rattle.hmac.specs.Preparation.{prepared_of}
use Rattle.bindings.specs.Sealing.{own_authenticator}
use Rattle.bindings.proofs.Seals.{length_state}
use Rattle.offers.specs.Offers.{looked_at, PassedLook}
use Rattle.offers.proofs.Authenticators.{valid_prepared}
use Rattle.offers.proofs.Passing.{looked, looked-length, looked_good}
use Rattle.answers.specs.Hashing.{valid}
use Rattle.answers.specs.Judging.{judged, shown, view_verdict}
use Rattle.answers.specs.Answers.{Viewed, viewed_by, viewed}
use Rattle.answers.specs.Edition.{figures_of, design}
use Rattle.views.specs.Told.{told_view}
use Rattle.views.specs.Seen.{seen_in}

-- what the definition of view says past test 8
shown_by : (f : Form) (l : List ℕ) (rack : ℕ) (b : Bool) → ltb (total_stored (state_of f.racks l)) (256 ^ 4) ≡ b
    → viewed_by (design f) rack (shown (design f) l rack) ≡ seen_in (state_of f.racks l) rack
shown_by f l rack true e = rw e refl
shown_by f l rack false e = rw e refl

shown_is : (f : Form) (l : List ℕ) (rack : ℕ) → viewed_by (design f) rack (shown (design f) l rack) ≡ seen_in (state_of f.racks l) rack
shown_is f l rack = shown_by f l rack _ refl

-- ---- what test 12 needs, of the state's bytes in a record

module _ (f : Form) (page : ℕ) (l : List ℕ) (rack : ℕ) (st : List ℕ) (is : st ≡ state_bytes f l) (o : PassedLook f page l rack) where
  state_length : length st ≡ state_size f
  state_length = ap length is ∙ length_state f l (omega (arith, looked-length f page l rack o))

  state_racks : racks_in st ≡ f.racks
  state_racks = ap (λ (m : ℕ). m / rack_size) state_length ∙ mul-div_cancel f.racks (lit< tt)

  pub state_ready : state_size f ≤ 65535 → (length st ≤ 65535) × ((good_state (state_in st) ≡ true) × (rack < racks_in st))
  state_ready short = (rw state_length short, (rw (state_racks, is) (looked_good f page l rack o), rw state_racks o.inside))

  -- what is shown of the bytes is shown of the record's state
  pub state_shown : (x : Viewed) → x ≡ seen_in (state_in st) rack → x ≡ seen_in (state f l) rack
  state_shown x e = rw (state_racks, is) at e

-- ---- tests 1 to 8

-- tests 1 to 6 find t
module _ (f : Form) (page l : List ℕ) (rack : ℕ) {t : Tested} (test : t ≡ looked_at f (length page) l rack) where
  viewed_by_lem : viewed_by (design f) rack (judged t (valid (design f) page l) (same (summary f l) (page_summary page)) (shown (design f) (state_bytes f l) rack))
      ≡ viewed (design f) page l rack
  unfolding viewed view_verdict
  viewed_by_lem = ap (λ (x : Tested). viewed_by (design f) rack (judged x (valid (design f) page l) (same (summary f l) (page_summary page)) (shown (design f) (state_bytes f l) rack))) test

  pub view_early : (r : Refusal) → t ≡ Err r → told_view (Err r) ≡ viewed (design f) page l rack
  view_early r found = rw found at viewed_by_lem

  -- they pass
  module _ (past : t ≡ Ok tt) where
    pub view_looked : PassedLook f (length page) l rack
    view_looked = looked f (length page) l rack (sym test ∙ past)

    pub figures_ready : {st : List ℕ} → st ≡ state_bytes f l → state_size f ≤ 65535 → (length st ≤ 65535) × ((good_state (state_in st) ≡ true) × (rack < racks_in st))
    figures_ready {st} is short = state_ready f (length page) l rack st is view_looked short

    -- r is what test 7 finds under the page's key
    module _ {key : Prepared} (prepared : key ≡ prepared_of (page_key page)) {r : Bool} (seven : r ≡ same (authenticator f l) (own_authenticator f key l)) where
      valid_is : r ≡ valid (design f) page l
      valid_is = valid_prepared f page key prepared l r seven

      pub view_forged : r ≡ false → told_view (Err Authenticator) ≡ viewed (design f) page l rack
      view_forged fails = rw (past, failed r _ valid_is fails) at viewed_by_lem

      -- s is what test 8 finds
      module _ (ok : r ≡ true) {s : Bool} (eight : s ≡ same (summary f l) (page_summary page)) where
        pub view_stale : s ≡ false → told_view (Err Current) ≡ viewed (design f) page l rack
        view_stale fails = rw (past, passed r _ valid_is ok, failed s _ eight fails) at viewed_by_lem

        pub view_current : {x : Viewed} {st : List ℕ} → s ≡ true → st ≡ state_bytes f l → x ≡ seen_in (state_in st) rack → x ≡ viewed (design f) page l rack
        view_current {x} {st} holds is seen = state_shown f (length page) l rack st is view_looked x seen ∙ sym (shown_is f (state_bytes f l) rack) ∙ (rw (past, passed r _ valid_is ok, passed s _ eight holds) at viewed_by_lem)

-- ---- test 12 and the figures

module _ (n : ℕ) (l : List ℕ) (rack : ℕ) where
  by_total : (b : Bool) → ltb (total_stored (state_of n l)) (256 ^ 4) ≡ b
      → seen_in (state_of n l) rack ≡ cond b record { number = 0; figures = figures_of (state_of n l) rack } (told_view (Err Total))
  by_total b e = rw e refl

  pub view_over : (total : ℕ) → total ≡ total_stored (state_of n l) → 2 ^ 32 ≤ total → told_view (Err Total) ≡ seen_in (state_of n l) rack
  view_over total is over = sym (by_total false (le-ltb (total_stored (state_of n l)) (256 ^ 4) (omega arith)))

  pub view_seen : (total full : ℕ) (r : Rack) → total ≡ total_stored (state_of n l) → total < 2 ^ 32 → r ≡ rack_of (part (rack * rack_size) rack_size l) → rack < n → full ≡ percent r
      → told_view (Ok (record { stored = r.stored; capacity = r.capacity; percent = full; total = total })) ≡ seen_in (state_of n l) rack
  view_seen total full r is fits reads inside share =
      let at : r ≡ rack_at (state_of n l) rack = reads ∙ sym (rack_at-state_of n l rack inside) in
      let p : full ≡ percent (rack_at (state_of n l) rack) = share ∙ ap percent at in
      rw (by_total true (lt-ltb (total_stored (state_of n l)) (256 ^ 4) (omega arith)), is, p, at) refl

  pub seen_good : (r : Rack) → good_state (state_of n l) ≡ true → r ≡ rack_of (part (rack * rack_size) rack_size l) → rack < n → good_rack r ≡ true
  seen_good r good reads inside = rw (reads, ← rack_at-state_of n l rack inside) (good_at (state_of n l) rack good)
