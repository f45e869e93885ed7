-- A header, a state and a summary laid end to end, and the authenticator laid behind them, make the record that binds the state to the
-- summary. The idea: what was laid is cut out again by its widths. Assumes nothing.
use mathlib.Core.Path.{◌≡◌, sym, ap, ◌∙◌}
use Prim.Native.Nat.{ℕ, ◌+◌, ◌-◌, ◌≤◌}
use native.Mathlib.Nat.{zero-add}
use native.Mathlib.Omega.{arith}
use mathlib.Core.List.{List, [], ◌∷◌, ◌++◌, append_assoc, append-nil, map}
use lib.ListN.{length, take, get_or}
use Rattle.numbers.specs.Parts.{part, over, size, cut_at, join}
use Rattle.numbers.proofs.Parts.{length_part, length_over, part-part, part-over, part-before-over, over-over}
use Rattle.numbers.proofs.Layouts.{length-join, cut_at-join}
use Rattle.numbers.proofs.Laying.{lay_at_join}
use Rattle.records.specs.Form.{Form}
use Rattle.records.specs.Page.{hash_size, page_size, page_summary, page_key}
use Rattle.records.specs.Record.{state_size, record_size, state_bytes, summary, header}
use Rattle.records.proofs.Headers.{length-header}
use Rattle.records.proofs.RecordBytes.{record_begins}
use Rattle.hmac.specs.declared.Prepared.{Prepared}
use Rattle.hmac.specs.Preparation.{mac_of}
use Rattle.bindings.specs.Hashed.{binding_of}
use Rattle.bindings.specs.Sealing.{own_authenticator, sealed, sealed_record}
use Rattle.bindings.proofs.Hashes.{length-mac, length-next_summary}

-- a page's key can be prepared, and its summary is one
pub key_short : (page : List ℕ) → length page ≡ page_size → length (page_key page) ≤ 64
key_short page long = omega (arith, length_part hash_size hash_size page (omega arith))

pub length-page_summary : (page : List ℕ) → length page ≡ page_size → length (page_summary page) ≡ hash_size
length-page_summary page long = length_part 0 hash_size page (omega arith)

-- a record stands at the front of l
module _ (f : Form) (l : List ℕ) (room : record_size f ≤ length l) where
  pub length_state : length (state_bytes f l) ≡ state_size f
  length_state = length_part 3 (state_size f) l (omega arith)

  pub length_summary : length (summary f l) ≡ hash_size
  length_summary = length_part (3 + state_size f) hash_size l (omega arith)

  -- its summary is read from the first m bytes, m being its size
  pub front_summary : (m : ℕ) → m ≡ record_size f → summary f (take m l) ≡ summary f l
  unfolding part
  front_summary m all = rw zero-add at (part-part 0 m (3 + state_size f) hash_size l (omega arith))

  -- and its own authenticator, laid in its place
  pub sealed-front : (key : Prepared) (m : ℕ) (au y : List ℕ) → m ≡ record_size f → au ≡ own_authenticator f key (take m l) → y ≡ over (m - hash_size) au l → y ≡ sealed f key l
  unfolding part sealed
  sealed-front key m au y all own laid =
      let place : m - hash_size ≡ 3 + state_size f + hash_size = omega arith in
      let state : state_bytes f (take m l) ≡ state_bytes f l = part-part 0 m 3 (state_size f) l (omega arith) in
      laid ∙ rw (place, own, state, front_summary m all)

-- for what seals it, and for what reads or lays its parts
pub ruleset seals = (sealed-front)

pub ruleset lengths = (length_state, length_summary, length-page_summary, length-next_summary)

-- three pieces, laid one behind the other
pub laid_3 : (h st su x y z w : List ℕ) → length h + (length st + length su) ≤ length x → y ≡ over 0 h x → z ≡ over (length h) st y → w ≡ over (length h + length st) su z
    → w ≡ over 0 (join (h ∷ st ∷ su ∷ [])) x
laid_3 h st su x y z w room first second third =
    let fits : 0 + length (join (h ∷ st ∷ su ∷ [])) ≤ length x = omega (arith, length-join (h ∷ st ∷ su ∷ [])) in
    third ∙ rw (second, first, ← zero-add (length h)) (lay_at_join 0 (h ∷ st ∷ su ∷ []) x fits)

-- the header, a state and a summary were laid at the front of x
module _ (f : Form) (st su x : List ℕ) (wide : length st ≡ state_size f) (u : length su ≡ hash_size) (room : record_size f ≤ length x) where
  abbrev pieces : List (List ℕ)
  pieces = header f ∷ st ∷ su ∷ []

  widths : map length pieces ≡ 3 ∷ state_size f ∷ hash_size ∷ []
  widths = let three = length-header f in cc

  length_pieces : length (join pieces) ≡ 3 + state_size f + hash_size
  length_pieces = length-join pieces ∙ omega (arith, length-header f)

  cut : cut_at 0 (3 ∷ state_size f ∷ hash_size ∷ []) (over 0 (join pieces) x) ≡ pieces
  cut =
      let all : length (join pieces) ≡ size (3 ∷ state_size f ∷ hash_size ∷ []) = omega (arith, length_pieces) in
      cut_at-join 0 (3 ∷ state_size f ∷ hash_size ∷ []) (over 0 (join pieces) x) pieces widths (part-over 0 _ (join pieces) x all (omega arith))

  pub laid_state : state_bytes f (over 0 (join pieces) x) ≡ st
  laid_state = ap (λ (fs : List (List ℕ)). get_or fs 1 []) cut

  pub laid_summary : summary f (over 0 (join pieces) x) ≡ su
  laid_summary = ap (λ (fs : List (List ℕ)). get_or fs 2 []) cut

  -- and are sealed there, the summary being as it was
  pub sealed_laid : (key : Prepared) → sealed f key (over 0 (join pieces) x) ≡ over 0 (sealed_record f key su st) x
  unfolding sealed
  sealed_laid key =
      let au = mac_of key (binding_of f su st) in
      let whole : join pieces ++ au ≡ sealed_record f key su st =
      simp (append_assoc, append-nil) (sym (record_begins f st su au wide u (length-mac key (binding_of f su st)) ∙ simp append_assoc)) in
      let behind = rw zero-add at (over-over 0 (3 + state_size f + hash_size) (join pieces) x length_pieces (omega arith) au) in
      rw (laid_state, laid_summary) (behind ∙ ap (λ (m : List ℕ). over 0 m x) whole)

  pub sealed_summary : (key : Prepared) → summary f (sealed f key (over 0 (join pieces) x)) ≡ su
  unfolding sealed
  sealed_summary key =
      let there : length (over 0 (join pieces) x) ≡ length x = length_over 0 (join pieces) x (omega (arith, length_pieces)) in
      part-before-over (3 + state_size f + hash_size) hash_size _ (over 0 (join pieces) x) (length-mac key _) (omega arith) (3 + state_size f) hash_size (omega arith) ∙ laid_summary
