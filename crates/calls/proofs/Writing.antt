-- The next record, as the writing makes it: the record's state is laid, carried on where it lies, and sealed.
-- The idea: no request changes the number of racks, so every piece lies where the layout says. Assumes nothing.
use mathlib.Core.Path.{◌≡◌, refl, sym, ap, ◌∙◌}
use Prim.Native.Nat.{ℕ, ◌+◌, ◌-◌, ◌*◌, ◌≤◌}
use native.Mathlib.Nat.{zero-add, add-zero}
use native.Mathlib.Omega.{arith}
use mathlib.Core.List.{List, [], ◌∷◌, ◌++◌, append_assoc}
use lib.ListN.{length, take, drop, length-append}
use Rattle.numbers.specs.Parts.{over, join}
use Rattle.numbers.proofs.Lending.{lent, returned}
use Rattle.numbers.proofs.Laying.{over_all, over-behind, over-front}
use Rattle.racks.specs.Racks.{rack_at}
use Rattle.racks.specs.Layout.{rack_size, state_of, bytes_of_state}
use Rattle.racks.proofs.StatePlaces.{length-state_of}
use Rattle.racks.proofs.StateBytes.{length-bytes_of_state}
use Rattle.requests.specs.declared.Request.{Request}
use Rattle.requests.specs.Requests.{rack_of_request}
use Rattle.rules.specs.Rules.{carry_out}
use Rattle.rules.specs.Ready.{state_in}
use Rattle.rules.proofs.Changes.{length-carry_out}
use Rattle.records.specs.Form.{Form}
use Rattle.records.specs.Page.{hash_size}
use Rattle.records.specs.Record.{state_size, record_size, state_bytes, summary, state, header}
use Rattle.records.proofs.Headers.{length-header}
use Rattle.hmac.specs.declared.Prepared.{Prepared}
use Rattle.bindings.specs.Sealing.{sealed}
use Rattle.bindings.proofs.Seals.{length_state, laid_state, sealed_laid, sealed_summary}
use Rattle.calls.specs.Next.{next_state, next_bytes, next_stored, next_record}
use Rattle.calls.proofs.CarryingOut.{state_in_lem}

-- laid at the front
front : (p x : List ℕ) → over 0 p x ≡ p ++ drop (length p) x
unfolding over
front p x = rw zero-add

-- the middle of three pieces, laid anew
relaid : (a b v c x : List ℕ) → length v ≡ length b → over (length a) v (over 0 (a ++ (b ++ c)) x) ≡ over 0 (a ++ (v ++ c)) x
relaid a b v c x same =
    let fits : 0 + length v ≤ length b = omega arith in
    let rest : List ℕ = c ++ drop (length (a ++ (b ++ c))) x in
    let size : length (a ++ (b ++ c)) ≡ length (a ++ (v ++ c)) = simp length-append (omega arith) in
    let there : over (length a + 0) v (a ++ (b ++ rest)) ≡ a ++ (v ++ rest) = rw (over-behind 0 v a (b ++ rest), over-front 0 v b rest fits, over_all v b same) in
    rw (front (a ++ (b ++ c)) x, front (a ++ (v ++ c)) x, ← size) (simp append_assoc (rw add-zero at there))

-- the state that is lent, from byte 3 to `end`
pub lent_state : (f : Form) (x : List ℕ) (end : ℕ) → end ≡ 3 + state_size f → take (end - 3) (drop 3 x) ≡ state_bytes f x
lent_state f x end ends = rw ends (lent 3 (state_size f) x)

-- carrying a request out in it, where it lies
module _ (f : Form) (q : Request) (x : List ℕ) (room : record_size f ≤ length x) where
  length_next : length (next_bytes f x q) ≡ state_size f
  length_next = length-bytes_of_state (next_state f x q) ∙ ap (λ (k : ℕ). k * rack_size) (length-carry_out (state f x) q ∙ length-state_of f.racks (state_bytes f x))

  module _ (end : ℕ) (ends : end ≡ 3 + state_size f) where
    pub carried : (v : List ℕ) → v ≡ bytes_of_state (carry_out (state_in (take (end - 3) (drop 3 x))) q)
        → over 3 (next_bytes f x q) x ≡ take 3 x ++ (v ++ drop (end - 3) (drop 3 x))
    carried v is =
        let there = rw (lent_state f x end ends, state_in_lem f x q room) at is in
        rw (there, ends) (sym (returned 3 (state_size f) (next_bytes f x q) x length_next))

    pub carried_stored : next_stored f x q ≡ (rack_at (carry_out (state_in (take (end - 3) (drop 3 x))) q) (rack_of_request q)).stored
    carried_stored = rw (lent_state f x end ends, state_in_lem f x q room) refl

-- the pieces of the record l, with the summary su, were laid in x
module _ (f : Form) (l su x y : List ℕ) (laid : y ≡ over 0 (join (header f ∷ state_bytes f l ∷ su ∷ [])) x) (room : record_size f ≤ length x) (long : length l ≡ record_size f) (u : length su ≡ hash_size) where
  wide : length (state_bytes f l) ≡ state_size f
  wide = length_state f l (omega arith)

  pub state_there : state_bytes f y ≡ state_bytes f l
  state_there = ap (state_bytes f) laid ∙ laid_state f (state_bytes f l) su x wide u room

  pub stored_there : (q : Request) → next_stored f l q ≡ next_stored f y q
  stored_there q = ap (λ (m : List ℕ). (rack_at (carry_out (state_of f.racks m) q) (rack_of_request q)).stored) (sym state_there)

  -- it was carried out there, and what stands there was sealed
  module _ (q : Request) (z : List ℕ) (moved : z ≡ over 3 (next_bytes f y q) y) where
    size : length (next_bytes f l q) ≡ state_size f
    size = length_next f q l (omega arith)

    there : z ≡ over 0 (join (header f ∷ next_bytes f l q ∷ su ∷ [])) x
    there =
        let again = rw (length-header f) at (relaid (header f) (state_bytes f l) (next_bytes f l q) (su ++ []) x (size ∙ sym wide)) in
        moved ∙ rw (state_there, laid) again

    pub written : (key : Prepared) (w : List ℕ) → w ≡ sealed f key z → w ≡ over 0 (next_record f key l q su) x
    written key w is = is ∙ rw there (sealed_laid f (next_bytes f l q) su x size u room key)

    pub moved_summary : (key : Prepared) → summary f (sealed f key z) ≡ su
    moved_summary key = rw there (sealed_summary f (next_bytes f l q) su x size u room key)

-- for what carries a request out, and for what writes a record
pub ruleset carrying = (lent_state, carried, carried_stored)

pub ruleset writing = (state_there, stored_there, written, moved_summary)
