-- The state where it lies: what becomes of the bytes when a rack is written, and when a request has been carried out.
-- The idea: bytes that hold whole racks are the bytes of the state that they hold. Assumes nothing.
use mathlib.Core.Path.{◌≡◌, refl, sym, ap, ap₂, ◌∙◌}
use mathlib.Core.Bool.{false}
use Prim.Native.Nat.{ℕ, ◌*◌, ◌/◌}
use native.Mathlib.Omega.{arith}
use mathlib.Core.List.{List}
use lib.ListN.{length, set}
use lib.Seq.{get_or-set_other}
use Rattle.numbers.specs.Numbers.{Bytes}
use Rattle.numbers.specs.Parts.{over}
use Rattle.racks.specs.declared.Rack.{Rack}
use Rattle.racks.specs.Racks.{empty_rack, rack_at}
use Rattle.racks.specs.Layout.{rack_size, state_of, bytes_of_rack, bytes_of_state, FitsWidths}
use Rattle.racks.proofs.StatePlaces.{length-state_of, rack_at-state_of, state_of-over}
use Rattle.racks.proofs.StateBytes.{bytes_of_state-state_of}
use Rattle.requests.specs.declared.Request.{Request}
use Rattle.requests.specs.declared.Request.TheVariants.{Move}
use Rattle.requests.specs.Requests.{rack_of_request, moves}
use Rattle.rules.specs.Rules.{charged_by, discharged_by, carry_out}
use Rattle.rules.specs.Ready.{TakesIn, racks_in, state_in, Holds, Put, Ready}
use Rattle.rules.proofs.Rulings.{free_charge, free_discharge, free_move}
use Rattle.rules.proofs.Changes.{changed, sets_one, rack_after}

-- a rack is read where it lies
pub ruleset rack_read = (rack_at-state_of)

-- a rack is written where it lies
pub written : (l m : List ℕ) (i : ℕ) (r : Rack) → Holds l i → FitsWidths r → length m ≡ length l → m ≡ over (i * rack_size) (bytes_of_rack r) l
    → state_in m ≡ set (state_in l) i r
written l m i r h fits long e =
    ap₂ state_of (ap (λ (k : ℕ). k / rack_size) long) e ∙ state_of-over (racks_in l) l i r h.inside fits (omega arith)

-- what becomes of the rack that a request names
pub named_after : (l : List ℕ) (q : Request) → Ready l q → rack_at (carry_out (state_in l) q) (rack_of_request q) ≡ changed q (rack_at (state_in l) (rack_of_request q))
named_after l q ready = rack_after (state_in l) q (rw (length-state_of (racks_in l) l) ready.range)

-- bytes m, as long as l, that hold the state that a request gives
carried : (l m : List ℕ) (q : Request) → Ready l q → Bytes m → length m ≡ length l → state_in m ≡ carry_out (state_in l) q → m ≡ bytes_of_state (carry_out (state_in l) q)
carried l m q ready bytes long state =
    let whole : length m ≡ racks_in m * rack_size = omega (arith, ready.whole) in
    sym (bytes_of_state-state_of (racks_in m) m bytes whole) ∙ ap bytes_of_state state

-- one rack was put
pub carried_one : (l m : List ℕ) (q : Request) (n : ℕ) → Ready l q → Bytes m → length m ≡ length l → moves q ≡ false
    → Put l m (rack_of_request q) (changed q (rack_at (state_in l) (rack_of_request q))) n → m ≡ bytes_of_state (carry_out (state_in l) q)
carried_one l m q n ready bytes long one put = carried l m q ready bytes long (put.state ∙ sym (sets_one (state_in l) q one))

-- a move: in u the amount has left its rack
module _ (l u : List ℕ) (i o a n : ℕ) (ready : Ready l (Move i o a)) (long : length u ≡ length l) (put : Put l u i (discharged_by a (rack_at (state_in l) i)) n) where
  -- the other rack is as before
  other-rack : rack_at (state_in u) o ≡ rack_at (state_in l) o
  other-rack = rw put.state (get_or-set_other (state_in l) i o (discharged_by a (rack_at (state_in l) i)) empty_rack (ready.range.apart refl))

  -- and can take the amount in
  pub halfway : Holds u o × TakesIn a (rack_at (state_in u) o)
  halfway = (
    record { whole = omega (arith, ready.whole); inside = omega (arith, ready.range.named.other) },
    rw other-rack (free_move (state_in l) i o a ready.free).1,
  )

  -- both racks were put
  pub carried_move : (m : List ℕ) (k : ℕ) → Bytes m → length m ≡ length u → Put u m o (charged_by a (rack_at (state_in u) o)) k
      → m ≡ bytes_of_state (carry_out (state_in l) (Move i o a))
  unfolding carry_out
  carried_move m k bytes same next = carried l m (Move i o a) ready bytes (same ∙ long) (next.state ∙ rw (other-rack, put.state))

-- for a request that is carried out
pub ruleset carries = (named_after, free_charge, free_discharge, free_move, halfway, carried_one, carried_move)
