-- What a ruling says: a request that nothing bars passes every test of the rules.
-- The idea: the ruling is a chain of tests, and only at its end nothing bars. Assumes nothing.
use mathlib.Core.Path.{◌≡◌, refl}
use mathlib.Core.Bool.{Bool, true, false, ◌||◌, true≢false, cond}
use Prim.Native.Nat.{ℕ, ◌≤◌}
use native.Mathlib.Omega.{arith}
use borrow.Author.Tests.{ltb-false}
use Rattle.std.specs.Prelude.{Ok, Err}
use Rattle.racks.specs.Racks.{State, rack_at}
use Rattle.refusals.specs.declared.Refusal.TheVariants.{Capacity as CapacityRefusal, Stored, Limit}
use Rattle.refusals.specs.Tested.{Tested}
use Rattle.requests.specs.declared.Request.{Request}
use Rattle.requests.specs.declared.Request.TheVariants.{Capacity, Charge, Discharge, Move}
use Rattle.requests.specs.Requests.{arrives}
use Rattle.rules.specs.Rules.{over_capacity, over_stored, over_limit, ruling}
use Rattle.rules.specs.Ready.{TakesIn, GivesOut}

-- of two tests neither applies
neither : (a b : Bool) → (a || b) ≡ false → (a ≡ false) × (b ≡ false)
neither true b e = absurd (true≢false e)
neither false b e = (refl, e)

-- only at the end of the chain nothing bars
chosen : (a b c : Bool) → ◌≡◌ {A = Tested} (cond a (Err CapacityRefusal) (cond b (Err Stored) (cond c (Err Limit) (Ok tt)))) (Ok tt)
    → (a ≡ false) × (b ≡ false) × (c ≡ false)
chosen true b c e = let z : ◌≡◌ {A = ℕ} 0 1 = cc in absurd (omega arith)
chosen false true c e = let z : ◌≡◌ {A = ℕ} 0 1 = cc in absurd (omega arith)
chosen false false true e = let z : ◌≡◌ {A = ℕ} 0 1 = cc in absurd (omega arith)
chosen false false false e = (refl, refl, refl)

pub clear : (s : State) (q : Request) → ruling s q ≡ Ok tt → (over_capacity s q ≡ false) × (over_stored s q ≡ false) × (over_limit s q ≡ false)
unfolding ruling
clear s q free = chosen (over_capacity s q) (over_stored s q) (over_limit s q) free

-- a capacity that is set is not under what is stored
pub free-capacity : (s : State) (i a : ℕ) → ruling s (Capacity i a) ≡ Ok tt → (rack_at s i).stored ≤ a
unfolding over_capacity
free-capacity s i a free = ltb-false a (rack_at s i).stored (clear s (Capacity i a) free).0

-- a rack that is charged can take it in
pub free_charge : (s : State) (i a : ℕ) → ruling s (Charge i a) ≡ Ok tt → TakesIn (arrives (Charge i a)) (rack_at s i)
unfolding over_capacity over_limit
free_charge s i a free =
    let t = clear s (Charge i a) free in
    record { room = ltb-false _ _ t.0; flow = ltb-false _ _ t.2 }

-- a rack that is discharged can give it out
pub free_discharge : (s : State) (i a : ℕ) → ruling s (Discharge i a) ≡ Ok tt → GivesOut a (rack_at s i)
unfolding over_stored over_limit
free_discharge s i a free =
    let t = clear s (Discharge i a) free in
    record { held = ltb-false (rack_at s i).stored a t.1; flow = ltb-false _ _ t.2 }

-- of a move's racks the one can give it out and the other take it in
pub free_move : (s : State) (i o a : ℕ) → ruling s (Move i o a) ≡ Ok tt → GivesOut a (rack_at s i) × TakesIn (arrives (Move i o a)) (rack_at s o)
unfolding over_capacity over_stored over_limit
free_move s i o a free =
    let t = clear s (Move i o a) free in
    let flows = neither _ _ t.2 in
    (record { held = ltb-false (rack_at s i).stored a t.1; flow = ltb-false _ _ flows.1 }, record { room = ltb-false _ _ t.0; flow = ltb-false _ _ flows.0 })
