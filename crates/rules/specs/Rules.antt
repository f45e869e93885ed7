-- Document 01, 'Charge rules' and the rows 9, 10 and 11 of 'Numbers of refusal': what bars a request on a state, and what a request
-- changes. Capacity: the rack's capacity becomes amount. Charge: stored and taken in rise by amount. Discharge: stored falls and
-- given out rises by amount. Move: the rack discharges and other charges the same amount. Assumes nothing.
use Rattle.std.specs.Prelude.{ℕ, ◌+◌, ◌-◌, Bool, false, ◌||◌, cond, ltb, set, Ok, Err}
use Rattle.racks.specs.declared.Rack.{Rack}
use Rattle.racks.specs.Racks.{State, rack_at}
use Rattle.racks.specs.Rule.{flow_limit}
use Rattle.refusals.specs.declared.Refusal.TheVariants.{Capacity as CapacityRefusal, Stored, Limit}
use Rattle.refusals.specs.Tested.{Tested}
use Rattle.requests.specs.declared.Request.{Request}
use Rattle.requests.specs.declared.Request.TheVariants.{Capacity, Charge, Discharge, Move}
use Rattle.requests.specs.Requests.{arrives}

-- 9: charge, or a move into other, would pass capacity; new capacity under stored
unfoldable pub over_capacity : State → Request → Bool
over_capacity s (Capacity i a) = ltb a (rack_at s i).stored
over_capacity s (Charge i a) = ltb (rack_at s i).capacity ((rack_at s i).stored + arrives (Charge i a))
over_capacity s (Discharge i a) = false
over_capacity s (Move i o a) = ltb (rack_at s o).capacity ((rack_at s o).stored + arrives (Move i o a))

-- 10: discharge, or a move out, of more than stored
unfoldable pub over_stored : State → Request → Bool
over_stored s (Capacity i a) = false
over_stored s (Charge i a) = false
over_stored s (Discharge i a) = ltb (rack_at s i).stored a
over_stored s (Move i o a) = ltb (rack_at s i).stored a

-- 11: taken in or given out would pass its limit, in either rack of a move
unfoldable pub over_limit : State → Request → Bool
over_limit s (Capacity i a) = false
over_limit s (Charge i a) = ltb flow_limit ((rack_at s i).taken + arrives (Charge i a))
over_limit s (Discharge i a) = ltb flow_limit ((rack_at s i).given + a)
over_limit s (Move i o a) = ltb flow_limit ((rack_at s o).taken + arrives (Move i o a)) || ltb flow_limit ((rack_at s i).given + a)

-- tests are made in the order of the numbers, and the first that applies is the answer
unfoldable pub ruling : State → Request → Tested
ruling s q =
    cond (over_capacity s q) (Err CapacityRefusal) (cond (over_stored s q) (Err Stored) (cond (over_limit s q) (Err Limit) (Ok tt)))

-- a rack after each of the three changes
abbrev pub with_capacity : ℕ → Rack → Rack
with_capacity a r = record { capacity = a; stored = r.stored; taken = r.taken; given = r.given }

abbrev pub charged_by : ℕ → Rack → Rack
charged_by a r = record { capacity = r.capacity; stored = r.stored + a; taken = r.taken + a; given = r.given }

abbrev pub discharged_by : ℕ → Rack → Rack
discharged_by a r = record { capacity = r.capacity; stored = r.stored - a; taken = r.taken; given = r.given + a }

-- the state after a request that nothing bars
unfoldable pub carry_out : State → Request → State
carry_out s (Capacity i a) = set s i (with_capacity a (rack_at s i))
carry_out s (Charge i a) = set s i (charged_by (arrives (Charge i a)) (rack_at s i))
carry_out s (Discharge i a) = set s i (discharged_by a (rack_at s i))
carry_out s (Move i o a) = set (set s i (discharged_by a (rack_at s i))) o (charged_by (arrives (Move i o a)) (rack_at s o))
