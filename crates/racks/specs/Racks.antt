-- Document 01, 'Layouts' and 'State rule': a rack is its four figures, capacity, stored, taken in and given out, counted in
-- ampere-seconds, and a state is a list of racks. Nothing here says how many. Assumes nothing.
use Rattle.std.specs.Prelude.{ℕ, List, get_or, replicate}
use Rattle.racks.specs.declared.Rack.{Rack}

-- the rack of the first state: all four figures are zero
abbrev pub empty_rack : Rack
empty_rack = record { capacity = 0; stored = 0; taken = 0; given = 0 }

-- a state of n racks, rack 0 first
abbrev pub State : Type 0
State = List Rack

-- rack i of a state
abbrev pub rack_at : State → ℕ → Rack
rack_at s i = get_or s i empty_rack

-- the first state of n racks
unfoldable pub first_state : ℕ → State
first_state n = replicate n empty_rack
