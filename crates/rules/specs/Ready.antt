-- What the functions of this crate ask for: a rack with room for a change, and a state, lying in bytes, on which a request can be
-- carried out. Assumes nothing.
use Rattle.std.specs.Prelude.{◌≡◌, ℕ, ◌+◌, ◌*◌, ◌/◌, ◌≤◌, ◌<◌, List, length, set, Ok}
use Rattle.racks.specs.declared.Rack.{Rack}
use Rattle.racks.specs.Racks.{State}
use Rattle.racks.specs.Layout.{rack_size, state_of}
use Rattle.racks.specs.Rule.{flow_limit}
use Rattle.requests.specs.declared.Request.{Request}
use Rattle.requests.specs.Range.{InRange}
use Rattle.rules.specs.Rules.{ruling}

-- a rack can take in so much: neither capacity nor the limit is passed
pub record TakesIn (a : ℕ) (r : Rack) : Type 0 where
  pub room : r.stored + a ≤ r.capacity
  pub flow : r.taken + a ≤ flow_limit

-- a rack can give out so much: it is stored, and the limit is not passed
pub record GivesOut (a : ℕ) (r : Rack) : Type 0 where
  pub held : a ≤ r.stored
  pub flow : r.given + a ≤ flow_limit

-- how many racks lie in bytes, and the state that they are
abbrev pub racks_in : List ℕ → ℕ
racks_in l = length l / rack_size

abbrev pub state_in : List ℕ → State
state_in l = state_of (racks_in l) l

-- bytes hold whole racks and nothing more, and rack i is among them
pub record Holds (l : List ℕ) (i : ℕ) : Type 0 where
  pub whole : racks_in l * rack_size ≡ length l
  pub inside : i < racks_in l

-- the bytes m are l with rack i set to r, in which n is stored
pub record Put (l m : List ℕ) (i : ℕ) (r : Rack) (n : ℕ) : Type 0 where
  pub state : state_in m ≡ set (state_in l) i r
  pub stored : n ≡ r.stored

-- bytes hold whole racks and nothing more, and nothing bars a request that was read among them
pub record Ready (l : List ℕ) (q : Request) : Type 0 where
  pub whole : racks_in l * rack_size ≡ length l
  pub range : InRange (racks_in l) q
  pub free : ruling (state_in l) q ≡ Ok tt
