-- Document 01, 'State rule', for each rack: capacity within its limit, stored at most capacity, taken in within its limit, given
-- out at most taken in, and stored equal to taken in less given out. Assumes nothing.
use Rattle.std.specs.Prelude.{◌≡◌, ℕ, ◌+◌, ◌-◌, ◌≤◌, Bool, true, ◌&&◌, [], ◌∷◌, leb, eqb}
use Rattle.racks.specs.declared.Rack.{Rack}
use Rattle.racks.specs.Racks.{State}

-- the most that a capacity or an amount may be
abbrev pub amount_limit : ℕ
amount_limit = 100_000_000

-- the most that a rack may have taken in, or given out
abbrev pub flow_limit : ℕ
flow_limit = 1_000_000_000_000_000

-- the rule for one rack
unfoldable pub good_rack : Rack → Bool
good_rack r =
    leb r.capacity amount_limit
    && leb r.stored r.capacity
    && leb r.taken flow_limit
    && leb r.given r.taken
    && eqb r.stored (r.taken - r.given)

-- the rule for a state, whatever the number of its racks
unfoldable pub good_state : State → Bool
good_state [] = true
good_state (r ∷ s) = good_rack r && good_state s

-- the rule for one rack in facts; the last as a sum: what is stored and what was given out is what was taken in
pub record Good (r : Rack) : Type 0 where
  pub limit : r.capacity ≤ amount_limit
  pub room : r.stored ≤ r.capacity
  pub flow : r.taken ≤ flow_limit
  pub order : r.given ≤ r.taken
  pub balance : r.stored + r.given ≡ r.taken
