-- What is stored over all racks: with one rack changed, and the most that it can be under the rule.
-- The idea: rack by rack. Assumes nothing.
use mathlib.Core.Path.{◌≡◌}
use mathlib.Core.Bool.{true, and-eq-true_iff}
use Prim.Native.Nat.{ℕ, zero, suc, ◌+◌, ◌*◌, ◌≤◌, ◌<◌}
use native.Mathlib.Omega.{arith}
use mathlib.Core.List.{[], ◌∷◌}
use lib.ListN.{length, set}
use Rattle.racks.specs.declared.Rack.{Rack}
use Rattle.racks.specs.Racks.{State, rack_at}
use Rattle.racks.specs.Rule.{good_rack, good_state, amount_limit}
use Rattle.racks.specs.Figures.{total_stored}
use Rattle.racks.proofs.StateRule.{good_iff}

-- the total goes by what the one rack held and holds
pub total-set : (s : State) (i : ℕ) (r : Rack) → i < length s
    → total_stored (set s i r) + (rack_at s i).stored ≡ total_stored s + r.stored
unfolding total_stored
total-set [] i r h = absurd (omega arith)
total-set (q ∷ s) zero r h = omega arith
total-set (q ∷ s) (suc i) r h = omega (arith, total-set s i r (omega arith))

-- under the rule the total is at most the limit for each rack
pub total-le : (s : State) → good_state s ≡ true → total_stored s ≤ length s * amount_limit
unfolding total_stored good_state
total-le [] t = omega arith
total-le (r ∷ s) t =
    let both = (and-eq-true_iff (good_rack r) (good_state s)).0 t in
    omega (arith, (good_iff r).0 both.0, total-le s both.1)
