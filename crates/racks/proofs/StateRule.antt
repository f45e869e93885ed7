-- The state rule as facts: of one rack, of each rack of a state, and of a state with one rack changed.
-- The idea: a chain of tests is true just where each of them is. Assumes nothing.
use mathlib.Core.Path.{◌≡◌, refl}
use mathlib.Core.Logic.{◌↔◌}
use mathlib.Core.Bool.{true, and-eq-true_iff}
use Prim.Native.Nat.{ℕ, zero, suc, ◌-◌}
use native.Mathlib.Omega.{arith}
use mathlib.Core.List.{[], ◌∷◌}
use lib.ListN.{set}
use lib.Dec.{leb, eqb}
use borrow.Author.Tests.{leb-true, eqb-true, le-leb, eq-eqb}
use Rattle.racks.specs.declared.Rack.{Rack}
use Rattle.racks.specs.Racks.{State, rack_at}
use Rattle.racks.specs.Layout.{FitsWidths}
use Rattle.racks.specs.Rule.{amount_limit, flow_limit, good_rack, good_state, Good}

-- what the test says of a rack
rack_good : (r : Rack) → good_rack r ≡ true → Good r
unfolding good_rack
rack_good r t =
    let fifth = (and-eq-true_iff _ (eqb r.stored (r.taken - r.given))).0 t in
    let fourth = (and-eq-true_iff _ (leb r.given r.taken)).0 fifth.0 in
    let third = (and-eq-true_iff _ (leb r.taken flow_limit)).0 fourth.0 in
    let others = (and-eq-true_iff (leb r.capacity amount_limit) (leb r.stored r.capacity)).0 third.0 in
    omega (arith, leb-true, eqb-true)

-- what makes the test true
good_rack_lem : (r : Rack) → Good r → good_rack r ≡ true
unfolding good_rack
good_rack_lem r g =
    let less : r.stored ≡ r.taken - r.given = omega arith in
    rw (le-leb _ _ g.limit, le-leb _ _ g.room, le-leb _ _ g.flow, le-leb _ _ g.order, eq-eqb _ _ less)

-- the test of a rack is the rule for it
pub good_iff : (r : Rack) → good_rack r ≡ true ↔ Good r
good_iff r = (rack_good r, good_rack_lem r)

-- the widths hold a rack that keeps the rule
pub good_fits : (r : Rack) → good_rack r ≡ true → FitsWidths r
good_fits r t = let g = rack_good r t in omega arith

-- where a state keeps the rule, so does each rack of it, and the empty one that is found behind the last
pub good_at : (s : State) (i : ℕ) → good_state s ≡ true → good_rack (rack_at s i) ≡ true
unfolding good_state good_rack
good_at [] i t = refl
good_at (r ∷ s) zero t = ((and-eq-true_iff (good_rack r) (good_state s)).0 t).0
good_at (r ∷ s) (suc i) t = good_at s i ((and-eq-true_iff (good_rack r) (good_state s)).0 t).1

-- so the widths hold each of them
pub fits_at : (s : State) (i : ℕ) → good_state s ≡ true → FitsWidths (rack_at s i)
fits_at s i t = good_fits (rack_at s i) (good_at s i t)

-- the rule is kept with one rack changed, if that rack keeps it
pub good_set : (s : State) (i : ℕ) (r : Rack) → good_state s ≡ true → good_rack r ≡ true → good_state (set s i r) ≡ true
unfolding good_state
good_set [] i r t h = refl
good_set (q ∷ s) zero r t h = rw h ((and-eq-true_iff (good_rack q) (good_state s)).0 t).1
good_set (q ∷ s) (suc i) r t h =
    let both = (and-eq-true_iff (good_rack q) (good_state s)).0 t in
    rw both.0 (good_set s i r both.1 h)
