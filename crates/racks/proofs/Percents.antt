-- A rack's percent by its capacity, and its bound under the rule.
-- The idea: stored is at most capacity. Assumes nothing.
use mathlib.Core.Path.{◌≡◌}
use mathlib.Core.Bool.{true}
use Prim.Native.Nat.{ℕ, ◌*◌, ◌/◌, ◌≤◌, ◌<◌}
use native.Mathlib.Nat.{div-le_of_le-mul}
use native.Mathlib.Omega.{arith}
use borrow.Author.Tests.{ne_eqb}
use Rattle.racks.specs.declared.Rack.{Rack}
use Rattle.racks.specs.Rule.{good_rack}
use Rattle.racks.specs.Figures.{percent}
use Rattle.racks.proofs.StateRule.{good_iff}

-- a rack with a capacity
percent-some : (r : Rack) → (r.capacity ≡ 0 → ⊥) → percent r ≡ 100 * r.stored / r.capacity
unfolding percent
percent-some r h = rw (ne_eqb _ _ h)

-- a part of the whole is at most 100 percent of it
pub hundred : (m n : ℕ) → m ≤ n → 100 * m / n ≤ 100
hundred m n h = div-le_of_le-mul n (omega arith)

-- under the rule a rack with a capacity is at most full
pub percent-le : (r : Rack) → good_rack r ≡ true → 0 < r.capacity → percent r ≤ 100
percent-le r t h =
    let some : r.capacity ≡ 0 → ⊥ = omega arith in
    rw (percent-some r some) (hundred r.stored r.capacity ((good_iff r).0 t).room)
