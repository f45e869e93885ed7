-- Document 01, 'Charge rules': the figures that view gives. Assumes nothing.
use Rattle.std.specs.Prelude.{ℕ, ◌+◌, ◌*◌, ◌/◌, cond, [], ◌∷◌, eqb}
use Rattle.racks.specs.declared.Rack.{Rack}
use Rattle.racks.specs.Racks.{State}

-- 100 times stored divided by capacity, rounded down; for capacity 0 it is 0
unfoldable pub percent : Rack → ℕ
percent r = cond (eqb r.capacity 0) 0 (100 * r.stored / r.capacity)

-- the charge over all racks
unfoldable pub total_stored : State → ℕ
total_stored [] = 0
total_stored (r ∷ s) = r.stored + total_stored s
