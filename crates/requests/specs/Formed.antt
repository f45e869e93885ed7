-- Document 01, 'Charge rules': a request is well formed if its length, version and size are right, kind is 1 to 4, rack is below
-- the number of racks, and amount is within the limit; for kinds 1, 2 and 3 other is 0; for kind 4 other is below the number of
-- racks and not equal to rack; amount 0 is allowed only for kind 1. The number of racks, n, is a parameter. Assumes nothing.
use Rattle.std.specs.Prelude.{ℕ, ◌-◌, Bool, not, ◌&&◌, ◌||◌, List, length, leb, ltb, eqb}
use Rattle.racks.specs.Rule.{amount_limit}
use Rattle.requests.specs.Layout.{request_size, length_field, version, kind, rack, other, amount}

-- length, version and size are right
unfoldable pub right_form : List ℕ → Bool
right_form l = eqb (length l) request_size && eqb (length_field l) (request_size - 2) && eqb (version l) 1

-- other is 0, and for kind 4 another rack
unfoldable pub right_other : ℕ → List ℕ → Bool
right_other n l = (leb (kind l) 3 && eqb (other l) 0) || (eqb (kind l) 4 && ltb (other l) n && not (eqb (other l) (rack l)))

-- amount is within the limit, and 0 only for kind 1
unfoldable pub right_amount : List ℕ → Bool
right_amount l = leb (amount l) amount_limit && (eqb (kind l) 1 || ltb 0 (amount l))

-- well formed, for n racks
unfoldable pub well_formed : ℕ → List ℕ → Bool
well_formed n l = right_form l && leb 1 (kind l) && leb (kind l) 4 && ltb (rack l) n && right_other n l && right_amount l
