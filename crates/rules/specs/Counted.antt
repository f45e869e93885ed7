-- The sum charged and the sum discharged, computed on one row of requests that has every kind and a malformed one. The third condition
-- holds the two by their difference alone, which does not notice a request that both count; here each is held by itself. Assumes nothing.
use Rattle.std.specs.Prelude.{◌≡◌, refl, ℕ, List, [], ◌∷◌}
use Rattle.numbers.specs.Numbers.{be_from, be, bytes_of}
use Rattle.numbers.specs.Parts.{part}
use Rattle.racks.specs.Edition.{racks}
use Rattle.requests.specs.Layout.{bytes_of_request}
use Rattle.requests.specs.Formed.{right_form, right_other, right_amount, well_formed}
use Rattle.requests.specs.Requests.{request_by, request_of, read_request}
use Rattle.rules.specs.Sums.{sum_of, sum_charged, sum_discharged}

-- rack 3: capacity 10,000, charge 2,000, discharge 300, a move of 40 to rack 5, and a charge of 5 that names another rack, which is
-- malformed
abbrev pub row : List (List ℕ)
row = bytes_of_request 1 3 0 10000 ∷ bytes_of_request 2 3 0 2000 ∷ bytes_of_request 3 3 0 300 ∷ bytes_of_request 4 3 5 40 ∷ bytes_of_request 2 3 5 5 ∷ []

pub row-charged : sum_charged racks row ≡ 2000
unfolding be_from be bytes_of part bytes_of_request right_form right_other right_amount well_formed request_by request_of read_request sum_of
row-charged = refl

pub row-discharged : sum_discharged racks row ≡ 300
unfolding be_from be bytes_of part bytes_of_request right_form right_other right_amount well_formed request_by request_of read_request sum_of
row-discharged = refl
