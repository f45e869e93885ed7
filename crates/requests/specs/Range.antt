-- What is known of a request that was read among n racks. The rules and the functions that carry a request out ask for this, and
-- not for the bytes that it was read from. Assumes nothing.
use Rattle.std.specs.Prelude.{◌≡◌, true, false, ℕ, ◌≤◌, ◌<◌}
use Rattle.racks.specs.Rule.{amount_limit}
use Rattle.requests.specs.declared.Request.{Request}
use Rattle.requests.specs.Requests.{rack_of_request, other_of_request, amount_of_request, sets_capacity, moves}

-- the racks that a request names are among n
pub record Named (n : ℕ) (q : Request) : Type 0 where
  pub rack : rack_of_request q < n
  pub other : other_of_request q < n

-- a move goes to another rack; amount is within the limit, and 0 only for kind 1
pub record InRange (n : ℕ) (q : Request) : Type 0 where
  pub named : Named n q
  pub apart : moves q ≡ true → other_of_request q ≡ rack_of_request q → ⊥
  pub within : amount_of_request q ≤ amount_limit
  pub some : sets_capacity q ≡ false → 0 < amount_of_request q
