-- What a request of each kind counts for in the sum charged and in the sum discharged, whatever its racks and its amount. The third
-- condition holds the two sums by their difference alone, which does not notice a request that both count; here each is held by itself.
-- Assumes nothing.
use Rattle.std.specs.Prelude.{◌≡◌, refl, ℕ, List, [], ◌∷◌, map}
use Rattle.requests.specs.declared.Request.{Request}
use Rattle.requests.specs.declared.Request.TheVariants.{Capacity, Charge, Discharge, Move}
use Rattle.requests.specs.Requests.{charged, discharged}

-- one of each kind, in their order
abbrev pub of_each_kind : ℕ → ℕ → ℕ → List Request
of_each_kind i o a = Capacity i a ∷ Charge i a ∷ Discharge i a ∷ Move i o a ∷ []

pub charged_of_each : (i o a : ℕ) → map charged (of_each_kind i o a) ≡ 0 ∷ a ∷ 0 ∷ 0 ∷ []
charged_of_each i o a = refl

pub discharged_of_each : (i o a : ℕ) → map discharged (of_each_kind i o a) ≡ 0 ∷ 0 ∷ a ∷ 0 ∷ []
discharged_of_each i o a = refl
