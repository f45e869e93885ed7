-- The sums of a row of requests: what they charged, and what they discharged. A sum is of the requests and not of the racks, so
-- that the total over the racks can be held against it. Assumes nothing.
use Rattle.std.specs.Prelude.{ℕ, ◌+◌, List, [], ◌∷◌, Option, Some, None}
use Rattle.requests.specs.declared.Request.{Request}
use Rattle.requests.specs.Requests.{read_request, charged, discharged}

-- a figure of a request that was read; what is not well formed counts for nothing
abbrev pub of_reading : (Request → ℕ) → Option Request → ℕ
of_reading figure (Some q) = figure q
of_reading figure None = 0

-- a figure, over a row of requests among n racks
unfoldable pub sum_of : (Request → ℕ) → ℕ → List (List ℕ) → ℕ
sum_of figure n [] = 0
sum_of figure n (l ∷ ls) = of_reading figure (read_request n l) + sum_of figure n ls

abbrev pub sum_charged : ℕ → List (List ℕ) → ℕ
sum_charged n ls = sum_of charged n ls

abbrev pub sum_discharged : ℕ → List (List ℕ) → ℕ
sum_discharged n ls = sum_of discharged n ls
