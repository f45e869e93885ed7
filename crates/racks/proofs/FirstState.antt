-- The first state, for every number of racks: its bytes are zeros, zeros stand for it, it keeps the rule, and nothing is stored in it.
-- The idea: so it is for one empty rack. Assumes nothing.
use mathlib.Core.Path.{◌≡◌, refl}
use mathlib.Core.Bool.{true}
use Prim.Native.Nat.{ℕ, zero, suc, ◌*◌}
use native.Mathlib.Nat.{suc-mul, add_comm}
use mathlib.Core.List.{◌++◌}
use lib.ListN.{length, replicate, length-replicate, replicate-append-replicate}
use Rattle.numbers.specs.Numbers.{bytes_of}
use Rattle.racks.specs.Racks.{empty_rack, first_state}
use Rattle.racks.specs.Layout.{rack_size, bytes_of_rack, state_of, bytes_of_state}
use Rattle.racks.specs.Rule.{good_rack, good_state}
use Rattle.racks.specs.Figures.{total_stored}
use Rattle.racks.proofs.StateBytes.{state_of-bytes_of_state}
use Rattle.racks.proofs.StateRule.{fits_at}

-- n racks
pub length-first_state : (n : ℕ) → length (first_state n) ≡ n
unfolding first_state
length-first_state n = length-replicate n empty_rack

-- the rule is kept
pub good_first_state : (n : ℕ) → good_state (first_state n) ≡ true
unfolding good_state good_rack first_state
good_first_state zero = refl
good_first_state (suc n) = good_first_state n

-- nothing is stored
pub total-first_state : (n : ℕ) → total_stored (first_state n) ≡ 0
unfolding total_stored first_state
total-first_state zero = refl
total-first_state (suc n) = rw (total-first_state n)

-- an empty rack's bytes are zeros
zeros_rack : bytes_of_rack empty_rack ≡ replicate rack_size 0
unfolding bytes_of_rack bytes_of
zeros_rack = refl

-- w zeros more
zeros_more : (n w : ℕ) → replicate w zero ++ replicate (n * w) 0 ≡ replicate (suc n * w) 0
zeros_more n w = rw (replicate-append-replicate, suc-mul, add_comm w (n * w))

-- its bytes are zeros
pub bytes_of_state-first_state : (n : ℕ) → bytes_of_state (first_state n) ≡ replicate (n * rack_size) 0
unfolding bytes_of_state first_state
bytes_of_state-first_state zero = refl
bytes_of_state-first_state (suc n) = rw (zeros_rack, bytes_of_state-first_state n) (zeros_more n rack_size)

-- zeros stand for it
pub state_of_zeros : (n : ℕ) → state_of n (replicate (n * rack_size) 0) ≡ first_state n
state_of_zeros n =
    rw (← bytes_of_state-first_state n)
    (state_of-bytes_of_state n (first_state n) (length-first_state n) (λ i. fits_at (first_state n) i (good_first_state n)))
