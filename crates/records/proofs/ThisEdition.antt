-- Document 01's literal and this edition's layout: the first state is 384 zero bytes. Assumes nothing.
use mathlib.Core.Path.{◌≡◌}
use mathlib.Core.Bool.{true}
use lib.ListN.{replicate}
use Rattle.racks.specs.Racks.{first_state}
use Rattle.racks.specs.Layout.{bytes_of_state}
use Rattle.racks.specs.Rule.{good_state}
use Rattle.racks.specs.Edition.{racks}
use Rattle.racks.proofs.FirstState.{bytes_of_state-first_state, good_first_state}

-- the first state's bytes, and that it keeps the state rule
pub first_state_bytes : bytes_of_state (first_state racks) ≡ replicate 384 0
first_state_bytes = bytes_of_state-first_state racks

pub first_state_good : good_state (first_state racks) ≡ true
first_state_good = good_first_state racks
