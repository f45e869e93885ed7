-- This edition's number of racks, document 01: 16. Nothing else says it: all that depends on it follows from this number.
-- Assumes nothing.
use Rattle.std.specs.Prelude.{◌≡◌, refl, ℕ, ◌*◌}
use Rattle.racks.specs.Layout.{rack_size}

-- how many racks a book has
abbrev pub racks : ℕ
racks = 16

-- the state takes 384 bytes, as document 01 says
pub the_state_takes_384 : racks * rack_size ≡ 384
the_state_takes_384 = refl
