-- Document 01, 'Layouts': the bytes of a rack (24: capacity 4, stored 4, taken in 8, given out 8, big-endian) and of a state, which
-- is its racks end to end. One list of widths serves reading and writing. Assumes nothing.
use Rattle.std.specs.Prelude.{ℕ, ◌^◌, ◌<◌, List, [], ◌∷◌, map, get_or, replicate}
use Rattle.numbers.specs.Numbers.{be}
use Rattle.numbers.specs.Parts.{size, cut_at, fields_of, join}
use Rattle.racks.specs.declared.Rack.{Rack}
use Rattle.racks.specs.Racks.{State}

-- the widths of a rack's fields, in their order
abbrev pub rack_widths : List ℕ
rack_widths = 4 ∷ 4 ∷ 8 ∷ 8 ∷ []

-- how many bytes a rack takes
abbrev pub rack_size : ℕ
rack_size = size rack_widths

-- a rack from the bytes of its fields
abbrev pub rack_of_fields : List (List ℕ) → Rack
rack_of_fields fs = record { capacity = be (get_or fs 0 []); stored = be (get_or fs 1 []); taken = be (get_or fs 2 []); given = be (get_or fs 3 []) }

-- the figures of a rack, in the order of its fields, and the bytes of these fields
abbrev pub numbers_of_rack : Rack → List ℕ
numbers_of_rack r = r.capacity ∷ r.stored ∷ r.taken ∷ r.given ∷ []

abbrev pub fields_of_rack : Rack → List (List ℕ)
fields_of_rack r = fields_of rack_widths (numbers_of_rack r)

-- the rack that bytes stand for
unfoldable pub rack_of : List ℕ → Rack
rack_of l = rack_of_fields (cut_at 0 rack_widths l)

-- the bytes of a rack
unfoldable pub bytes_of_rack : Rack → List ℕ
bytes_of_rack r = join (fields_of_rack r)

-- the n racks that bytes stand for
unfoldable pub state_of : ℕ → List ℕ → State
state_of n l = map rack_of (cut_at 0 (replicate n rack_size) l)

-- the bytes of a state
unfoldable pub bytes_of_state : State → List ℕ
bytes_of_state s = join (map bytes_of_rack s)

-- each figure is held by its width, as those of a rack that was read are
pub record FitsWidths (r : Rack) : Type 0 where
  pub capacity : r.capacity < 256 ^ 4
  pub stored : r.stored < 256 ^ 4
  pub taken : r.taken < 256 ^ 8
  pub given : r.given < 256 ^ 8
