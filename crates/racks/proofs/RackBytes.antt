-- A rack and its bytes: their number, reading back what was written, writing back what was read, and where the fields lie.
-- The idea: a rack is a form of four widths. Assumes nothing.
use mathlib.Core.Path.{◌≡◌, refl, ap, ◌∙◌}
use Prim.Native.Nat.{ℕ, ◌+◌, ◌≤◌}
use native.Mathlib.Nat.{add-zero, le_refl}
use mathlib.Core.List.{List, map}
use lib.ListN.{length}
use Rattle.numbers.specs.Numbers.{Bytes}
use Rattle.numbers.specs.Parts.{part, over, size, cut_at, join}
use Rattle.numbers.proofs.Numbers.{be-bytes_of}
use Rattle.numbers.proofs.Layouts.{length-join, join-cut_at, cut_at-join}
use Rattle.racks.specs.declared.Rack.{Rack}
use Rattle.racks.specs.Layout.{rack_widths, rack_size, rack_of_fields, numbers_of_rack, fields_of_rack, rack_of, bytes_of_rack, FitsWidths}
use Rattle.numbers.proofs.Forms.{part-whole, cut_at-part, widths_fields_of, fields_of-cut_at, bytes-fields_of, bytes-join}
use Rattle.numbers.proofs.Laying.{lay_at, lay_at_join}

-- the bytes of a rack's fields have the widths of the form
widths_rack : (r : Rack) → map length (fields_of_rack r) ≡ rack_widths
widths_rack r = widths_fields_of rack_widths (numbers_of_rack r) refl

-- a rack takes as many bytes as its widths say
pub length-bytes_of_rack : (r : Rack) → length (bytes_of_rack r) ≡ rack_size
unfolding bytes_of_rack
length-bytes_of_rack r = length-join (fields_of_rack r) ∙ ap size (widths_rack r)

-- they are bytes
pub bytes-bytes_of_rack : (r : Rack) → Bytes (bytes_of_rack r)
unfolding bytes_of_rack
bytes-bytes_of_rack r = bytes-join (fields_of_rack r) (bytes-fields_of rack_widths (numbers_of_rack r))

-- a rack that the widths hold is read back as it was written
pub rack_of-bytes_of_rack : (r : Rack) → FitsWidths r → rack_of (bytes_of_rack r) ≡ r
unfolding rack_of bytes_of_rack
rack_of-bytes_of_rack r f =
    let all : part 0 rack_size (bytes_of_rack r) ≡ bytes_of_rack r = part-whole rack_size (bytes_of_rack r) (length-bytes_of_rack r) in
    let fields = cut_at-join 0 rack_widths (bytes_of_rack r) (fields_of_rack r) (widths_rack r) all in
    ap rack_of_fields fields
    ∙ rw (be-bytes_of 4 r.capacity f.capacity, be-bytes_of 4 r.stored f.stored, be-bytes_of 8 r.taken f.taken, be-bytes_of 8 r.given f.given)

-- bytes are written back as they were read
pub bytes_of_rack-rack_of : (l : List ℕ) → Bytes l → length l ≡ rack_size → bytes_of_rack (rack_of l) ≡ l
unfolding rack_of bytes_of_rack
bytes_of_rack-rack_of l bytes e =
    ap join (fields_of-cut_at 0 rack_widths l bytes (rw e (le_refl rack_size))) ∙ join-cut_at 0 rack_widths l ∙ part-whole rack_size l e

-- the rack that lies at a place, field by field
pub rack_of-part : (at : ℕ) (l : List ℕ) → rack_of (part at rack_size l) ≡ rack_of_fields (cut_at at rack_widths l)
unfolding rack_of
rack_of-part at l =
    let start : at + 0 ≡ at = add-zero at in
    ap rack_of_fields (rw start at (cut_at-part at rack_size 0 rack_widths l (le_refl rack_size)))

-- for a rack that is read field by field
pub ruleset fields = (rack_of-part)

-- r laid field by field is r laid
pub lay_at_rack : (at : ℕ) (r : Rack) (d : List ℕ) → at + rack_size ≤ length d → lay_at at (fields_of_rack r) d ≡ over at (bytes_of_rack r) d
unfolding bytes_of_rack
lay_at_rack at r d fits = lay_at_join at (fields_of_rack r) d (rw (length-bytes_of_rack r) fits)
