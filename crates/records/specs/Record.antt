-- Document 01, 'Layouts': a record: a 2-byte length, which counts the bytes after it, one version byte, the racks, summary 32,
-- authenticator 32. One list of widths serves reading and writing, for every form. Assumes nothing.
use Rattle.std.specs.Prelude.{ℕ, ◌-◌, ◌*◌, Bool, ◌&&◌, List, [], ◌∷◌, ◌++◌, length, get_or, eqb}
use Rattle.numbers.specs.Numbers.{be}
use Rattle.numbers.specs.Parts.{size, cut_at, fields_of, join}
use Rattle.racks.specs.Racks.{State}
use Rattle.racks.specs.Layout.{rack_size, state_of}
use Rattle.racks.specs.Rule.{good_state}
use Rattle.records.specs.Form.{Form}
use Rattle.records.specs.Page.{hash_size}

-- how many bytes the racks take
abbrev pub state_size : Form → ℕ
state_size f = f.racks * rack_size

-- the widths of a record's fields: length, version, state, summary, authenticator
abbrev pub record_widths : Form → List ℕ
record_widths f = 2 ∷ 1 ∷ state_size f ∷ hash_size ∷ hash_size ∷ []

-- how many bytes a record takes
abbrev pub record_size : Form → ℕ
record_size f = size (record_widths f)

-- its length, which counts the bytes behind the two that hold it
abbrev pub length_of : Form → ℕ
length_of f = record_size f - 2

-- the fields of a record
abbrev pub fields : Form → List ℕ → List (List ℕ)
fields f l = cut_at 0 (record_widths f) l

abbrev pub length_field : Form → List ℕ → List ℕ
length_field f l = get_or (fields f l) 0 []

abbrev pub version_field : Form → List ℕ → List ℕ
version_field f l = get_or (fields f l) 1 []

abbrev pub state_bytes : Form → List ℕ → List ℕ
state_bytes f l = get_or (fields f l) 2 []

abbrev pub summary : Form → List ℕ → List ℕ
summary f l = get_or (fields f l) 3 []

abbrev pub authenticator : Form → List ℕ → List ℕ
authenticator f l = get_or (fields f l) 4 []

-- the racks of a record
abbrev pub state : Form → List ℕ → State
state f l = state_of f.racks (state_bytes f l)

-- the bytes of the first two fields: the length and the version
abbrev pub header_fields : Form → List (List ℕ)
header_fields f = fields_of (record_widths f) (length_of f ∷ f.version ∷ [])

-- a record from its fields
unfoldable pub record_of : Form → List ℕ → List ℕ → List ℕ → List ℕ
record_of f state_bytes summary authenticator = join (header_fields f ++ state_bytes ∷ summary ∷ authenticator ∷ [])

-- the first three bytes of a record: its length and its version
unfoldable pub header : Form → List ℕ
header f = join (header_fields f)

-- refusal 3 unless: the record is of its size, and its length field is right
unfoldable pub right_size : Form → List ℕ → Bool
right_size f l = eqb (length l) (record_size f) && eqb (be (length_field f l)) (length_of f)

-- refusal 4 unless: the version is right
unfoldable pub right_version : Form → List ℕ → Bool
right_version f l = eqb (be (version_field f l)) f.version

-- refusal 5 unless: the state rule holds
unfoldable pub right_state : Form → List ℕ → Bool
right_state f l = good_state (state f l)
