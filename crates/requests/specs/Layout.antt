-- Document 01, 'Layouts': a request is ten bytes: length 8 (the count of bytes after it), version 1, kind 1, rack 1, other 1 and
-- amount 4, big-endian. One list of widths serves reading and writing. Assumes nothing.
use Rattle.std.specs.Prelude.{ℕ, ◌-◌, List, [], ◌∷◌, get_or}
use Rattle.numbers.specs.Numbers.{be}
use Rattle.numbers.specs.Parts.{size, cut_at, fields_of, join}

-- the widths of the fields, in their order: length, version, kind, rack, other, amount
abbrev pub request_widths : List ℕ
request_widths = 2 ∷ 1 ∷ 1 ∷ 1 ∷ 1 ∷ 4 ∷ []

-- how many bytes a request takes
abbrev pub request_size : ℕ
request_size = size request_widths

-- field number i of a request's bytes
abbrev pub field : ℕ → List ℕ → ℕ
field i l = be (get_or (cut_at 0 request_widths l) i [])

abbrev pub length_field : List ℕ → ℕ
length_field l = field 0 l

abbrev pub version : List ℕ → ℕ
version l = field 1 l

abbrev pub kind : List ℕ → ℕ
kind l = field 2 l

abbrev pub rack : List ℕ → ℕ
rack l = field 3 l

abbrev pub other : List ℕ → ℕ
other l = field 4 l

abbrev pub amount : List ℕ → ℕ
amount l = field 5 l

-- the numbers of a request of version 1, in the order of its fields: kind k, rack i, other o and amount a; and the bytes of these fields
abbrev pub numbers_of_request : ℕ → ℕ → ℕ → ℕ → List ℕ
numbers_of_request k i o a = (request_size - 2) ∷ 1 ∷ k ∷ i ∷ o ∷ a ∷ []

abbrev pub fields_of_request : ℕ → ℕ → ℕ → ℕ → List (List ℕ)
fields_of_request k i o a = fields_of request_widths (numbers_of_request k i o a)

-- the bytes of such a request
unfoldable pub bytes_of_request : ℕ → ℕ → ℕ → ℕ → List ℕ
bytes_of_request k i o a = join (fields_of_request k i o a)
