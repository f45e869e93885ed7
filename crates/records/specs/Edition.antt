-- This edition's form of record, document 01: a record takes 451 bytes, its length is 449, and it begins with 01 C1 01. Assumes nothing.
use Rattle.std.specs.Prelude.{◌≡◌, refl, [], ◌∷◌}
use Rattle.numbers.specs.Numbers.{bytes_of}
use Rattle.records.specs.Form.{version1}
use Rattle.records.specs.Record.{record_size, length_of, header}

pub a_record_takes_451 : record_size version1 ≡ 451
a_record_takes_451 = refl

pub its_length_is_449 : length_of version1 ≡ 449
its_length_is_449 = refl

pub a_record_begins : header version1 ≡ 0x01 ∷ 0xC1 ∷ 0x01 ∷ []
unfolding header bytes_of
a_record_begins = refl
