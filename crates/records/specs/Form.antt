-- Document 01, 'Layouts' and 'What is hashed': a form of record is one value, which says how many racks a record holds, its version and
-- the byte that is hashed before its state; its length follows from its racks (Record). All that reads or writes a record is over any
-- form. Assumes nothing.
use Rattle.std.specs.Prelude.{ℕ}
use Rattle.racks.specs.Edition.{racks}
use Rattle.records.specs.declared.Form.{Form as Chosen}
use Rattle.records.specs.declared.Form.TheVariants.{Version1}

pub record Form : Type 0 where
  pub racks : ℕ
  pub version : ℕ
  pub tag : ℕ

-- this edition's: 16 racks, version 1, its state hashed after byte 01
abbrev pub version1 : Form
version1 = record { racks = racks; version = 1; tag = 0x01 }

-- the form that the code's own name stands for
abbrev pub form_of : Chosen → Form
form_of Version1 = version1
