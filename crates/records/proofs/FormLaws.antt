-- What the code says of each form is what the definitions say, and the numbers of each fit their fields. By cases on the forms.
-- Assumes nothing.
use mathlib.Core.Path.{◌≡◌, sym}
use Prim.Native.Nat.{◌^◌, ◌<◌, ◌≤◌}
use native.Mathlib.Omega.{arith}
use mathlib.Core.List.{[], ◌∷◌}
use lib.Dec.{lit<}
use Rattle.records.specs.declared.Form.{Form as Chosen}
use Rattle.records.specs.declared.Form.TheVariants.{Version1}
use Rattle.records.specs.Form.{Form, form_of}
use Rattle.records.specs.Record.{state_size, length_of, header}
use Rattle.records.specs.Edition.{a_record_begins}

-- a form whose length fits two bytes, and its version one
pub record Fits (f : Form) : Type 0 where
  pub length : length_of f < 256 ^ 2
  pub version : f.version < 256 ^ 1

pub fits : (x : Chosen) → Fits (form_of x)
fits Version1 = record { length = lit< tt; version = lit< tt }

-- its state can be hashed
pub state_fits : (x : Chosen) → state_size (form_of x) ≤ 65535
state_fits x = let short = (fits x).length in omega arith

-- the code's own word for its header
pub header_said : (x : Chosen) → 0x01 ∷ 0xC1 ∷ 0x01 ∷ [] ≡ header (form_of x)
header_said Version1 = sym a_record_begins
