-- Bytes as text, in hex. Assumes nothing.
use Rattle.std.specs.Prelude.{ℕ, ◌-◌, ◌^◌, ◌==◌, if◌then◌else◌, false, List, [], ◌∷◌, length, flat_map}
use Rattle.std.specs.Fmt.{digits, padded_integral, format_spec}

-- a byte's digits to base 16, in lower case, filled up with `0` to two
abbrev pub byte_text : ℕ → List ℕ
byte_text x = padded_integral (format_spec 32 0 4 2 (2 ^ 64 - 1)) false [] (digits 16 false x)

-- the bytes one after the other, or a dash where there is none
abbrev pub hex_text : List ℕ → List ℕ
hex_text bytes = if length bytes == 0 then 45 ∷ [] else flat_map byte_text bytes
