-- A part of an item, in bytes. Assumes nothing.
use Rattle.std.specs.Prelude.{ℕ, List, ◌++◌, length}
use Rattle.std.specs.Int.{w32, to_be_bytes}

-- a part's bytes: its length in four bytes, the most significant first, and then itself
abbrev pub part_bytes : List ℕ → List ℕ
part_bytes part = to_be_bytes w32 (length part) ++ part
