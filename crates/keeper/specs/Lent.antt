-- Document 01, resume: 'hands back the current record itself, as a part of the caller's own buffer'. A lent buffer is where it lies and
-- what it holds, so that two buffers of the same content are not the same. Assumes nothing.
use Rattle.std.specs.Prelude.{ℕ, List, []}
use Rattle.answers.specs.Answers.{Resumed, neither, ram, disk}

-- a lent buffer, or a part of one: its pointer (a block of memory, and a place in it), and its bytes
pub record Lent : Type 0 where
  pub at : ℕ × ℕ
  pub bytes : List ℕ

abbrev pub lent : ℕ × ℕ → List ℕ → Lent
lent at bytes = record { at = at; bytes = bytes }

-- the RAM one, the disk one, or the empty part at the start of the RAM one
abbrev pub handed_back : Resumed → Lent → Lent → Lent
handed_back ram in_ram on_disk = in_ram
handed_back disk in_ram on_disk = on_disk
handed_back neither in_ram on_disk = lent in_ram.at []
