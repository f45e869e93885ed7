-- `write_rack` meets its contract: the four numbers are laid one behind the other, as the fields of the form. Assumes nothing.
use native.Mathlib.Nat.{add_assoc}
use Rattle.numbers.proofs.Numbers.{length-bytes_of}
use Rattle.racks.proofs.RackBytes.{lay_at_rack}
use Rattle.racks.proofs.writing.write_rack.Goals as goal

pub returns : goal.returns
returns c =
    let a = c.args in
    rw (c.write-4.ensures, c.write-3.ensures, c.write-2.ensures, c.write.ensures)
    (simp (length-bytes_of, add_assoc) at (lay_at_rack a.at a.r a.d.now c.requires))
