-- `fmt`: the runs gone through have been written, and with what is left they are the bytes. Assumes nothing.
use Rattle.std.proofs.Common.{◌≡◌, List, ℕ, ◌++◌, flat_map}
use Rattle.std.specs.Fmt.{HasWritten, IsPlainFormatter}
use Rattle.inputs.specs.HexText.{byte_text}
use Rattle.inputs.proofs.hex.HexDisplay.fmt.Given as goal

abbrev pub invariant-loop-run : goal.invariant-loop-run
invariant-loop-run g l = (l.run-iterator.size ≡ 1024)
    × (IsPlainFormatter l.initial.f → (done : List ℕ) × (done ++ l.run-iterator.rest.now ≡ l.self.0.now) × HasWritten g.W.Write.write_str_gives l.initial.f (flat_map byte_text done) l.f)
