-- `put_digits`: the bytes gone through are in digits at the front of the room, and behind them the room is as it was. Assumes nothing.
use Rattle.std.proofs.Common.{◌≡◌, ◌*◌, flat_map, take, drop}
use Rattle.inputs.specs.HexText.{byte_text}
use Rattle.inputs.proofs.hex.put_digits.Given as goal

abbrev pub invariant-loop-i : goal.invariant-loop-i
invariant-loop-i l =
    (take (2 * l.i) l.room ≡ flat_map byte_text (take l.i l.bytes)) × (drop (2 * l.i) l.room ≡ drop (2 * l.i) l.initial.room)
