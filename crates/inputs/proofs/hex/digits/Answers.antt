-- `digits`: what lies at the front of the room is the text. Assumes nothing.
use Rattle.std.proofs.Common.{ℕ, ap, subst, sym, ◌∙◌, take, ◌*◌, ◌<◌, length}
use lib.ListN.{get_or}
use Rattle.std.specs.Str.{IsUtf8}
use Rattle.inputs.proofs.HexLaws.{front_text, text_utf8}
use Rattle.inputs.proofs.hex.digits.Goals as goal

pub from_utf8_unchecked-requires : goal.from_utf8_unchecked-requires
from_utf8_unchecked-requires c =
    let fits : (i : ℕ) → get_or c.args.run.now i 0 < 256 = λ i. (c.type_inv.run i).fits in
    let text = ap (take (2 * length c.args.run.now)) c.put_digits.ensures ∙ front_text c.args.run.now _ fits in
    subst IsUtf8 (sym text) (text_utf8 c.args.run.now fits)
