-- `put_digits`: each byte's two digits are laid behind those before them. Assumes nothing.
use Rattle.std.proofs.Common.{◌≡◌, ◌/◌, ◌%◌, false}
use Rattle.std.specs.Fmt.{digit_glyph}
use lib.ListN.{get_or}
use Rattle.inputs.proofs.HexLaws.{laid_more, laid_all}
use Rattle.inputs.proofs.hex.put_digits.Goals as goal

pub loop-i-preserved : goal.loop-i-preserved
loop-i-preserved c =
    let x = get_or c.args.bytes.now c.loop-i.i 0 in
    let high : c.digit.result ≡ digit_glyph false (x / 16) = c.digit.ensures in
    let low : c.digit-in-loop-i.result ≡ digit_glyph false (x % 16) = c.digit-in-loop-i.ensures in
    laid_more c.args.bytes.now c.loop-i.room c.args.room.now c.loop-i.i _ _ c.loop-i-test.true (c.type_inv.bytes c.loop-i.i).fits c.requires c.loop-i.auto.room high low
    c.loop-i.invariant

pub returns : goal.returns
returns c = laid_all _ _ _ _ c.loop-i.auto.i-end c.loop-i-test.false c.loop-i.invariant
