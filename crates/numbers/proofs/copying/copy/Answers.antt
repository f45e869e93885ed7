-- `copy` meets its contract. The invariant: d is what it was with the first i bytes of s laid in it (`paste`). Assumes nothing.
use mathlib.Core.Path.{◌≡◌}
use native.Mathlib.Numerals.{add-one}
use native.Mathlib.Omega.{arith}
use lib.ListN.{length}
use lib.Seq.{paste-suc, take-length}
use Rattle.numbers.specs.Parts.{over}
use Rattle.numbers.proofs.copying.copy.Goals as goal

pub loop-i-preserved : goal.loop-i-preserved
loop-i-preserved c =
    let a = c.args in
    let l = c.loop-i in
    rw (l.invariant, add-one) (paste-suc a.d.now a.at a.s.now l.i 0 (omega arith) c.loop-i-test.true)

pub returns : goal.returns
unfolding over
returns c =
    let all : c.loop-i.i ≡ length c.args.s.now = omega arith in
    rw (c.loop-i.invariant, all, take-length)
