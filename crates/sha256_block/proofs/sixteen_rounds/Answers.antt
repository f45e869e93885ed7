-- Sixteen rounds, one behind the other; each constant is the table's own entry. Assumes nothing.
use Rattle.std.proofs.Common.{◌≡◌, ◌+◌, refl, arith, get_or}
use Rattle.sha256_block.specs.Step.{round, round_at}
use Rattle.sha256_block.proofs.RoundLaws.{then, none}
use Rattle.sha256_block.specs.Constants.{K}
use Rattle.sha256_block.proofs.sixteen_rounds.Goals as goal

pub returns : goal.returns
unfolding round_at K
returns g c =
    let w = c.args.w in
    let at = g.row.FROM in
    let first : c.round-v1.result ≡ round (get_or K at 0) (get_or w at 0) c.args.v = c.round-v1.ensures in
    then w at at _ _ refl first
    (then w _ (at + 1) _ _ (omega arith) c.round-v2.ensures
    (then w _ (at + 2) _ _ (omega arith) c.round-v3.ensures
    (then w _ (at + 3) _ _ (omega arith) c.round-v4.ensures
    (then w _ (at + 4) _ _ (omega arith) c.round-v5.ensures
    (then w _ (at + 5) _ _ (omega arith) c.round-v6.ensures
    (then w _ (at + 6) _ _ (omega arith) c.round-v7.ensures
    (then w _ (at + 7) _ _ (omega arith) c.round-v8.ensures
    (then w _ (at + 8) _ _ (omega arith) c.round-v9.ensures
    (then w _ (at + 9) _ _ (omega arith) c.round-v10.ensures
    (then w _ (at + 10) _ _ (omega arith) c.round-v11.ensures
    (then w _ (at + 11) _ _ (omega arith) c.round-v12.ensures
    (then w _ (at + 12) _ _ (omega arith) c.round-v13.ensures
    (then w _ (at + 13) _ _ (omega arith) c.round-v14.ensures
    (then w _ (at + 14) _ _ (omega arith) c.round-v15.ensures
    (then w _ (at + 15) _ _ (omega arith) c.round.ensures
    (none w _ _))))))))))))))))
