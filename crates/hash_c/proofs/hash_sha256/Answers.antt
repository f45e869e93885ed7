-- `hash_sha256` gives the outcome of each case. Assumes nothing.
use Rattle.hash_c.specs.Outcome.{hash_outcome}
use Rattle.numbers.specs.Parts.{over}
use Rattle.sha256.specs.Computation.{sha256}
use mathlib.Core.List.{List, ◌++◌}
use Prim.Native.Nat.{ℕ}
use mathlib.Core.Path.{ap, ◌∙◌}
use borrow.Author.Tests.{leb-true}
use Rattle.hash_c.proofs.Outcomes.{no_bounds, no_room, written}
use Rattle.numbers.proofs.Testing.{failed, passed}
use Rattle.hash_c.proofs.hash_sha256.Goals as goal

pub returns-then-not-within : goal.returns-then-not-within
unfolding hash_outcome
returns-then-not-within c =
    let s = c.args in
    no_bounds _ (sha256 (s.a.now ++ s.b.now ++ s.c.now)) s.out.now (failed _ _ c.within.ensures c.if-not-within.true)

pub returns-then-out-lt32 : goal.returns-then-out-lt32
unfolding hash_outcome
returns-then-out-lt32 c =
    let s = c.args in
    no_room _ (sha256 (s.a.now ++ s.b.now ++ s.c.now)) s.out.now (passed _ _ c.within.ensures c.if-not-within.false) c.if-out-lt32.true

pub sha256-answer-requires : goal.sha256-answer-requires
sha256-answer-requires c = leb-true _ _ (passed _ _ c.within.ensures c.if-not-within.false)

pub returns : goal.returns
unfolding hash_outcome
returns c =
    let s = c.args in
    written _ (sha256 (s.a.now ++ s.b.now ++ s.c.now)) s.out.now _ (passed _ _ c.within.ensures c.if-not-within.false) c.if-out-lt32.false
    (c.copy.ensures ∙ ap (λ (l : List ℕ). over 0 l s.out.now) c.sha256-answer.ensures)
