-- `hash_hmac` gives the outcome of each case. Assumes nothing.
use Rattle.hash_c.specs.Outcome.{mac_outcome, answered}
use Rattle.numbers.specs.Parts.{over}
use Rattle.hmac.specs.Hmac.{hmac}
use mathlib.Core.List.{List, ◌++◌}
use lib.Dec.{leb}
use lib.ListN.{length}
use Prim.Native.Nat.{ℕ, ◌+◌, ◌≤◌}
use native.Mathlib.Omega.{arith}
use mathlib.Core.Path.{◌≡◌, sym, ap, ◌∙◌}
use borrow.Author.Tests.{leb-true}
use Rattle.hash_c.proofs.Outcomes.{no_bounds, no_room, written, long_key, short_key}
use Rattle.numbers.proofs.Testing.{failed, passed}
use Rattle.hash_c.proofs.hash_hmac.Goals as goal

pub returns-then-key-gt256 : goal.returns-then-key-gt256
unfolding mac_outcome
returns-then-key-gt256 c =
    let s = c.args in
    long_key s.key.now (answered (leb (length s.a.now + length s.b.now) 65472) (hmac s.key.now (s.a.now ++ s.b.now)) s.out.now) s.out.now c.if-key-gt256.true

pub returns-then-not-within : goal.returns-then-not-within
unfolding mac_outcome
returns-then-not-within c =
    let s = c.args in
    let none : length s.a.now + length s.b.now + 0 ≡ length s.a.now + length s.b.now = omega arith in
    no_bounds _ (hmac s.key.now (s.a.now ++ s.b.now)) s.out.now (ap (λ (n : ℕ). leb n 65472) (sym none) ∙ failed _ _ c.within.ensures c.if-not-within.true)
    ∙ short_key s.key.now (answered (leb (length s.a.now + length s.b.now) 65472) (hmac s.key.now (s.a.now ++ s.b.now)) s.out.now) s.out.now c.if-key-gt256.false

pub returns-then-out-lt32 : goal.returns-then-out-lt32
unfolding mac_outcome
returns-then-out-lt32 c =
    let s = c.args in
    let none : length s.a.now + length s.b.now + 0 ≡ length s.a.now + length s.b.now = omega arith in
    no_room _ (hmac s.key.now (s.a.now ++ s.b.now)) s.out.now (ap (λ (n : ℕ). leb n 65472) (sym none) ∙ passed _ _ c.within.ensures c.if-not-within.false) c.if-out-lt32.true
    ∙ short_key s.key.now (answered (leb (length s.a.now + length s.b.now) 65472) (hmac s.key.now (s.a.now ++ s.b.now)) s.out.now) s.out.now c.if-key-gt256.false

pub hmac-answer-requires : goal.hmac-answer-requires
hmac-answer-requires c =
    let s = c.args in
    let sum : length s.a.now + length s.b.now + 0 ≤ 65472 = leb-true _ _ (passed _ _ c.within.ensures c.if-not-within.false) in
    record { key_len_bound = c.if-key-gt256.false; b_len_bound = omega arith }

pub returns : goal.returns
unfolding mac_outcome
returns c =
    let s = c.args in
    let none : length s.a.now + length s.b.now + 0 ≡ length s.a.now + length s.b.now = omega arith in
    written _ (hmac s.key.now (s.a.now ++ s.b.now)) s.out.now _ (ap (λ (n : ℕ). leb n 65472) (sym none) ∙ passed _ _ c.within.ensures c.if-not-within.false) c.if-out-lt32.false
    (c.copy.ensures ∙ ap (λ (l : List ℕ). over 0 l s.out.now) c.hmac-answer.ensures)
    ∙ short_key s.key.now (answered (leb (length s.a.now + length s.b.now) 65472) (hmac s.key.now (s.a.now ++ s.b.now)) s.out.now) s.out.now c.if-key-gt256.false
