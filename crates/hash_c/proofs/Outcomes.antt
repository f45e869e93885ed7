-- An outcome by its cases: the bounds are not met, the buffer is too short, or the answer is written. Assumes nothing.
use mathlib.Core.Path.{◌≡◌, sym, ap, ◌∙◌}
use mathlib.Core.Bool.{Bool, true, false, cond}
use Prim.Native.Nat.{ℕ, ◌+◌, ◌-◌, ◌≤◌, ◌<◌}
use native.Mathlib.Decide.{dec_le}
use native.Mathlib.Nat.{lt_of_not-le}
use native.Mathlib.Omega.{arith}
use mathlib.Core.List.{List}
use lib.ListN.{length}
use lib.Dec.{leb}
use borrow.Author.Tests.{le-leb, lt-leb}
use Rattle.numbers.specs.Parts.{over}
use Rattle.hash_c.specs.Outcome.{Outcome, refused, answered}

pub no_bounds : (b : Bool) (answer d : List ℕ) → b ≡ false → refused d ≡ answered b answer d
no_bounds b answer d e = ap {B = Outcome} (λ (t : Bool). answered t answer d) (sym e)

pub no_room : (b : Bool) (answer d : List ℕ) → b ≡ true → length d < 32 → refused d ≡ answered b answer d
no_room b answer d e short =
    ap {B = Outcome} (λ (t : Bool). cond t (record { code = 0; out = over 0 answer d }) (refused d)) (sym (lt-leb 32 (length d) short))
    ∙ ap {B = Outcome} (λ (t : Bool). answered t answer d) (sym e)

pub written : (b : Bool) (answer d o : List ℕ) → b ≡ true → 32 ≤ length d → o ≡ over 0 answer d
    → ◌≡◌ {A = Outcome} (record { code = 0; out = o }) (answered b answer d)
written b answer d o e room so =
    ap {B = Outcome} (λ (l : List ℕ). record { code = 0; out = l }) so
    ∙ ap {B = Outcome} (λ (t : Bool). cond t (record { code = 0; out = over 0 answer d }) (refused d)) (sym (le-leb 32 (length d) room))
    ∙ ap {B = Outcome} (λ (t : Bool). answered t answer d) (sym e)

-- the key's bound is tested before the others
pub long_key : (key : List ℕ) (o : Outcome) (d : List ℕ) → 256 < length key → refused d ≡ cond (leb (length key) 256) o (refused d)
long_key key o d long = ap {B = Outcome} (λ (t : Bool). cond t o (refused d)) (sym (lt-leb (length key) 256 long))

pub short_key : (key : List ℕ) (o : Outcome) (d : List ℕ) → length key ≤ 256 → o ≡ cond (leb (length key) 256) o (refused d)
short_key key o d short = ap {B = Outcome} (λ (t : Bool). cond t o (refused d)) (sym (le-leb (length key) 256 short))

-- a sum that is compared by differences
pub by_differences : (a b c most : ℕ) → a ≤ most → b ≤ most - a → leb c (most - a - b) ≡ leb (a + b + c) most
by_differences a b c most p q =
    elim (dec_le c (most - a - b)) [
      | yes h ↦ le-leb c (most - a - b) h ∙ sym (le-leb (a + b + c) most (omega arith))
      | no h ↦ lt-leb c (most - a - b) (lt_of_not-le h) ∙ sym (lt-leb (a + b + c) most (omega (arith, lt_of_not-le h)))
    ]
