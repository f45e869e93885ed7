-- An answer is known by what it tells: no two answers tell the same number and figures. Assumes nothing.
use mathlib.Core.Path.{◌≡◌, refl, sym, ap, ◌∙◌}
use mathlib.Core.Bool.{cond}
use Prim.Native.Nat.{ℕ}
use native.Mathlib.Omega.{arith}
use mathlib.Core.List.{List}
use lib.Dec.{eqb}
use Rattle.std.specs.Prelude.{Result, Ok, Err}
use Rattle.refusals.specs.declared.Refusal.{Refusal}
use Rattle.refusals.specs.declared.Refusal.TheVariants.{Page, Answer, Record, Version, State, Request, Authenticator, Current, Capacity, Stored, Limit, Total, Fresh}
use Rattle.refusals.specs.Numbers.{number_of}
use Rattle.refusals.specs.Tested.{Tested, number_told}
use Rattle.answers.specs.Design.{Figures}
use Rattle.answers.specs.Answers.{Outcome, Performed, Viewed}
use Rattle.opens.specs.Told.{told_open}
use Rattle.calls.specs.Told.{stored_told, told}
use Rattle.views.specs.declared.Seen.{Seen}
use Rattle.views.specs.Told.{figures_told, told_view}

-- the refusal of a number
refusal_of : ℕ → Refusal
refusal_of k =
    cond (eqb k 1) Page
    (cond (eqb k 2) Answer
    (cond (eqb k 3) Record
    (cond (eqb k 4) Version
    (cond (eqb k 5) State
    (cond (eqb k 6) Request
    (cond (eqb k 7) Authenticator
    (cond (eqb k 8) Current
    (cond (eqb k 9) Capacity
    (cond (eqb k 10) Stored
    (cond (eqb k 11) Limit
    (cond (eqb k 12) Total Fresh)))))))))))

back : (r : Refusal) → refusal_of (number_of r) ≡ r
unfolding refusal_of
back Page = refl
back Answer = refl
back Record = refl
back Version = refl
back State = refl
back Request = refl
back Authenticator = refl
back Current = refl
back Capacity = refl
back Stored = refl
back Limit = refl
back Total = refl
back Fresh = refl

-- a number is of one refusal alone, and 0 is of none
pub numbers_apart : (r s : Refusal) → number_of r ≡ number_of s → r ≡ s
numbers_apart r s e = sym (back r) ∙ ap refusal_of e ∙ back s

no_zero : (r : Refusal) → number_of r ≡ 0 → ⊥
no_zero Page e = absurd (omega arith)
no_zero Answer e = absurd (omega arith)
no_zero Record e = absurd (omega arith)
no_zero Version e = absurd (omega arith)
no_zero State e = absurd (omega arith)
no_zero Request e = absurd (omega arith)
no_zero Authenticator e = absurd (omega arith)
no_zero Current e = absurd (omega arith)
no_zero Capacity e = absurd (omega arith)
no_zero Stored e = absurd (omega arith)
no_zero Limit e = absurd (omega arith)
no_zero Total e = absurd (omega arith)
no_zero Fresh e = absurd (omega arith)

-- ---- the three answers

open_answers : (a b : Tested) → number_told a ≡ number_told b → a ≡ b
open_answers (Ok x) (Ok y) e = refl
open_answers (Ok x) (Err r) e = absurd (no_zero r (sym e))
open_answers (Err r) (Ok x) e = absurd (no_zero r e)
open_answers (Err r) (Err s) e = ap Err (numbers_apart r s e)

perform_answers_lem : (a b : Result ℕ Refusal) → number_told a ≡ number_told b → stored_told a ≡ stored_told b → a ≡ b
perform_answers_lem (Ok x) (Ok y) e f = ap Ok f
perform_answers_lem (Ok x) (Err r) e f = absurd (no_zero r (sym e))
perform_answers_lem (Err r) (Ok y) e f = absurd (no_zero r e)
perform_answers_lem (Err r) (Err s) e f = ap Err (numbers_apart r s e)

view_answers : (a b : Result Seen Refusal) → number_told a ≡ number_told b → figures_told a ≡ figures_told b → a ≡ b
view_answers (Ok x) (Ok y) e f =
    ap (λ (g : Figures). Ok (record { stored = g.stored; capacity = g.capacity; percent = g.percent; total = g.total })) f
view_answers (Ok x) (Err r) e f = absurd (no_zero r (sym e))
view_answers (Err r) (Ok y) e f = absurd (no_zero r e)
view_answers (Err r) (Err s) e f = ap Err (numbers_apart r s e)

-- ---- what is told of an outcome fixes it

pub open_told : (a b : Tested) (p x q y : List ℕ) → told_open a p x ≡ told_open b q y → (a ≡ b) × (x ≡ y)
open_told a b p x q y e = (open_answers a b (ap (λ (o : Outcome). o.number) e), ap (λ (o : Outcome). o.answer) e)

pub perform_told : (a b : Result ℕ Refusal) (p x q y : List ℕ) → told a p x ≡ told b q y → (a ≡ b) × ((p ≡ q) × (x ≡ y))
perform_told a b p x q y e =
    (perform_answers_lem a b (ap (λ (o : Performed). o.number) e) (ap (λ (o : Performed). o.stored) e), (ap (λ (o : Performed). o.page) e, ap (λ (o : Performed). o.answer) e))

pub view_told : (a b : Result Seen Refusal) → told_view a ≡ told_view b → a ≡ b
view_told a b e = view_answers a b (ap (λ (o : Viewed). o.number) e) (ap (λ (o : Viewed). o.figures) e)
