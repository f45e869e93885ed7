-- The premises of a run that can be computed are a test that can be computed. The idea: lists are compared by `same`, which is equality
-- as a test. Assumes nothing.
use mathlib.Core.Path.{◌≡◌, refl, sym, ap, ◌∙◌}
use mathlib.Core.Logic.{⊎_elim}
use mathlib.Core.Bool.{Bool, true, false, not, ◌&&◌, ◌||◌, and-eq-true_iff, false≢true}
use Prim.Native.Nat.{ℕ}
use mathlib.Core.List.Memᴰ
use mathlib.Core.List.{List, [], ◌∷◌, Memᴰ}
use Rattle.numbers.specs.Comparing.{same}
use Rattle.numbers.proofs.Comparison.{same_iff}
use Rattle.records.specs.Page.{zero_summary}
use Rattle.answers.specs.Design.{Design}
use Rattle.answers.specs.Hashing.{binding_in}
use Rattle.histories.specs.Did.{Did}
use Rattle.histories.specs.Runs.{Run, done_by, answered_before}
use Rattle.histories.specs.Premises.{Apart, Unforged}
use Rattle.histories.proofs.Steps.{each_none, each_more}

-- ---- messages apart, as a test

-- of those in a list none but the message itself has its hash
abbrev pub alone : Design → List ℕ → List (List ℕ) → Bool
alone D a [] = true
alone D a (b ∷ ms) = (not (same (D.hash a) (D.hash b)) || same a b) && alone D a ms

-- each of a list is alone among others, and its hash is not zero
abbrev pub all_alone : Design → List (List ℕ) → List (List ℕ) → Bool
all_alone D [] others = true
all_alone D (a ∷ ms) others = alone D a others && (not (same (D.hash a) zero_summary) && all_alone D ms others)

implied : (p q : Bool) → (not p || q) ≡ true → p ≡ true → q ≡ true
implied true q e t = e
implied false q e t = absurd (false≢true t)

refuted : (p : Bool) → not p ≡ true → p ≡ true → ⊥
refuted true e t = false≢true e
refuted false e t = false≢true t

alone_sound : (D : Design) (a b : List ℕ) (ms : List (List ℕ)) → alone D a ms ≡ true → Memᴰ b ms → D.hash a ≡ D.hash b → a ≡ b
alone_sound D a b [] t m e = absurd (Memᴰ.not-nil m)
alone_sound D a b (x ∷ ms) t m e =
    let both = (and-eq-true_iff (not (same (D.hash a) (D.hash x)) || same a x) (alone D a ms)).0 t in
    ⊎_elim
    (λ is. (same_iff a x).0 (implied (same (D.hash a) (D.hash x)) (same a x) both.0 ((same_iff _ _).1 (e ∙ ap D.hash is))) ∙ sym is)
    (λ rest. alone_sound D a b ms both.1 rest e)
    (Memᴰ.cases_cons m)

apart_sound : (D : Design) (ms others : List (List ℕ)) → all_alone D ms others ≡ true → (a : List ℕ) → Memᴰ a ms
    → ((b : List ℕ) → Memᴰ b others → D.hash a ≡ D.hash b → a ≡ b) × (D.hash a ≡ zero_summary → ⊥)
apart_sound D [] others t a m = absurd (Memᴰ.not-nil m)
apart_sound D (x ∷ ms) others t a m =
    let one = (and-eq-true_iff (alone D x others) (not (same (D.hash x) zero_summary) && all_alone D ms others)).0 t in
    let two = (and-eq-true_iff (not (same (D.hash x) zero_summary)) (all_alone D ms others)).0 one.1 in
    ⊎_elim
    (λ is. (
      λ b other e. is ∙ alone_sound D x b others one.0 other (ap D.hash (sym is) ∙ e),
      λ e. refuted (same (D.hash x) zero_summary) two.0 ((same_iff _ _).1 (ap D.hash (sym is) ∙ e)),
    ))
    (apart_sound D ms others two.1 a)
    (Memᴰ.cases_cons m)

pub apart_by_test : (D : Design) (ms : List (List ℕ)) → all_alone D ms ms ≡ true → Apart D ms
apart_by_test D ms t =
    record { apart = λ a b ma mb e. (apart_sound D ms ms t a ma).0 b mb e; nonzero = λ a ma e. (apart_sound D ms ms t a ma).1 e }

-- ---- findings answered before, as a test

abbrev pub is_among : List ℕ → List (List ℕ) → Bool
is_among x [] = false
is_among x (y ∷ ys) = same x y || is_among x ys

abbrev all_answered : Design → List (List ℕ) → List (List ℕ) → Bool
all_answered D [] bindings = true
all_answered D (l ∷ ls) bindings = is_among (binding_in D l) bindings && all_answered D ls bindings

abbrev pub unforged_test : (Did → List (List ℕ)) → Design → List ℕ → Run → Bool
unforged_test finds D fresh [] = true
unforged_test finds D fresh (s ∷ older) = all_answered D (finds (done_by D fresh older s)) (answered_before D fresh older) && unforged_test finds D fresh older

among_step : (x y : List ℕ) (ys : List (List ℕ)) (b : Bool) → same x y ≡ b → (b || is_among x ys) ≡ true → (is_among x ys ≡ true → Memᴰ x ys)
    → Memᴰ x (y ∷ ys)
among_step x y ys true e t rest = Memᴰ.head ((same_iff x y).0 e)
among_step x y ys false e t rest = Memᴰ.tail (rest t)

among_sound : (x : List ℕ) (ys : List (List ℕ)) → is_among x ys ≡ true → Memᴰ x ys
among_sound x [] t = absurd (false≢true t)
among_sound x (y ∷ ys) t = among_step x y ys (same x y) refl t (among_sound x ys)

all_answered_sound : (D : Design) (ls bindings : List (List ℕ)) → all_answered D ls bindings ≡ true → (l : List ℕ) → Memᴰ l ls → Memᴰ (binding_in D l) bindings
all_answered_sound D [] bindings t l m = absurd (Memᴰ.not-nil m)
all_answered_sound D (k ∷ ls) bindings t l m =
    let both = (and-eq-true_iff (is_among (binding_in D k) bindings) (all_answered D ls bindings)).0 t in
    ⊎_elim (λ (is : l ≡ k). rw is (among_sound (binding_in D k) bindings both.0)) (all_answered_sound D ls bindings both.1 l) (Memᴰ.cases_cons m)

pub unforged_by_test : (finds : Did → List (List ℕ)) (D : Design) (fresh : List ℕ) (run : Run) → unforged_test finds D fresh run ≡ true → Unforged finds D fresh run
unforged_by_test finds D fresh [] t = each_none _
unforged_by_test finds D fresh (s ∷ older) t =
    let both = (and-eq-true_iff (all_answered D (finds (done_by D fresh older s)) (answered_before D fresh older)) (unforged_test finds D fresh older)).0 t in
    each_more _ s older (all_answered_sound D _ _ both.0) (unforged_by_test finds D fresh older both.1)
