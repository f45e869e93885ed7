-- The rounds of FIPS 180-4, section 6.2.2, put together: the rounds from t on one by one, all 64 of them from four times
-- sixteen, and the sum of step 4. Assumes nothing.
use mathlib.Core.Path.{◌≡◌, refl, ap, ◌∙◌}
use Prim.Native.Nat.{ℕ, zero, suc, ◌+◌}
use native.Mathlib.Nat.{add-zero}
use native.Mathlib.Omega.{arith}
use mathlib.Core.List.{List, [], ◌∷◌}
use Rattle.std.proofs.Common.{◌<◌, length, get_or, lit<}
use Rattle.sha256_words.specs.Words.{◌⊞◌}
use Rattle.sha256_block.specs.Step.{round_at, rounds, rounds_from, add_to}

-- no rounds
pub none : (w : List ℕ) (t : ℕ) (v : List ℕ) → v ≡ rounds_from w t 0 v
unfolding rounds_from
none w t v = refl

-- one round, j, and then n more, are the suc n rounds from t on
pub then : (w : List ℕ) (t j n : ℕ) (v : List ℕ) {u r : List ℕ} → j ≡ t → u ≡ round_at w j v → r ≡ rounds_from w (suc t) n u → r ≡ rounds_from w t (suc n) v
unfolding rounds_from
then w t j n v here p q = q ∙ ap (rounds_from w (suc t) n) (p ∙ ap (λ (i : ℕ). round_at w i v) here)

-- the rounds from t on, after the rounds before t, are all of them
pub rounds-from : (w v : List ℕ) (t n : ℕ) → rounds_from w t n (rounds w v t) ≡ rounds w v (t + n)
unfolding rounds_from rounds
rounds-from w v t zero = rw add-zero
rounds-from w v t (suc n) =
    let e : suc t + n ≡ t + suc n = omega arith in
    rounds-from w v (suc t) n ∙ ap (rounds w v) e

-- all 64, from four times sixteen
pub rounds_64 : (w v : List ℕ) {v16 v32 v48 v64 : List ℕ} → v16 ≡ rounds_from w 0 16 v → v32 ≡ rounds_from w 16 16 v16
    → v48 ≡ rounds_from w 32 16 v32 → v64 ≡ rounds_from w 48 16 v48 → v64 ≡ rounds w v 64
unfolding rounds
rounds_64 w v p q r s =
    s
    ∙ ap (rounds_from w 48 16) (r ∙ ap (rounds_from w 32 16) (q ∙ ap (rounds_from w 16 16) (p ∙ rounds-from w v 0 16) ∙ rounds-from w v 16 16) ∙ rounds-from w v 32 16)
    ∙ rounds-from w v 48 16

-- step 4, from the eight sums one by one
pub added : (H v r : List ℕ) → length r ≡ 8 → ((k : ℕ) → k < 8 → get_or r k 0 ≡ get_or v k 0 ⊞ get_or H k 0) → r ≡ add_to H v
unfolding add_to
added H v (r₀ ∷ r₁ ∷ r₂ ∷ r₃ ∷ r₄ ∷ r₅ ∷ r₆ ∷ r₇ ∷ []) long sum =
    cc (sum 0 (lit< tt), sum 1 (lit< tt), sum 2 (lit< tt), sum 3 (lit< tt), sum 4 (lit< tt), sum 5 (lit< tt), sum 6 (lit< tt), sum 7 (lit< tt))
added H v _ long sum = absurd (omega arith)
