-- The schedule in an array of 64 words: one more word behind those that stand there. Assumes nothing.
use Rattle.std.proofs.Common.{◌≡◌, ℕ, suc, ◌+◌, ◌<◌, List, length, take, set, get_or, sym, ap, subst, ◌∙◌, arith, add-one}
use lib.Seq.{get_or-take, take-suc-set}
use Rattle.sha256_block.specs.Schedule.{next_word, schedule}

-- a word of the array that stands among its first t
seen : (l w : List ℕ) (t i : ℕ) → i < t → take t l ≡ w → get_or l i 0 ≡ get_or w i 0
seen l w t i there front = sym (get_or-take t l i 0 there) ∙ ap (λ (u : List ℕ). get_or u i 0) front

-- one more word
pub one_word : (M l : List ℕ) (n x : ℕ) → n + 16 < length l → take (n + 16) l ≡ schedule M n
    → x ≡ next_word (get_or l (n + 14) 0) (get_or l (n + 9) 0) (get_or l (n + 1) 0) (get_or l n 0)
    → take (n + 1 + 16) (set l (n + 16) x) ≡ schedule M (n + 1)
unfolding schedule
one_word M l n x fits front new =
    let w = schedule M n in
    let q₂ = seen l w (n + 16) (n + 14) (omega arith) front in
    let q₇ = seen l w (n + 16) (n + 9) (omega arith) front in
    let q₁₅ = seen l w (n + 16) (n + 1) (omega arith) front in
    let q₁₆ = seen l w (n + 16) n (omega arith) front in
    let word : x ≡ next_word (get_or w (n + 14) 0) (get_or w (n + 9) 0) (get_or w (n + 1) 0) (get_or w n 0) = cc in
    let next : n + 1 + 16 ≡ suc (n + 16) = omega arith in
    ap (λ (m : ℕ). take m (set l (n + 16) x)) next
    ∙ take-suc-set l (n + 16) x fits
    ∙ cc (front, word)
    ∙ sym (ap (schedule M) (add-one n))

-- the same place, counted otherwise
pub at_place : (M w : List ℕ) (m n : ℕ) → m ≡ n → take (m + 16) w ≡ schedule M m → take (n + 16) w ≡ schedule M n
at_place M w m n same front = subst (λ (k : ℕ). take (k + 16) w ≡ schedule M k) same front
