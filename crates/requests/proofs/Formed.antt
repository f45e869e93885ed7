-- What is known of bytes that are well formed, and of a request that was read.
-- The idea: the definition is a chain of tests, and each of them passed. Assumes nothing.
use mathlib.Core.Path.{◌≡◌, refl, sym, ◌∙◌}
use mathlib.Core.Bool.{Bool, true, false, not, ◌&&◌, ◌||◌, true≢false, false≢true, cond}
use Prim.Native.Nat.{ℕ, zero, suc, ◌-◌, ◌≤◌, ◌<◌}
use native.Mathlib.Omega.{arith}
use mathlib.Core.List.{List, [], ◌∷◌}
use lib.ListN.{length}
use lib.Dec.{leb, ltb, eqb}
use borrow.Author.Tests.{eqb-true, eqb-false, not-true, leb-true, ltb-true, lt-ltb, ne_eqb}
use Rattle.std.specs.Prelude.{Some, None}
use Rattle.racks.specs.Rule.{amount_limit}
use Rattle.requests.specs.declared.Request.{Request}
use Rattle.requests.specs.Layout.{request_size, length_field, version, kind, rack, other, amount}
use Rattle.requests.specs.Formed.{right_form, right_other, right_amount, well_formed}
use Rattle.requests.specs.Requests.{request_by, request_of, read_request}
use Rattle.requests.specs.Range.{InRange}
use Rattle.requests.proofs.Chains.{each_passed}

-- a form that is right
pub record RightForm (l : List ℕ) : Type 0 where
  pub size : length l ≡ request_size
  pub count : length_field l ≡ request_size - 2
  pub first : version l ≡ 1

pub right_form_lem : (l : List ℕ) → right_form l ≡ true → RightForm l
unfolding right_form
right_form_lem l right =
    let t = each_passed (eqb (length l) request_size) (eqb (length_field l) (request_size - 2) ∷ eqb (version l) 1 ∷ []) right in
    record { size = eqb-true _ _ t.0; count = eqb-true _ _ t.1.0; first = eqb-true _ _ t.1.1 }

-- past the code's test of the form, the size is right
pub tested_size : (l : List ℕ) (b : Bool) → b ≡ right_form l → b ≡ true → length l ≡ request_size
tested_size l b tested so = (right_form_lem l (sym tested ∙ so)).size

pub form_right : (l : List ℕ) → RightForm l → right_form l ≡ true
unfolding right_form
form_right l r = rw (r.size, r.count, r.first) refl

-- what is well formed has the right form
pub formed_form : (n : ℕ) (l : List ℕ) → well_formed n l ≡ true → RightForm l
unfolding well_formed
formed_form n l well =
    right_form_lem l
    (each_passed (right_form l) (leb 1 (kind l) ∷ leb (kind l) 4 ∷ ltb (rack l) n ∷ right_other n l ∷ right_amount l ∷ []) well).0

-- the clauses that kind k, rack i, other o and amount a have to meet
pub record Fields (n k i o a : ℕ) : Type 0 where
  pub low : 1 ≤ k
  pub high : k ≤ 4
  pub inside : i < n
  pub another : (leb k 3 && eqb o 0 || eqb k 4 && ltb o n && not (eqb o i)) ≡ true
  pub within : a ≤ amount_limit
  pub some : (eqb k 1 || ltb 0 a) ≡ true

-- what fields that meet them ask is in range
ranged : (n k i o a : ℕ) → Fields n k i o a → InRange n (request_by k i o a)
unfolding request_by
ranged n zero i o a f = absurd (omega arith)
ranged n (suc zero) i o a f =
    record { named = record { rack = f.inside; other = f.inside }; apart = λ e. absurd (false≢true e); within = f.within; some = λ e. absurd (true≢false e) }
ranged n (suc (suc zero)) i o a f =
    record { named = record { rack = f.inside; other = f.inside }; apart = λ e. absurd (false≢true e); within = f.within; some = λ e. ltb-true 0 a f.some }
ranged n (suc (suc (suc zero))) i o a f =
    record { named = record { rack = f.inside; other = f.inside }; apart = λ e. absurd (false≢true e); within = f.within; some = λ e. ltb-true 0 a f.some }
ranged n (suc (suc (suc (suc zero)))) i o a f =
    let t = each_passed (ltb o n) (not (eqb o i) ∷ []) f.another in
    record { named = record { rack = f.inside; other = ltb-true o n t.0 }; apart = λ e. eqb-false o i (not-true _ t.1); within = f.within; some = λ e. ltb-true 0 a f.some }
ranged n (suc (suc (suc (suc (suc k))))) i o a f = absurd (omega arith)

-- and what is in range comes from such fields
pub fields : (n k i o a : ℕ) → 1 ≤ k → k ≤ 4 → (k ≤ 3 → o ≡ 0) → InRange n (request_by k i o a) → Fields n k i o a
unfolding request_by
fields n zero i o a low high none r = absurd (omega arith)
fields n (suc zero) i o a low high none r =
    record { low = low; high = high; inside = r.named.rack; another = rw (none (omega arith)); within = r.within; some = refl }
fields n (suc (suc zero)) i o a low high none r =
    record { low = low; high = high; inside = r.named.rack; another = rw (none (omega arith)); within = r.within; some = lt-ltb 0 a (r.some refl) }
fields n (suc (suc (suc zero))) i o a low high none r =
    record { low = low; high = high; inside = r.named.rack; another = rw (none (omega arith)); within = r.within; some = lt-ltb 0 a (r.some refl) }
fields n (suc (suc (suc (suc zero)))) i o a low high none r =
    record { low = low; high = high; inside = r.named.rack; another = rw (lt-ltb o n r.named.other, ne_eqb o i (r.apart refl)); within = r.within; some = lt-ltb 0 a (r.some refl) }
fields n (suc (suc (suc (suc (suc k))))) i o a low high none r = absurd (omega arith)

-- what was read was well formed, and is what its fields ask
picked : (b : Bool) (p q : Request) → cond b (Some p) None ≡ Some q → (b ≡ true) × (p ≡ q)
picked true p q e = (refl, cc)
picked false p q e = let z : ◌≡◌ {A = ℕ} 0 1 = cc in absurd (omega arith)

pub read_formed : (n : ℕ) (l : List ℕ) (q : Request) → read_request n l ≡ Some q → (well_formed n l ≡ true) × (request_of l ≡ q)
unfolding read_request
read_formed n l q read = picked (well_formed n l) (request_of l) q read

-- what is well formed is in range
formed-range : (n : ℕ) (l : List ℕ) → well_formed n l ≡ true → InRange n (request_of l)
unfolding well_formed right_other right_amount request_of
formed-range n l well =
    let t = each_passed (right_form l) (leb 1 (kind l) ∷ leb (kind l) 4 ∷ ltb (rack l) n ∷ right_other n l ∷ right_amount l ∷ []) well in
    let u = each_passed (leb (amount l) amount_limit) ((eqb (kind l) 1 || ltb 0 (amount l)) ∷ []) t.1.1.1.1.1 in
    ranged n (kind l) (rack l) (other l) (amount l)
    record {
      low = leb-true _ _ t.1.0;
      high = leb-true _ _ t.1.1.0;
      inside = ltb-true _ _ t.1.1.1.0;
      another = t.1.1.1.1.0;
      within = leb-true _ _ u.0;
      some = u.1;
    }

-- what was read is in range
pub in_range : (n : ℕ) (l : List ℕ) (q : Request) → read_request n l ≡ Some q → InRange n q
in_range n l q read =
    let r = read_formed n l q read in
    rw r.1 at (formed-range n l r.0)
