-- What is known of a row of requests that is booked.
-- The idea: one request that is booked was read, nothing barred it, and it was carried out; a row is one after the other.
-- Assumes nothing.
use mathlib.Core.Path.{◌≡◌, refl, ◌∙◌}
use mathlib.Core.Bool.{true}
use Prim.Native.Nat.{ℕ, ◌+◌}
use native.Mathlib.Omega.{arith}
use mathlib.Core.List.{List, [], ◌∷◌, ◌++◌}
use lib.ListN.{length}
use Rattle.std.specs.Prelude.{Option, Some, None, Ok, Err}
use Rattle.refusals.specs.Tested.{Tested}
use Rattle.racks.specs.Racks.{State, first_state}
use Rattle.racks.specs.Figures.{total_stored}
use Rattle.racks.specs.Rule.{good_state}
use Rattle.racks.proofs.FirstState.{length-first_state, good_first_state, total-first_state}
use Rattle.requests.specs.declared.Request.{Request}
use Rattle.requests.specs.Requests.{read_request, charged, discharged}
use Rattle.requests.proofs.Formed.{in_range}
use Rattle.rules.specs.Rules.{ruling, carry_out}
use Rattle.rules.specs.Replay.{Booked, booked, refused, by_ruling, by_reading, book, then_book, replay}
use Rattle.rules.specs.Sums.{of_reading, sum_of, sum_charged, sum_discharged}
use Rattle.rules.proofs.Kept.{Kept, kept_none, kept_then, kept_carry_out}

-- ---- one request

-- bytes that were booked: the request that they ask, that nothing bars, and that gives t
pub record Booking (n : ℕ) (s : State) (l : List ℕ) (t : State) : Type 0 where
  pub request : Request
  pub read : read_request n l ≡ Some request
  pub free : ruling s request ≡ Ok tt
  pub gives : carry_out s request ≡ t

free_of : (v : Tested) (s t : State) → by_ruling v s ≡ booked t → (v ≡ Ok tt) × (s ≡ t)
free_of (Ok x) s t e = (refl, cc)
free_of (Err r) s t e = let z : ◌≡◌ {A = ℕ} 0 1 = cc in absurd (omega arith)

booking_of : (n : ℕ) (s t : State) (l : List ℕ) (r : Option Request) → read_request n l ≡ r → by_reading s r ≡ booked t → Booking n s l t
booking_of n s t l None read e = let z : ◌≡◌ {A = ℕ} 0 1 = cc in absurd (omega arith)
booking_of n s t l (Some q) read e =
    let f = free_of (ruling s q) (carry_out s q) t e in
    record { request = q; read = read; free = f.0; gives = f.1 }

pub booking : (n : ℕ) (s t : State) (l : List ℕ) → book n s l ≡ booked t → Booking n s l t
unfolding book
booking n s t l e = booking_of n s t l (read_request n l) refl e

-- what is booked, from what was read
pub book_is : (n : ℕ) (s : State) (l : List ℕ) {r : Option Request} → read_request n l ≡ r → book n s l ≡ by_reading s r
unfolding book
book_is n s l read = rw read

-- ---- a row of requests

-- a row goes on with what one more request gives
after : (n : ℕ) (s : State) (l : List ℕ) (f : State → Booked) (b : Booked) → book n s l ≡ b → (t : State) → then_book f b ≡ booked t
    → (P : Type 0) → ((u : State) → book n s l ≡ booked u → f u ≡ booked t → P) → P
after n s l f (booked u) e t all P go = go u e all
after n s l f (refused r) e t all P go = let z : ◌≡◌ {A = ℕ} 0 1 = cc in absurd (omega arith)

-- what is booked of a good state of n racks: one request
pub kept_book : (n : ℕ) (s t : State) (l : List ℕ) → length s ≡ n → good_state s ≡ true → book n s l ≡ booked t
    → Kept (of_reading charged (read_request n l)) (of_reading discharged (read_request n l)) s t
kept_book n s t l racks good e =
    let b = booking n s t l e in
    let q = b.request in
    let kept : Kept (charged q) (discharged q) s t = rw b.gives at (kept_carry_out s q (rw racks (in_range n l q b.read)) b.free good) in
    rw b.read kept

-- a row of requests
pub kept_replay : (n : ℕ) (s t : State) (ls : List (List ℕ)) → length s ≡ n → good_state s ≡ true → replay n s ls ≡ booked t
    → Kept (sum_charged n ls) (sum_discharged n ls) s t
unfolding replay sum_of
kept_replay n s t [] racks good e = let same : s ≡ t = cc in rw (← same) (kept_none s good)
kept_replay n s t (l ∷ ls) racks good e =
    after n s l (λ u. replay n u ls) (book n s l) refl t e (Kept (sum_charged n (l ∷ ls)) (sum_discharged n (l ∷ ls)) s t)
    (λ u first rest.
    let k = kept_book n s u l racks good first in
    kept_then k (kept_replay n u t ls (k.racks ∙ racks) k.good rest))

-- a row from the first state: what is stored and what was discharged is what was charged
pub total-replay : (n : ℕ) (t : State) (ls : List (List ℕ)) → replay n (first_state n) ls ≡ booked t → total_stored t + sum_discharged n ls ≡ sum_charged n ls
total-replay n t ls e =
    let k = kept_replay n (first_state n) t ls (length-first_state n) (good_first_state n) e in
    omega (arith, k.total, total-first_state n)

-- ---- two rows

-- what is booked goes on in two ways that agree
alike : (f g : State → Booked) (b : Booked) → ((s : State) → f s ≡ g s) → then_book f b ≡ then_book g b
alike f g (booked s) same = same s
alike f g (refused r) same = refl

-- twice one after the other
nested : (f g : State → Booked) (b : Booked) → then_book (λ t. then_book g (f t)) b ≡ then_book g (then_book f b)
nested f g (booked s) = refl
nested f g (refused r) = refl

-- a replay of two rows is the replay of the second from what the first gives
pub replay-append : (n : ℕ) (s : State) (ls ms : List (List ℕ)) → replay n s (ls ++ ms) ≡ then_book (λ t. replay n t ms) (replay n s ls)
unfolding replay
replay-append n s [] ms = refl
replay-append n s (l ∷ ls) ms =
    alike (λ t. replay n t (ls ++ ms)) (λ t. then_book (λ u. replay n u ms) (replay n t ls)) (book n s l) (λ t. replay-append n t ls ms)
    ∙ nested (λ t. replay n t ls) (λ t. replay n t ms) (book n s l)
