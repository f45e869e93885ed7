-- What the service of the design that ships gives along a row of requests is what the charge rules give for them: the bytes of the state
-- of that replay. The idea: a state that is good reads back from its bytes as it was written, so serving bytes and booking racks go side
-- by side. Over any number of racks. Assumes nothing.
use mathlib.Core.Path.{◌≡◌, refl, ap, ◌∙◌}
use mathlib.Core.Bool.{true}
use Prim.Native.Nat.{ℕ}
use native.Mathlib.Omega.{arith}
use mathlib.Core.List.{List, [], ◌∷◌}
use lib.ListN.{length}
use Rattle.refusals.specs.declared.Refusal.{Refusal}
use Rattle.racks.specs.Racks.{State, first_state}
use Rattle.racks.specs.Layout.{state_of, bytes_of_state}
use Rattle.racks.specs.Rule.{good_state}
use Rattle.racks.proofs.StateBytes.{state_of-bytes_of_state}
use Rattle.racks.proofs.StateRule.{fits_at}
use Rattle.racks.proofs.FirstState.{length-first_state, good_first_state}
use Rattle.rules.specs.Replay.{Booked, book, then_book, replay}
use Rattle.rules.proofs.Replays.{kept_book}
use Rattle.records.specs.Form.{Form}
use Rattle.answers.specs.Design.{Served}
use Rattle.answers.specs.Rows.{served_along, replayed}
use Rattle.answers.specs.Edition.{in_bytes, served_bytes, design}

-- a good state of n racks reads back from its bytes
pub reads_back : (n : ℕ) (s : State) → length s ≡ n → good_state s ≡ true → state_of n (bytes_of_state s) ≡ s
reads_back n s racks good = state_of-bytes_of_state n s racks (λ i. fits_at s i good)

-- the requests give, from a state, a good state of n racks, whose bytes these are
pub record Books (n : ℕ) (from : State) (requests : List (List ℕ)) (bytes : List ℕ) : Type 0 where
  pub state : State
  pub replays : replay n from requests ≡ Booked.booked state
  pub written : bytes ≡ bytes_of_state state
  pub racks : length state ≡ n
  pub good : good_state state ≡ true

-- what is barred stays barred
barred_along : (f : Form) (r : Refusal) (row : List (List ℕ)) (bytes : List ℕ) → served_along (design f) (Served.barred r) row ≡ Served.carried bytes → ⊥
barred_along f r [] bytes e = let z : ◌≡◌ {A = ℕ} 0 1 = cc in absurd (omega arith)
barred_along f r (request ∷ row) bytes e = barred_along f r row bytes e

books_more : (f : Form) (s : State) (request : List ℕ) (row : List (List ℕ)) (bytes : List ℕ) (b : Booked) → book f.racks s request ≡ b → length s ≡ f.racks → good_state s ≡ true
    → served_along (design f) (in_bytes b) row ≡ Served.carried bytes
    → ((t : State) → length t ≡ f.racks → good_state t ≡ true → served_along (design f) (Served.carried (bytes_of_state t)) row ≡ Served.carried bytes → Books f.racks t row bytes)
    → Books f.racks s (request ∷ row) bytes
unfolding replay
books_more f s request row bytes (Booked.refused r) is racks good e rest = absurd (barred_along f r row bytes e)
books_more f s request row bytes (Booked.booked t) is racks good e rest =
    let k = kept_book f.racks s t request racks good is in
    let b = rest t (k.racks ∙ racks) k.good e in
    record {
      state = b.state;
      replays = ap (then_book (λ u. replay f.racks u row)) is ∙ b.replays;
      written = b.written;
      racks = b.racks;
      good = b.good;
    }

pub books_from : (f : Form) (row : List (List ℕ)) (s : State) (bytes : List ℕ) → length s ≡ f.racks → good_state s ≡ true
    → served_along (design f) (Served.carried (bytes_of_state s)) row ≡ Served.carried bytes → Books f.racks s row bytes
unfolding replay served_bytes
books_from f [] s bytes racks good e = record { state = s; replays = refl; written = cc; racks = racks; good = good }
books_from f (request ∷ row) s bytes racks good e =
    books_more f s request row bytes (book f.racks s request) refl racks good (rw (reads_back f.racks s racks good) at e)
    (λ t k g x. books_from f row t bytes k g x)

-- from the first state
pub books : (f : Form) (requests : List (List ℕ)) (bytes : List ℕ) → replayed (design f) requests ≡ Served.carried bytes → Books f.racks (first_state f.racks) requests bytes
books f requests bytes e = books_from f requests (first_state f.racks) bytes (length-first_state f.racks) (good_first_state f.racks) e
