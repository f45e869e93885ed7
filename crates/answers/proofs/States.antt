-- The states that are written: the first one, and each that the charge rules lead to from a record that has passed its tests, lie in
-- as many bytes as n racks take and keep the state rule when read back. Assumes nothing.
use mathlib.Core.Path.{◌≡◌, refl, ap, ◌∙◌}
use mathlib.Core.Bool.{Bool, true, false, cond}
use Prim.Native.Nat.{ℕ, ◌*◌}
use native.Mathlib.Omega.{arith}
use mathlib.Core.List.{List}
use lib.ListN.{length}
use Rattle.refusals.specs.declared.Refusal.TheVariants.{Record, Version, State as StateRefusal}
use Rattle.racks.specs.Racks.{State, first_state}
use Rattle.racks.specs.Layout.{rack_size, state_of, bytes_of_state}
use Rattle.racks.specs.Rule.{good_state}
use Rattle.racks.proofs.StateBytes.{length-bytes_of_state, state_of-bytes_of_state}
use Rattle.racks.proofs.StatePlaces.{length-state_of}
use Rattle.racks.proofs.StateRule.{fits_at}
use Rattle.racks.proofs.FirstState.{length-first_state, good_first_state}
use Rattle.rules.specs.Replay.{Booked, book}
use Rattle.rules.proofs.Replays.{kept_book}
use Rattle.records.specs.Form.{Form}
use Rattle.records.specs.Record.{state_bytes, right_size, right_version, right_state}
use Rattle.records.specs.Tests.{tested}
use Rattle.answers.specs.Design.{Served}
use Rattle.answers.specs.Edition.{in_bytes, served_bytes}
use Rattle.std.specs.Prelude.{Ok, Err}
use Rattle.records.proofs.TestCases.{tests_passed}

-- the bytes of n racks that keep the state rule
pub record GoodBytes (n : ℕ) (state : List ℕ) : Type 0 where
  pub size : length state ≡ n * rack_size
  pub good : good_state (state_of n state) ≡ true

pub good_bytes : (n : ℕ) (s : State) → length s ≡ n → good_state s ≡ true → GoodBytes n (bytes_of_state s)
good_bytes n s racks good =
    record {
      size = length-bytes_of_state s ∙ ap (λ (m : ℕ). m * rack_size) racks;
      good = ap good_state (state_of-bytes_of_state n s racks (λ i. fits_at s i good)) ∙ good;
    }

-- ---- the first state
pub first_good : (n : ℕ) → GoodBytes n (bytes_of_state (first_state n))
first_good n = good_bytes n (first_state n) (length-first_state n) (good_first_state n)

-- ---- a record that has passed the tests 3, 4 and 5

pub record_good : (f : Form) (l : List ℕ) → tested f l ≡ Ok tt → good_state (state_of f.racks (state_bytes f l)) ≡ true
unfolding right_state
record_good f l e = (tests_passed f l e).2

-- ---- what a request leads to

booked_good : (n : ℕ) (s : State) (request state : List ℕ) (b : Booked) → length s ≡ n → good_state s ≡ true → book n s request ≡ b
    → in_bytes b ≡ Served.carried state → GoodBytes n state
booked_good n s request state (Booked.refused r) racks good e carries = let z : ◌≡◌ {A = ℕ} 0 1 = cc in absurd (omega arith)
booked_good n s request state (Booked.booked t) racks good e carries =
    let kept = kept_book n s t request racks good e in
    let is : bytes_of_state t ≡ state = cc in
    rw is at (good_bytes n t (kept.racks ∙ racks) kept.good)

pub served_good : (n : ℕ) (bytes request state : List ℕ) → good_state (state_of n bytes) ≡ true → served_bytes n bytes request ≡ Served.carried state
    → GoodBytes n state
unfolding served_bytes
served_good n bytes request state good carries =
    booked_good n (state_of n bytes) request state (book n (state_of n bytes) request) (length-state_of n bytes) good refl carries
