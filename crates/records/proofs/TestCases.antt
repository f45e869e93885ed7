-- The three tests by their cases. Assumes nothing.
use mathlib.Core.Path.{◌≡◌, refl, ap, ap₂, ◌∙◌}
use mathlib.Core.Bool.{Bool, true, false, cond}
use Prim.Native.Nat.{ℕ, ◌/◌}
use native.Mathlib.Nat.{mul-div_cancel}
use native.Mathlib.Omega.{arith}
use lib.Dec.{lit<}
use mathlib.Core.List.{List}
use lib.ListN.{length}
use Rattle.std.specs.Prelude.{Ok, Err}
use Rattle.racks.specs.Layout.{rack_size, state_of}
use Rattle.racks.specs.Rule.{good_state}
use Rattle.numbers.proofs.Parts.{length_part}
use Rattle.records.specs.Form.{Form}
use Rattle.records.specs.Record.{record_size, state_size, state_bytes, right_size, right_version, right_state}
use Rattle.records.specs.Tests.{tested}
use Rattle.refusals.specs.declared.Refusal.TheVariants.{Record, Version, State}
use Rattle.refusals.specs.Tested.{Tested}

-- all three find nothing, and where they find nothing, each has passed
pub all_passed : (f : Form) (l : List ℕ) → right_size f l ≡ true → right_version f l ≡ true → right_state f l ≡ true → Ok tt ≡ tested f l
unfolding tested
all_passed f l p q r = rw (p, q, r) refl

all_three : (a b c : Bool) → ◌≡◌ {A = Tested} (cond a (cond b (cond c (Ok tt) (Err State)) (Err Version)) (Err Record)) (Ok tt)
    → (a ≡ true) × (b ≡ true) × (c ≡ true)
all_three false b c e = let z : ◌≡◌ {A = ℕ} 0 1 = cc in absurd (omega arith)
all_three true false c e = let z : ◌≡◌ {A = ℕ} 0 1 = cc in absurd (omega arith)
all_three true true false e = let z : ◌≡◌ {A = ℕ} 0 1 = cc in absurd (omega arith)
all_three true true true e = (refl, refl, refl)

pub tests_passed : (f : Form) (l : List ℕ) → tested f l ≡ Ok tt → (right_size f l ≡ true) × (right_version f l ≡ true) × (right_state f l ≡ true)
unfolding tested
tests_passed f l e = all_three (right_size f l) (right_version f l) (right_state f l) e

-- the state rule, tested on the state's own bytes
pub state_rule : (f : Form) (l s : List ℕ) → length l ≡ record_size f → s ≡ state_bytes f l → good_state (state_of (length s / rack_size) s) ≡ right_state f l
unfolding right_state
state_rule f l s long is =
    let wide : length (state_bytes f l) ≡ state_size f = length_part 3 (state_size f) l (omega arith) in
    let count : length s / rack_size ≡ f.racks = ap (λ (m : List ℕ). length m / rack_size) is ∙ ap (λ (m : ℕ). m / rack_size) wide ∙ mul-div_cancel f.racks (lit< tt) in
    ap₂ (λ (k : ℕ) (m : List ℕ). good_state (state_of k m)) count is
