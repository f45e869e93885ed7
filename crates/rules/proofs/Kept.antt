-- What a request keeps: the state rule, the number of racks, the balance of what is stored with what was charged and discharged,
-- and that nothing taken in or given out falls. The idea: each kind changes one rack, or two, and keeps the rule of each.
-- Assumes nothing.
use mathlib.Core.Path.{◌≡◌, refl, ◌∙◌}
use mathlib.Core.Bool.{true}
use Prim.Native.Nat.{ℕ, ◌+◌, ◌≤◌, ◌<◌}
use native.Mathlib.Omega.{arith}
use lib.ListN.{length, set, length-set}
use lib.Seq.{get_or-set_other}
use Rattle.std.specs.Prelude.{Ok}
use Rattle.racks.specs.declared.Rack.{Rack}
use Rattle.racks.specs.Racks.{State, empty_rack, rack_at}
use Rattle.racks.specs.Rule.{amount_limit, good_state, Good}
use Rattle.racks.specs.Figures.{total_stored}
use Rattle.racks.proofs.StateRule.{good_iff, good_at, good_set}
use Rattle.racks.proofs.Sums.{total-set}
use Rattle.requests.specs.declared.Request.{Request}
use Rattle.requests.specs.declared.Request.TheVariants.{Capacity, Charge, Discharge, Move}
use Rattle.requests.specs.Requests.{charged, discharged}
use Rattle.requests.specs.Range.{InRange}
use Rattle.rules.specs.Rules.{with_capacity, charged_by, discharged_by, ruling, carry_out}
use Rattle.rules.specs.Ready.{TakesIn, GivesOut}
use Rattle.rules.proofs.Rulings.{free-capacity, free_charge, free_discharge, free_move}
use Rattle.rules.proofs.Changes.{sent, length-carry_out, Risen, never_fall}

-- ---- one rack

-- each change keeps the rule of a rack
good_capacity : (a : ℕ) (r : Rack) → a ≤ amount_limit → r.stored ≤ a → Good r → Good (with_capacity a r)
good_capacity a r within room g = record { limit = within; room = room; flow = g.flow; order = g.order; balance = g.balance }

good_charge : (a : ℕ) (r : Rack) → TakesIn a r → Good r → Good (charged_by a r)
good_charge a r t g = record { limit = g.limit; room = t.room; flow = t.flow; order = omega arith; balance = omega arith }

good_discharge : (a : ℕ) (r : Rack) → GivesOut a r → Good r → Good (discharged_by a r)
good_discharge a r t g = record { limit = g.limit; room = omega arith; flow = g.flow; order = omega arith; balance = omega arith }

-- ---- a state

-- a good state stays good when a rack is set to what becomes of it by a change that keeps the rule
set_good : (s : State) (i : ℕ) (f : Rack → Rack) → good_state s ≡ true → (Good (rack_at s i) → Good (f (rack_at s i))) → good_state (set s i (f (rack_at s i))) ≡ true
set_good s i f good keeps = good_set s i (f (rack_at s i)) good ((good_iff _).1 (keeps ((good_iff _).0 (good_at s i good))))

-- the state rule is kept
pub good_carry_out : (s : State) (q : Request) → InRange (length s) q → ruling s q ≡ Ok tt → good_state s ≡ true → good_state (carry_out s q) ≡ true
unfolding carry_out
good_carry_out s (Capacity i a) range free good =
    set_good s i (with_capacity a) good (good_capacity a (rack_at s i) range.within (free-capacity s i a free))
good_carry_out s (Charge i a) range free good = set_good s i (charged_by a) good (good_charge a (rack_at s i) (free_charge s i a free))
good_carry_out s (Discharge i a) range free good = set_good s i (discharged_by a) good (good_discharge a (rack_at s i) (free_discharge s i a free))
good_carry_out s (Move i o a) range free good =
    let both = free_move s i o a free in
    let first = set_good s i (discharged_by a) good (good_discharge a (rack_at s i) both.0) in
    let other = good_charge a (rack_at s o) both.1 ((good_iff _).0 (good_at s o good)) in
    good_set (sent s i a) o (charged_by a (rack_at s o)) first ((good_iff _).1 other)

-- the total changes by what is charged and what is discharged
pub total-carry_out : (s : State) (q : Request) → InRange (length s) q → ruling s q ≡ Ok tt
    → total_stored (carry_out s q) + discharged q ≡ total_stored s + charged q
unfolding carry_out
total-carry_out s (Capacity i a) range free = omega (arith, total-set s i (with_capacity a (rack_at s i)) range.named.rack)
total-carry_out s (Charge i a) range free = omega (arith, total-set s i (charged_by a (rack_at s i)) range.named.rack)
total-carry_out s (Discharge i a) range free =
    omega (arith, total-set s i (discharged_by a (rack_at s i)) range.named.rack, (free_discharge s i a free).held)
total-carry_out s (Move i o a) range free =
    let inside : o < length (sent s i a) = simp length-set range.named.other in
    let stays : rack_at (sent s i a) o ≡ rack_at s o = get_or-set_other s i o (discharged_by a (rack_at s i)) empty_rack (range.apart refl) in
    let there = rw stays at (total-set (sent s i a) o (charged_by a (rack_at s o)) inside) in
    omega (arith, there, total-set s i (discharged_by a (rack_at s i)) range.named.rack, (free_move s i o a free).0.held)

-- ---- one request, and a row of them

-- from s to t the number of racks and the state rule are kept, so much was charged and so much discharged, and nothing fell
pub record Kept (gain loss : ℕ) (s t : State) : Type 0 where
  pub racks : length t ≡ length s
  pub good : good_state t ≡ true
  pub total : total_stored t + loss ≡ total_stored s + gain
  pub risen : (j : ℕ) → Risen (rack_at s j) (rack_at t j)

pub kept_carry_out : (s : State) (q : Request) → InRange (length s) q → ruling s q ≡ Ok tt → good_state s ≡ true
    → Kept (charged q) (discharged q) s (carry_out s q)
kept_carry_out s q range free good =
    record { racks = length-carry_out s q; good = good_carry_out s q range free good; total = total-carry_out s q range free; risen = never_fall s q }

-- nothing was asked
pub kept_none : (s : State) → good_state s ≡ true → Kept 0 0 s s
kept_none s good = record { racks = refl; good = good; total = refl; risen = λ j. record { taken = omega arith; given = omega arith } }

-- one after the other
pub kept_then : {g h k m : ℕ} {s t u : State} → Kept g h s t → Kept k m t u → Kept (g + k) (h + m) s u
kept_then first next =
    record {
      racks = next.racks ∙ first.racks;
      good = next.good;
      total = omega arith;
      risen = λ j. let a = first.risen j in let b = next.risen j in record { taken = omega arith; given = omega arith };
    }
