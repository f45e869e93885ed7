-- What a request changes: the racks that it names and no others, never the number of racks; taken in and given out never fall, and
-- only kind 1 changes a capacity. The idea: whatever holds between a rack and itself and between a rack and what becomes of it
-- holds between a state's racks before and after. Assumes nothing.
use mathlib.Core.Path.{◌≡◌, refl, sym, ◌∙◌}
use mathlib.Core.Bool.{true, false, true≢false}
use Prim.Native.Nat.{ℕ, zero, suc, ◌≤◌}
use native.Mathlib.Omega.{arith}
use mathlib.Core.List.{[], ◌∷◌}
use lib.ListN.{length, set, length-set}
use lib.Seq.{get_or-set_same, get_or-set_other}
use Rattle.racks.specs.declared.Rack.{Rack}
use Rattle.racks.specs.Racks.{State, empty_rack, rack_at}
use Rattle.requests.specs.declared.Request.{Request}
use Rattle.requests.specs.declared.Request.TheVariants.{Capacity, Charge, Discharge, Move}
use Rattle.requests.specs.Requests.{rack_of_request, other_of_request, sets_capacity, moves, arrives}
use Rattle.requests.specs.Range.{InRange}
use Rattle.rules.specs.Rules.{with_capacity, charged_by, discharged_by, carry_out}

-- the state in the middle of a move, when the amount has left its rack
abbrev pub sent : State → ℕ → ℕ → State
sent s i a = set s i (discharged_by a (rack_at s i))

-- there are as many racks as before
pub length-carry_out : (s : State) (q : Request) → length (carry_out s q) ≡ length s
unfolding carry_out
length-carry_out s (Capacity i a) = length-set s i _
length-carry_out s (Charge i a) = length-set s i _
length-carry_out s (Discharge i a) = length-set s i _
length-carry_out s (Move i o a) = simp length-set

-- a rack that the request does not name is as before
pub others_stay : (s : State) (q : Request) (j : ℕ) → (j ≡ rack_of_request q → ⊥) → (j ≡ other_of_request q → ⊥) → rack_at (carry_out s q) j ≡ rack_at s j
unfolding carry_out
others_stay s (Capacity i a) j h k = get_or-set_other s i j _ empty_rack h
others_stay s (Charge i a) j h k = get_or-set_other s i j _ empty_rack h
others_stay s (Discharge i a) j h k = get_or-set_other s i j _ empty_rack h
others_stay s (Move i o a) j h k = get_or-set_other (sent s i a) o j (charged_by a (rack_at s o)) empty_rack k ∙ get_or-set_other s i j (discharged_by a (rack_at s i)) empty_rack h

-- what becomes of the rack that is named first
abbrev pub changed : Request → Rack → Rack
changed (Capacity i a) r = with_capacity a r
changed (Charge i a) r = charged_by (arrives (Charge i a)) r
changed (Discharge i a) r = discharged_by a r
changed (Move i o a) r = discharged_by a r

-- a request that is no move sets one rack
pub sets_one : (s : State) (q : Request) → moves q ≡ false → carry_out s q ≡ set s (rack_of_request q) (changed q (rack_at s (rack_of_request q)))
unfolding carry_out
sets_one s (Capacity i a) e = refl
sets_one s (Charge i a) e = refl
sets_one s (Discharge i a) e = refl
sets_one s (Move i o a) e = absurd (true≢false e)

-- P holds between the figures f of each rack and the rack in u; where it holds between those of rack i and r, rack i may be set
module _ (P : Rack → Rack → Type 0) where
  keep : (f : ℕ → Rack) (u : State) (i : ℕ) (r : Rack) → ((j : ℕ) → P (f j) (rack_at u j)) → P (f i) r → (j : ℕ) → P (f j) (rack_at (set u i r) j)
  keep f [] i r all new j = all j
  keep f (t ∷ u) zero r all new zero = new
  keep f (t ∷ u) zero r all new (suc j) = all (suc j)
  keep f (t ∷ u) (suc i) r all new zero = all zero
  keep f (t ∷ u) (suc i) r all new (suc j) = keep (λ k. f (suc k)) u i r (λ k. all (suc k)) new j

  -- what holds between a rack and itself, and between a rack and what becomes of it
  pub each_rack : (s : State) (q : Request) → ((r : Rack) → P r r) → ((r : Rack) → P r (changed q r))
      → (moves q ≡ true → (r : Rack) → P r (charged_by (arrives q) r)) → (j : ℕ) → P (rack_at s j) (rack_at (carry_out s q) j)
  unfolding carry_out
  each_rack s (Capacity i a) same new more = keep (rack_at s) s i _ (λ j. same (rack_at s j)) (new (rack_at s i))
  each_rack s (Charge i a) same new more = keep (rack_at s) s i _ (λ j. same (rack_at s j)) (new (rack_at s i))
  each_rack s (Discharge i a) same new more = keep (rack_at s) s i _ (λ j. same (rack_at s j)) (new (rack_at s i))
  each_rack s (Move i o a) same new more =
      keep (rack_at s) (sent s i a) o _ (keep (rack_at s) s i _ (λ j. same (rack_at s j)) (new (rack_at s i))) (more refl (rack_at s o))

-- taken in and given out of t are not below those of r
pub record Risen (r t : Rack) : Type 0 where
  pub taken : r.taken ≤ t.taken
  pub given : r.given ≤ t.given

-- no change makes them fall
risen : (q : Request) (r : Rack) → Risen r (changed q r)
risen (Capacity i a) r = record { taken = omega arith; given = omega arith }
risen (Charge i a) r = record { taken = omega arith; given = omega arith }
risen (Discharge i a) r = record { taken = omega arith; given = omega arith }
risen (Move i o a) r = record { taken = omega arith; given = omega arith }

-- taken in and given out of a rack never fall
pub never_fall : (s : State) (q : Request) (j : ℕ) → Risen (rack_at s j) (rack_at (carry_out s q) j)
never_fall s q =
    each_rack Risen s q (λ r. record { taken = omega arith; given = omega arith }) (risen q)
    (λ m r. record { taken = omega arith; given = omega arith })

-- only kind 1 changes a capacity
pub capacity_stays : (s : State) (q : Request) → sets_capacity q ≡ false → (j : ℕ) → (rack_at (carry_out s q) j).capacity ≡ (rack_at s j).capacity
capacity_stays s q other = each_rack (λ r t. t.capacity ≡ r.capacity) s q (λ r. refl) (stays q other) (λ m r. refl)
  where
    stays : (q : Request) → sets_capacity q ≡ false → (r : Rack) → (changed q r).capacity ≡ r.capacity
    stays (Capacity i a) e r = absurd (true≢false e)
    stays (Charge i a) e r = refl
    stays (Discharge i a) e r = refl
    stays (Move i o a) e r = refl

-- the rack that a request names first
pub rack_after : (s : State) (q : Request) → InRange (length s) q → rack_at (carry_out s q) (rack_of_request q) ≡ changed q (rack_at s (rack_of_request q))
unfolding carry_out
rack_after s (Capacity i a) r = get_or-set_same s i _ empty_rack r.named.rack
rack_after s (Charge i a) r = get_or-set_same s i _ empty_rack r.named.rack
rack_after s (Discharge i a) r = get_or-set_same s i _ empty_rack r.named.rack
rack_after s (Move i o a) r =
    get_or-set_other (sent s i a) o i (charged_by a (rack_at s o)) empty_rack (λ e. r.apart refl (sym e)) ∙ get_or-set_same s i (discharged_by a (rack_at s i)) empty_rack r.named.rack
