-- Document 01, 'Acceptance table': the cases K1 to K14 as one table with a single theorem, from the definitions that the contracts
-- cite. A rack is (capacity, stored, taken in, given out). It stands as rack 3 of a book, and a request for it is given as bytes.
-- Assumes nothing.
use Rattle.std.specs.Prelude.{◌≡◌, refl, Bool, true, false, ◌&&◌, cond, ℕ, List, [], ◌∷◌, eqb, set, Option, Some, None}
use Rattle.numbers.specs.Numbers.{be_from, be, bytes_of}
use Rattle.numbers.specs.Parts.{part}
use Rattle.numbers.specs.Comparing.{same}
use Rattle.refusals.specs.Numbers.{number_of}
use Rattle.racks.specs.declared.Rack.{Rack}
use Rattle.racks.specs.Racks.{State, first_state}
use Rattle.racks.specs.Figures.{percent}
use Rattle.racks.specs.Edition.{racks}
use Rattle.requests.specs.declared.Request.TheVariants.{Capacity, Charge, Discharge, Move}
use Rattle.requests.specs.Layout.{bytes_of_request}
use Rattle.requests.specs.Formed.{right_form, right_other, right_amount, well_formed}
use Rattle.requests.specs.Requests.{request_by, request_of, read_request}
use Rattle.rules.specs.Rules.{over_capacity, over_stored, over_limit, ruling, carry_out}
use Rattle.rules.specs.Replay.{Booked, booked, refused, book}
use Rattle.requests.specs.declared.Request.{Request}

-- ---- what a case says

-- a rack by its figures, and the state that has it as rack 3
abbrev rack_by : ℕ → ℕ → ℕ → ℕ → Rack
rack_by c s t g = record { capacity = c; stored = s; taken = t; given = g }

abbrev among : Rack → State
among r = set (first_state racks) 3 r

-- two states are the same in every figure
abbrev same_rack : Rack → Rack → Bool
same_rack r t = eqb r.capacity t.capacity && eqb r.stored t.stored && eqb r.taken t.taken && eqb r.given t.given

abbrev same_state : State → State → Bool
same_state [] [] = true
same_state [] (t ∷ u) = false
same_state (r ∷ s) [] = false
same_state (r ∷ s) (t ∷ u) = same_rack r t && same_state s u

-- a request of a kind and an amount for the rack is booked, and the rack becomes t
abbrev booked_as : Booked → State → Bool
booked_as (booked s) t = same_state s t
booked_as (refused r) t = false

abbrev becomes : Rack → ℕ → ℕ → Rack → Bool
becomes r kind amount t = booked_as (book racks (among r) (bytes_of_request kind 3 0 amount)) (among t)

-- it is refused with a number
abbrev refused_as : Booked → ℕ → Bool
refused_as (booked s) n = false
refused_as (refused r) n = eqb (number_of r) n

abbrev refuses : Rack → ℕ → ℕ → ℕ → Bool
refuses r kind amount n = refused_as (book racks (among r) (bytes_of_request kind 3 0 amount)) n

-- bytes are read as a charge of an amount to a rack
abbrev charge_of : ℕ → ℕ → Option Request → Bool
charge_of i a (Some (Charge j b)) = eqb i j && eqb a b
charge_of i a (Some (Capacity j b)) = false
charge_of i a (Some (Discharge j b)) = false
charge_of i a (Some (Move j o b)) = false
charge_of i a None = false

-- ---- the table

-- the rack of K2 to K7
abbrev first : Rack
first = rack_by 72000 70000 70000 0

-- the rack of K13 and K14, which has taken in and given out all but one of the limit
abbrev last : Rack
last = rack_by 10 0 999999999999999 999999999999999

abbrev table : List (ℕ × Bool)
table =
    -- K1. Charge of 3,600 to rack 3 is 00 08 01 02 03 00 00 00 0E 10.
    (1, same (bytes_of_request 2 3 0 3600) (0x00 ∷ 0x08 ∷ 0x01 ∷ 0x02 ∷ 0x03 ∷ 0x00 ∷ 0x00 ∷ 0x00 ∷ 0x0E ∷ 0x10 ∷ []))
    ∷ (1, charge_of 3 3600 (read_request racks (bytes_of_request 2 3 0 3600)))
    -- K2. (72000, 70000, 70000, 0) charge 2,000: (72000, 72000, 72000, 0).
    ∷ (2, becomes first 2 2000 (rack_by 72000 72000 72000 0))
    -- K3. The same rack, charge 2,001: 9.
    ∷ (3, refuses first 2 2001 9)
    -- K4. The same rack, discharge 70,000: (72000, 0, 70000, 70000).
    ∷ (4, becomes first 3 70000 (rack_by 72000 0 70000 70000))
    -- K5. The same rack, discharge 70,001: 10.
    ∷ (5, refuses first 3 70001 10)
    -- K6. The same rack, capacity 70,000: accepted.
    ∷ (6, becomes first 1 70000 (rack_by 70000 70000 70000 0))
    -- K7. Capacity 69,999: 9.
    ∷ (7, refuses first 1 69999 9)
    -- K8. Percent of 719 in 72,000 is 0.
    ∷ (8, eqb (percent (rack_by 72000 719 719 0)) 0)
    -- K9. Of 720 it is 1.
    ∷ (9, eqb (percent (rack_by 72000 720 720 0)) 1)
    -- K10. Of 70,000 it is 97.
    ∷ (10, eqb (percent first) 97)
    -- K11. Capacity 100,000,000 is well formed.
    ∷ (11, well_formed racks (bytes_of_request 1 3 0 100_000_000))
    -- K12. 100,000,001: 6.
    ∷ (12, refuses first 1 100_000_001 6)
    -- K13. (10, 0, 999999999999999, 999999999999999) charge 1: accepted.
    ∷ (13, becomes last 2 1 (rack_by 10 1 1_000_000_000_000_000 999999999999999))
    -- K14. Charge 2: 11.
    ∷ (14, refuses last 2 2 11)
    ∷ []

-- the numbers of the cases that do not hold; by them a wrong cell is named
abbrev failing : List (ℕ × Bool) → List ℕ
failing [] = []
failing ((k, b) ∷ cs) = cond b (failing cs) (k ∷ failing cs)

pub acceptance : failing table ≡ []
unfolding be_from be bytes_of part same first_state percent bytes_of_request right_form right_other right_amount well_formed request_by request_of read_request over_capacity over_stored over_limit ruling carry_out book
acceptance = refl
