-- What a request's bytes ask: one value, whatever the form of the bytes. The rules read this value alone. Assumes nothing.
use Rattle.std.specs.Prelude.{ℕ, Bool, true, false, cond, List, eqb, Option, Some, None}
use Rattle.requests.specs.declared.Request.{Request}
use Rattle.requests.specs.declared.Request.TheVariants.{Capacity, Charge, Discharge, Move}
use Rattle.requests.specs.Layout.{kind, rack, other, amount}
use Rattle.requests.specs.Formed.{well_formed}

-- what kind k, rack i, other o and amount a ask: kinds 1, 2, 3 and 4, in their order
unfoldable pub request_by : ℕ → ℕ → ℕ → ℕ → Request
request_by k i o a =
    cond (eqb k 1) (Capacity i a)
    (cond (eqb k 2) (Charge i a)
    (cond (eqb k 3) (Discharge i a)
    (Move i o a)))

-- what the fields of bytes ask
unfoldable pub request_of : List ℕ → Request
request_of l = request_by (kind l) (rack l) (other l) (amount l)

-- the request that bytes stand for, among n racks
unfoldable pub read_request : ℕ → List ℕ → Option Request
read_request n l = cond (well_formed n l) (Some (request_of l)) None

-- the rack that a request names first
abbrev pub rack_of_request : Request → ℕ
rack_of_request (Capacity i a) = i
rack_of_request (Charge i a) = i
rack_of_request (Discharge i a) = i
rack_of_request (Move i o a) = i

-- the other rack that it names: for a move the one that receives, else the same rack again
abbrev pub other_of_request : Request → ℕ
other_of_request (Capacity i a) = i
other_of_request (Charge i a) = i
other_of_request (Discharge i a) = i
other_of_request (Move i o a) = o

-- the amount that it names
abbrev pub amount_of_request : Request → ℕ
amount_of_request (Capacity i a) = a
amount_of_request (Charge i a) = a
amount_of_request (Discharge i a) = a
amount_of_request (Move i o a) = a

-- whether it sets a capacity: kind 1
abbrev pub sets_capacity : Request → Bool
sets_capacity (Capacity i a) = true
sets_capacity (Charge i a) = false
sets_capacity (Discharge i a) = false
sets_capacity (Move i o a) = false

-- whether it moves charge from one rack to another: kind 4
abbrev pub moves : Request → Bool
moves (Capacity i a) = false
moves (Charge i a) = false
moves (Discharge i a) = false
moves (Move i o a) = true

-- what reaches the receiving rack
abbrev pub arrives : Request → ℕ
arrives (Capacity i a) = 0
arrives (Charge i a) = a
arrives (Discharge i a) = 0
arrives (Move i o a) = a

-- the sum charged, and the sum discharged, by a request: the amount of kind 2, and of kind 3
abbrev pub charged : Request → ℕ
charged (Capacity i a) = 0
charged (Charge i a) = a
charged (Discharge i a) = 0
charged (Move i o a) = 0

abbrev pub discharged : Request → ℕ
discharged (Capacity i a) = 0
discharged (Charge i a) = 0
discharged (Discharge i a) = a
discharged (Move i o a) = 0
