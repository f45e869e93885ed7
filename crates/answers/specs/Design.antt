-- What the five calls of document 01 are defined over: a hash and a MAC, a page, a form of record, a form of request and a service.
-- The definitions of the calls, and all that is proved of histories, are over any design; `Edition` is the one that ships. One run may
-- cross forms of record, so that these are parts of one design and not designs of their own. Assumes nothing.
use Rattle.std.specs.Prelude.{ℕ, Bool, List}
use Rattle.refusals.specs.declared.Refusal.{Refusal}
use Rattle.refusals.specs.Tested.{Tested}

-- what the service makes of a request on a state's bytes: the next state's bytes, or the charge rule that bars it
pub data Served : Type 0 where
  carried : List ℕ → Served
  barred : Refusal → Served

-- the figures of a view
pub record Figures : Type 0 where
  pub stored : ℕ
  pub capacity : ℕ
  pub percent : ℕ
  pub total : ℕ

pub record Design : Type 0 where
  -- the hash of a message, and what is hashed of a state's bytes
  pub hash : List ℕ → List ℕ
  pub state_message : List ℕ → List ℕ
  -- a page: whether its size is right, its summary, itself with another summary, and the MAC of a binding under its key
  pub right_page : List ℕ → Bool
  pub page_summary : List ℕ → List ℕ
  pub with_summary : List ℕ → List ℕ → List ℕ
  pub mac : List ℕ → List ℕ → List ℕ
  -- a record: its size, the tests 3, 4 and 5, its three parts, and a record from three parts
  pub record_size : ℕ
  pub tested : List ℕ → Tested
  pub state_bytes : List ℕ → List ℕ
  pub summary : List ℕ → List ℕ
  pub authenticator : List ℕ → List ℕ
  pub record_of : List ℕ → List ℕ → List ℕ → List ℕ
  -- a request: whether it is well formed
  pub formed : List ℕ → Bool
  -- the service: the first state's bytes; what it makes of a request; what is stored, after it, in the rack that it names
  pub first_bytes : List ℕ
  pub served : List ℕ → List ℕ → Served
  pub stored_after : List ℕ → List ℕ → ℕ
  -- view: how many racks there are, and the figures of a state's bytes at a rack
  pub racks : ℕ
  pub figures : List ℕ → ℕ → Figures
