-- Carrying out a request that was offered with a record: what the functions that do it ask for, and what they give.
-- The idea: the racks that lie in the bytes of the record's state are the record's. Assumes nothing.
use mathlib.Core.Path.{◌≡◌, ap, ◌∙◌}
use Prim.Native.Nat.{ℕ, ◌/◌, ◌≤◌}
use native.Mathlib.Nat.{mul-div_cancel}
use mathlib.Core.List.{List}
use lib.ListN.{length}
use lib.Dec.{lit<}
use Rattle.std.specs.Prelude.{Ok}
use Rattle.refusals.specs.Tested.{Tested}
use Rattle.racks.specs.Layout.{rack_size, state_of}
use Rattle.requests.specs.declared.Request.{Request}
use Rattle.requests.specs.Range.{Named, InRange}
use Rattle.rules.specs.Rules.{ruling}
use Rattle.rules.specs.Ready.{racks_in, state_in, Ready}
use Rattle.records.specs.Form.{Form}
use Rattle.records.specs.Record.{record_size, state_bytes, state}
use Rattle.bindings.proofs.Seals.{length_state}

module _ (f : Form) (l : List ℕ) (q : Request) (room : record_size f ≤ length l) where
  count : racks_in (state_bytes f l) ≡ f.racks
  count = ap (λ (m : ℕ). m / rack_size) (length_state f l room) ∙ mul-div_cancel f.racks (lit< tt)

  -- the state in the bytes is the record's
  pub state_in_lem : state_in (state_bytes f l) ≡ state f l
  state_in_lem = ap (λ (k : ℕ). state_of k (state_bytes f l)) count

  -- the request's racks are among those in the bytes
  pub named : (s : List ℕ) → s ≡ state_bytes f l → Named f.racks q → Named (racks_in s) q
  named s is among = rw (is, count) among

  -- what is judged on the bytes is judged on the record's state
  pub judged : (s : List ℕ) (w : Tested) → s ≡ state_bytes f l → w ≡ ruling (state_in s) q → w ≡ ruling (state f l) q
  judged s w is e = rw (is, state_in_lem) at e

  -- a request that nothing bars can be carried out
  pub ready : InRange f.racks q → ruling (state f l) q ≡ Ok tt → Ready (state_bytes f l) q
  ready range free = record { whole = rw (count, length_state f l room); range = rw count range; free = rw state_in_lem free }
