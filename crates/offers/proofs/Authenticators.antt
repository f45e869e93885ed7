-- An authenticator worked out under a page's key, prepared, is the design's. Assumes nothing.
use mathlib.Core.Path.{◌≡◌, refl, ◌∙◌}
use mathlib.Core.Bool.{Bool}
use Prim.Native.Nat.{ℕ}
use mathlib.Core.List.{List, []}
use Rattle.numbers.specs.Comparing.{same}
use Rattle.hmac.specs.declared.Prepared.{Prepared}
use Rattle.hmac.specs.Preparation.{prepared_of}
use Rattle.bindings.specs.Hashed.{state_hash, binding, binding_of}
use Rattle.bindings.specs.Sealing.{own_authenticator, sealed_record}
use Rattle.bindings.proofs.Hashes.{authenticator_prepared}
use Rattle.records.specs.Form.{Form}
use Rattle.records.specs.Page.{page_key}
use Rattle.records.specs.Record.{state_bytes, summary, authenticator}
use Rattle.answers.specs.Hashing.{valid, bound_record}
use Rattle.answers.specs.Edition.{design}

module _ (f : Form) (page : List ℕ) (key : Prepared) (prepared : key ≡ prepared_of (page_key page)) where
  -- test 7, r being what comparing says
  pub valid_prepared : (l : List ℕ) (r : Bool) → r ≡ same (authenticator f l) (own_authenticator f key l) → r ≡ valid (design f) page l
  unfolding binding_of binding state_hash
  valid_prepared l r is = is ∙ rw (prepared, authenticator_prepared (page_key page) [] (binding_of f (summary f l) (state_bytes f l))) refl

  -- a record that was sealed under it
  pub sealed-bound : (summary state : List ℕ) → sealed_record f key summary state ≡ bound_record (design f) page summary state
  unfolding binding_of binding state_hash
  sealed-bound summary state = rw (prepared, authenticator_prepared (page_key page) [] (binding_of f summary state)) refl
