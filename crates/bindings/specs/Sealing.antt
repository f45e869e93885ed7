-- A record is sealed by the authenticator of its own state and summary, worked out where they lie, under a prepared key. Assumes nothing.
use Rattle.std.specs.Prelude.{ℕ, ◌+◌, List}
use Rattle.numbers.specs.Parts.{over}
use Rattle.records.specs.Form.{Form}
use Rattle.records.specs.Page.{hash_size}
use Rattle.records.specs.Record.{state_size, state_bytes, summary, record_of}
use Rattle.hmac.specs.declared.Prepared.{Prepared}
use Rattle.hmac.specs.Preparation.{mac_of}
use Rattle.bindings.specs.Hashed.{binding_of}

-- the authenticator that the state and the summary in l call for
abbrev pub own_authenticator : Form → Prepared → List ℕ → List ℕ
own_authenticator f key l = mac_of key (binding_of f (summary f l) (state_bytes f l))

-- l with that authenticator laid in its place
unfoldable pub sealed : Form → Prepared → List ℕ → List ℕ
sealed f key l = over (3 + state_size f + hash_size) (own_authenticator f key l) l

-- the record that binds a state to a summary
abbrev pub sealed_record : Form → Prepared → List ℕ → List ℕ → List ℕ
sealed_record f key summary state = record_of f state summary (mac_of key (binding_of f summary state))
