-- What a request leads to from a record: the next summary, the next state, and the next record, under a prepared key. Assumes nothing.
use Rattle.std.specs.Prelude.{ℕ, List}
use Rattle.racks.specs.Racks.{State, rack_at}
use Rattle.racks.specs.Layout.{bytes_of_state}
use Rattle.requests.specs.declared.Request.{Request}
use Rattle.requests.specs.Requests.{rack_of_request}
use Rattle.rules.specs.Rules.{carry_out}
use Rattle.records.specs.Form.{Form}
use Rattle.records.specs.Record.{state, summary}
use Rattle.hmac.specs.declared.Prepared.{Prepared}
use Rattle.bindings.specs.Hashed.{next_summary}
use Rattle.bindings.specs.Sealing.{sealed_record}

-- the summary behind a record's, by a request's bytes
abbrev pub moved_on : Form → List ℕ → List ℕ → List ℕ
moved_on f l request = next_summary (summary f l) request

-- the state that a request leads to, its bytes, and what is stored in the request's rack then
abbrev pub next_state : Form → List ℕ → Request → State
next_state f l q = carry_out (state f l) q

abbrev pub next_bytes : Form → List ℕ → Request → List ℕ
next_bytes f l q = bytes_of_state (next_state f l q)

abbrev pub next_stored : Form → List ℕ → Request → ℕ
next_stored f l q = (rack_at (next_state f l q) (rack_of_request q)).stored

-- the record that binds this state to a summary
abbrev pub next_record : Form → Prepared → List ℕ → Request → List ℕ → List ℕ
next_record f key l q summary = sealed_record f key summary (next_bytes f l q)
