-- Document 01, 'What is hashed', over a design: the state hash, the next summary, the binding, and when an authenticator is valid.
-- Assumes nothing.
use Rattle.std.specs.Prelude.{ℕ, Bool, List}
use Rattle.numbers.specs.Comparing.{same}
use Rattle.bindings.specs.Hashed.{summary_message, binding_message}
use Rattle.answers.specs.Design.{Design}

-- the state hash of a state's bytes
abbrev pub state_hash : Design → List ℕ → List ℕ
state_hash D state = D.hash (D.state_message state)

-- the summary of a history that one more request ends
abbrev pub next_summary : Design → List ℕ → List ℕ → List ℕ
next_summary D summary request = D.hash (summary_message summary request)

-- what is hashed to bind a state to a summary, and the binding
abbrev pub bound_message : Design → List ℕ → List ℕ → List ℕ
bound_message D summary state = binding_message summary (state_hash D state)

abbrev pub binding_of : Design → List ℕ → List ℕ → List ℕ
binding_of D summary state = D.hash (bound_message D summary state)

-- the binding of a record's own state to its own summary
abbrev pub binding_in : Design → List ℕ → List ℕ
binding_in D l = binding_of D (D.summary l) (D.state_bytes l)

-- an authenticator is valid for a record if it equals, in all 32 bytes, the one worked out from the record's own state and summary
abbrev pub valid : Design → List ℕ → List ℕ → Bool
valid D page l = same (D.authenticator l) (D.mac page (binding_in D l))

-- the record that binds a state to a summary
abbrev pub bound_record : Design → List ℕ → List ℕ → List ℕ → List ℕ
bound_record D page summary state = D.record_of state summary (D.mac page (binding_of D summary state))
