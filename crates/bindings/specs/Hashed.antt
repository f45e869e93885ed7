-- Document 01, 'What is hashed': the state hash, the next summary, the binding of a summary and a state hash, and the authenticator.
-- Each message begins with a byte that says its kind: that of the form, 01 in this edition, for a state, 02 for a summary, 03 for a binding.
-- Assumes nothing.
use Rattle.std.specs.Prelude.{ℕ, List, [], ◌∷◌, ◌++◌}
use Rattle.sha256.specs.Computation.{sha256}
use Rattle.hmac.specs.Hmac.{hmac}
use Rattle.records.specs.Form.{Form}

-- the first byte of each kind of message; a state's is its form's
abbrev pub summary_tag : ℕ
summary_tag = 0x02

abbrev pub binding_tag : ℕ
binding_tag = 0x03

-- the messages: a byte, and what is hashed behind it
abbrev pub state_message : Form → List ℕ → List ℕ
state_message f state = (f.tag ∷ []) ++ state

abbrev pub summary_message : List ℕ → List ℕ → List ℕ
summary_message summary request = (summary_tag ∷ []) ++ summary ++ request

abbrev pub binding_message : List ℕ → List ℕ → List ℕ
binding_message summary state_hash = (binding_tag ∷ []) ++ summary ++ state_hash

-- State hash: SHA-256 of the form's byte, 01, and the state bytes.
unfoldable pub state_hash : Form → List ℕ → List ℕ
state_hash f state = sha256 (state_message f state)

-- Next summary: SHA-256 of byte 02, the old summary and all the request's bytes.
unfoldable pub next_summary : List ℕ → List ℕ → List ℕ
next_summary summary request = sha256 (summary_message summary request)

-- Binding: SHA-256 of byte 03, a summary and a state hash.
unfoldable pub binding : List ℕ → List ℕ → List ℕ
binding summary state_hash = sha256 (binding_message summary state_hash)

-- the binding of a state's bytes to a summary
unfoldable pub binding_of : Form → List ℕ → List ℕ → List ℕ
binding_of f summary state = binding summary (state_hash f state)

-- Authenticator: HMAC-SHA-256 of the binding under the page's key; `prefix` stands before the binding, and is empty in this edition.
unfoldable pub authenticator_of : List ℕ → List ℕ → List ℕ → List ℕ
authenticator_of key prefix bound = hmac key (prefix ++ bound)
