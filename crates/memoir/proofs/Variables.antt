-- What the two actions share: the hash of a state in the report's words and in document 01's, and variables put together from parts.
-- Assumes nothing.
use mathlib.Core.Path.{◌≡◌, ap}
use Prim.Native.Nat.{ℕ}
use mathlib.Core.List.{List, [], ◌∷◌, ◌++◌, append-nil}
use Rattle.sha256.specs.Computation.{sha256}
use Rattle.records.specs.Form.{Form}
use Rattle.bindings.specs.Hashed.{state_message}
use Rattle.memoir.specs.Storage.{LL1UntrustedStorageType, LL1TrustedStorageType, LL1Vars}

-- nothing is hashed behind a state
pub state_hash_lem : (f : Form) (state : List ℕ) → sha256 (f.tag ∷ state ++ []) ≡ sha256 (state_message f state)
state_hash_lem f state = ap (λ (m : List ℕ). sha256 (f.tag ∷ m)) (append-nil state)

-- storage with equal parts is equal
pub storage_is : {a b c d e f : List ℕ} → a ≡ b → c ≡ d → e ≡ f
    → ◌≡◌ {A = LL1UntrustedStorageType}
    (record { public_state = a; private_state_enc = []; history_summary = c; authenticator = e })
    (record { public_state = b; private_state_enc = []; history_summary = d; authenticator = f })
storage_is p q r = rw (p, q, r)

pub trusted_is : {a b c d : List ℕ} → a ≡ b → c ≡ d
    → ◌≡◌ {A = LL1TrustedStorageType} (record { history_summary = a; symmetric_key = c }) (record { history_summary = b; symmetric_key = d })
trusted_is p q = rw (p, q)

-- variables with equal parts are equal
pub vars_are : (v w : LL1Vars) → v.LL1AvailableInputs ≡ w.LL1AvailableInputs → v.LL1ObservedOutputs ≡ w.LL1ObservedOutputs
    → v.LL1ObservedAuthenticators ≡ w.LL1ObservedAuthenticators → v.LL1Disk ≡ w.LL1Disk → v.LL1RAM ≡ w.LL1RAM → v.LL1NVRAM ≡ w.LL1NVRAM
    → v ≡ w
vars_are v w a b c d e f =
    λ i. record { LL1AvailableInputs = a i; LL1ObservedOutputs = b i; LL1ObservedAuthenticators = c i; LL1Disk = d i; LL1RAM = e i; LL1NVRAM = f i }
