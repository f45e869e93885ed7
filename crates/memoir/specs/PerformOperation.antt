-- The Memoir report, section 2.4, LL1PerformOperation: 'The LL1PerformOperation action is invoked by the user to perform a service
-- operation.' The names of its LET, its two enablement conditions and its effects, in the report's order. Assumes nothing.
use Rattle.std.specs.Prelude.{◌≡◌, true, ℕ}
use mathlib.Core.List.{List, ◌∷◌, Memᴰ}
use Rattle.memoir.specs.Primitives.{HashType, InputType, PublicStateType, PrivateStateEncType, ServiceResult, Constants}
use Rattle.memoir.specs.Storage.{LL1UntrustedStorageType, LL1TrustedStorageType, LL1Vars}

-- LET

abbrev pub state_hash : Constants → LL1Vars → List ℕ
state_hash C v = C.Hash (PublicStateType v.LL1RAM.public_state) (PrivateStateEncType v.LL1RAM.private_state_enc)

abbrev pub history_state_binding : Constants → LL1Vars → List ℕ
history_state_binding C v = C.Hash (HashType v.LL1RAM.history_summary) (HashType (state_hash C v))

abbrev pub private_state : Constants → LL1Vars → List ℕ
private_state C v = C.SymmetricDecrypt v.LL1NVRAM.symmetric_key v.LL1RAM.private_state_enc

abbrev pub s_result : Constants → LL1Vars → List ℕ → ServiceResult
s_result C v input = C.Service v.LL1RAM.public_state (private_state C v) input

abbrev pub new_private_state_enc : Constants → LL1Vars → List ℕ → List ℕ
new_private_state_enc C v input = C.SymmetricEncrypt v.LL1NVRAM.symmetric_key (s_result C v input).new_private_state

abbrev pub new_history_summary : Constants → LL1Vars → List ℕ → List ℕ
new_history_summary C v input = C.Hash (HashType v.LL1NVRAM.history_summary) (InputType input)

abbrev pub new_state_hash : Constants → LL1Vars → List ℕ → List ℕ
new_state_hash C v input = C.Hash (PublicStateType (s_result C v input).new_public_state) (PrivateStateEncType (new_private_state_enc C v input))

abbrev pub new_history_state_binding : Constants → LL1Vars → List ℕ → List ℕ
new_history_state_binding C v input = C.Hash (HashType (new_history_summary C v input)) (HashType (new_state_hash C v input))

abbrev pub new_authenticator : Constants → LL1Vars → List ℕ → List ℕ
new_authenticator C v input = C.GenerateMAC v.LL1NVRAM.symmetric_key (new_history_state_binding C v input)

-- IN: 'There are two enablement conditions'
pub record Enabled (C : Constants) (v : LL1Vars) (input : List ℕ) : Type 0 where
  -- 'First, the authenticator supplied by the user must validly bind the user-supplied public and encrypted private state to the
  -- history summary supplied by the user.'
  pub valid : C.ValidateMAC v.LL1NVRAM.symmetric_key (history_state_binding C v) v.LL1RAM.authenticator ≡ true
  -- 'Second, the history summary supplied by the user must match the history summary in the NVRAM.'
  pub current : v.LL1NVRAM.history_summary ≡ v.LL1RAM.history_summary

-- the action, with its input: from the variables v to the primed ones
pub record LL1PerformOperation (C : Constants) (v v' : LL1Vars) (input : List ℕ) : Type 0 where
  pub available : Memᴰ input v.LL1AvailableInputs
  pub enabled : Enabled C v input
  -- 'At the conclusion of the action, the RAM contains the new public and encrypted private state, the new history summary, and an
  -- authenticator that binds these together.'
  pub ram : ◌≡◌ {A = LL1UntrustedStorageType} v'.LL1RAM
      (record {
        public_state = (s_result C v input).new_public_state;
        private_state_enc = new_private_state_enc C v input;
        history_summary = new_history_summary C v input;
        authenticator = new_authenticator C v input;
      })
  -- 'The NVRAM is updated with the new history summary.'
  pub nvram : ◌≡◌ {A = LL1TrustedStorageType} v'.LL1NVRAM
      (record { history_summary = new_history_summary C v input; symmetric_key = v.LL1NVRAM.symmetric_key })
  -- 'The output of the service is added to the set of outputs that the user has observed.'
  pub outputs : v'.LL1ObservedOutputs ≡ (s_result C v input).output ∷ v.LL1ObservedOutputs
  -- 'The disk is unchanged.'
  pub disk : v'.LL1Disk ≡ v.LL1Disk
  -- 'The set of available inputs is unchanged.'
  pub inputs : v'.LL1AvailableInputs ≡ v.LL1AvailableInputs
  -- 'The new authenticator is added to the set of authenticators that the user has observed.'
  pub authenticators : v'.LL1ObservedAuthenticators ≡ new_authenticator C v input ∷ v.LL1ObservedAuthenticators
