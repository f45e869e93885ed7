-- The Memoir report, section 2.4, LL1RepeatOperation: 'This action enables the user to reproduce the result of the most-recent
-- LL1PerformOperation action.' The names of its LET are those of perform; the new binding is formed with the history summary of the
-- NVRAM, which stays. Assumes nothing.
use Rattle.std.specs.Prelude.{◌≡◌, true, ℕ}
use mathlib.Core.List.{List, ◌∷◌, Memᴰ}
use Rattle.memoir.specs.Primitives.{HashType, InputType, PublicStateType, PrivateStateEncType, ServiceResult, Constants}
use Rattle.memoir.specs.Storage.{LL1UntrustedStorageType, LL1Vars}

-- LET

abbrev pub state_hash : Constants → LL1Vars → List ℕ
state_hash C v = C.Hash (PublicStateType v.LL1RAM.public_state) (PrivateStateEncType v.LL1RAM.private_state_enc)

abbrev pub history_state_binding : Constants → LL1Vars → List ℕ
history_state_binding C v = C.Hash (HashType v.LL1RAM.history_summary) (HashType (state_hash C v))

abbrev pub private_state : Constants → LL1Vars → List ℕ
private_state C v = C.SymmetricDecrypt v.LL1NVRAM.symmetric_key v.LL1RAM.private_state_enc

abbrev pub s_result : Constants → LL1Vars → List ℕ → ServiceResult
s_result C v input = C.Service v.LL1RAM.public_state (private_state C v) input

abbrev pub new_private_state_enc : Constants → LL1Vars → List ℕ → List ℕ
new_private_state_enc C v input = C.SymmetricEncrypt v.LL1NVRAM.symmetric_key (s_result C v input).new_private_state

abbrev pub new_state_hash : Constants → LL1Vars → List ℕ → List ℕ
new_state_hash C v input = C.Hash (PublicStateType (s_result C v input).new_public_state) (PrivateStateEncType (new_private_state_enc C v input))

abbrev pub new_history_state_binding : Constants → LL1Vars → List ℕ → List ℕ
new_history_state_binding C v input = C.Hash (HashType v.LL1NVRAM.history_summary) (HashType (new_state_hash C v input))

abbrev pub new_authenticator : Constants → LL1Vars → List ℕ → List ℕ
new_authenticator C v input = C.GenerateMAC v.LL1NVRAM.symmetric_key (new_history_state_binding C v input)

-- IN: 'There are two enablement conditions'
pub record Enabled (C : Constants) (v : LL1Vars) (input : List ℕ) : Type 0 where
  -- the first as in perform
  pub valid : C.ValidateMAC v.LL1NVRAM.symmetric_key (history_state_binding C v) v.LL1RAM.authenticator ≡ true
  -- 'Second, the history summary supplied by the user, hashed with the input supplied by the user, must match the history summary in
  -- the NVRAM.'
  pub current : v.LL1NVRAM.history_summary ≡ C.Hash (HashType v.LL1RAM.history_summary) (InputType input)

-- the action, with its input: from the variables v to the primed ones
pub record LL1RepeatOperation (C : Constants) (v v' : LL1Vars) (input : List ℕ) : Type 0 where
  pub available : Memᴰ input v.LL1AvailableInputs
  pub enabled : Enabled C v input
  pub ram : ◌≡◌ {A = LL1UntrustedStorageType} v'.LL1RAM
      (record {
        public_state = (s_result C v input).new_public_state;
        private_state_enc = new_private_state_enc C v input;
        history_summary = v.LL1NVRAM.history_summary;
        authenticator = new_authenticator C v input;
      })
  pub outputs : v'.LL1ObservedOutputs ≡ (s_result C v input).output ∷ v.LL1ObservedOutputs
  -- 'The NVRAM is unchanged, because this action is not supposed to change the state of the service.'
  pub nvram : v'.LL1NVRAM ≡ v.LL1NVRAM
  pub disk : v'.LL1Disk ≡ v.LL1Disk
  pub inputs : v'.LL1AvailableInputs ≡ v.LL1AvailableInputs
  pub authenticators : v'.LL1ObservedAuthenticators ≡ new_authenticator C v input ∷ v.LL1ObservedAuthenticators
