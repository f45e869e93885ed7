-- What is proved: perform is the report's LL1PerformOperation and repeat its LL1RepeatOperation. A call that the tests 1 to 6 and the
-- charge rules let pass is accepted just where the action is enabled; an accepted call is the action; and the action leaves nothing else
-- open, so that it is that call. A refused call leaves page and answer buffer as they were. The private state is empty throughout.
-- Assumes nothing.
use Rattle.std.specs.Prelude.{◌≡◌, ◌↔◌, ℕ}
use mathlib.Core.List.{List, [], Memᴰ}
use Rattle.records.specs.Form.{Form}
use Rattle.answers.specs.Answers.{Performed, performed, repeated}
use Rattle.answers.specs.Edition.{design}
use Rattle.memoir.specs.Storage.{LL1Vars}
use Rattle.memoir.specs.PerformOperation as Perform
use Rattle.memoir.specs.RepeatOperation as Repeat
use Rattle.memoir.specs.Instance.{constants}
use Rattle.memoir.specs.Actions.{offering, accepted, Possible}

-- a call that answered `p`, and an action that is enabled so and goes from variables to variables so
pub record IsAction (f : Form) (page l : List ℕ) (vars : LL1Vars) (p : Performed) (Enabled : LL1Vars → Type 0) (Action : LL1Vars → LL1Vars → Type 0) : Type 0 where
  pub enabled : p.number ≡ 0 ↔ Enabled (offering f page l vars)
  pub acts : p.number ≡ 0 → Action (offering f page l vars) (accepted f p vars)
  pub only : (after : LL1Vars) → Action (offering f page l vars) after → (p.number ≡ 0) × (after ≡ accepted f p vars)

-- perform, with a request that is among the available inputs
abbrev pub PerformIsAction : Form → Type 0
PerformIsAction f =
    (page l request answer : List ℕ) → Possible f page l request answer
    → (vars : LL1Vars) → Memᴰ request vars.LL1AvailableInputs
    → IsAction f page l vars (performed (design f) page l request answer)
    (λ before. Perform.Enabled (constants f) before request) (λ before after. Perform.LL1PerformOperation (constants f) before after request)

-- repeat likewise
abbrev pub RepeatIsAction : Form → Type 0
RepeatIsAction f =
    (page l request answer : List ℕ) → Possible f page l request answer
    → (vars : LL1Vars) → Memᴰ request vars.LL1AvailableInputs
    → IsAction f page l vars (repeated (design f) page l request answer)
    (λ before. Repeat.Enabled (constants f) before request) (λ before after. Repeat.LL1RepeatOperation (constants f) before after request)

-- the premise takes no accepted call away: whatever was offered, an accepted call was possible
pub record AcceptedArePossible (f : Form) : Type 0 where
  pub performs : (page l request answer : List ℕ) → (performed (design f) page l request answer).number ≡ 0 → Possible f page l request answer
  pub repeats : (page l request answer : List ℕ) → (repeated (design f) page l request answer).number ≡ 0 → Possible f page l request answer

-- a refused call, of whatever was offered: the variables and the answer buffer are as they were
pub record Stays (f : Form) (page l answer : List ℕ) (vars : LL1Vars) (p : Performed) : Type 0 where
  pub variables : offering f p.page l vars ≡ offering f page l vars
  pub buffer : p.answer ≡ answer

pub record OtherwiseStays (f : Form) : Type 0 where
  pub performs : (page l request answer : List ℕ) (vars : LL1Vars) → ((performed (design f) page l request answer).number ≡ 0 → ⊥)
      → Stays f page l answer vars (performed (design f) page l request answer)
  pub repeats : (page l request answer : List ℕ) (vars : LL1Vars) → ((repeated (design f) page l request answer).number ≡ 0 → ⊥)
      → Stays f page l answer vars (repeated (design f) page l request answer)

-- the private state is empty: so is what either action decrypts, whatever the variables, and what the service gives anew, whatever the
-- input, carried out or barred; and of it the report's SymmetricCryptoCorrect holds, 'decryption is the inverse of encryption with the
-- same key'
pub record PrivateStateIsEmpty (f : Form) : Type 0 where
  pub perform_decrypts : (vars : LL1Vars) → Perform.private_state (constants f) vars ≡ []
  pub perform_gives : (vars : LL1Vars) (input : List ℕ) → (Perform.s_result (constants f) vars input).new_private_state ≡ []
  pub repeat_decrypts : (vars : LL1Vars) → Repeat.private_state (constants f) vars ≡ []
  pub repeat_gives : (vars : LL1Vars) (input : List ℕ) → (Repeat.s_result (constants f) vars input).new_private_state ≡ []
  pub inverse : (key : List ℕ) → (constants f).SymmetricDecrypt key ((constants f).SymmetricEncrypt key []) ≡ []
