-- Repeat is the report's LL1RepeatOperation. The idea: as for perform; the next summary is the one that the page holds.
-- Assumes nothing.
use mathlib.Core.Path.{◌≡◌, refl, sym, ap, ◌∙◌}
use Prim.Native.Nat.{ℕ}
use mathlib.Core.List.{List, ◌∷◌, Memᴰ}
use Rattle.records.specs.Form.{Form}
use Rattle.records.specs.Page.{page_summary, page_key}
use Rattle.records.specs.Record.{authenticator}
use Rattle.answers.specs.Answers.{Performed, repeated}
use Rattle.answers.specs.Edition.{design}
use Rattle.answers.proofs.Accepted.{repeat_passed, repeat_is}
use Rattle.answers.proofs.ReadsBack.{reads_back}
use Rattle.answers.proofs.Keys.{key_stays}
use Rattle.memoir.specs.Storage.{LL1Vars}
use Rattle.memoir.specs.RepeatOperation.{new_authenticator, Enabled, LL1RepeatOperation}
use Rattle.memoir.specs.Instance.{constants}
use Rattle.memoir.specs.Actions.{trusted_in, offering, written, accepted, Possible}
use Rattle.memoir.specs.Theorems.{RepeatIsAction}
use Rattle.memoir.proofs.Variables.{storage_is, vars_are}
use Rattle.memoir.proofs.Enabling.{validates, passes}
use Rattle.memoir.proofs.Answers.{new_state, new_summary, new_authenticator_lem, new_output}

module _ (f : Form) (page l request answer : List ℕ) (vars : LL1Vars) where
  -- accepted, so enabled
  enabled : (repeated (design f) page l request answer).number ≡ 0 → Enabled (constants f) (offering f page l vars) request
  enabled e =
      let (state, p) = repeat_passed (design f) page l request answer e in
      record { valid = validates f page l request answer _ state p; current = sym p.current }

  -- enabled, so accepted, where the tests 1 to 6 and the charge rules let it pass
  accepts : Possible f page l request answer → Enabled (constants f) (offering f page l vars) request → (repeated (design f) page l request answer).number ≡ 0
  accepts can enabled =
      ap (λ (p : Performed). p.number) (repeat_is (design f) page l request answer can.state (passes f page l request answer _ can enabled.valid (sym enabled.current)))

  -- accepted, so the action
  acts : Memᴰ request vars.LL1AvailableInputs → (repeated (design f) page l request answer).number ≡ 0
      → LL1RepeatOperation (constants f) (offering f page l vars) (accepted f (repeated (design f) page l request answer) vars) request
  acts available e =
      let p = repeated (design f) page l request answer in
      let a = (reads_back f).repeats page l request answer e in
      let next = (repeat_passed (design f) page l request answer e).1.current in
      let stays = (key_stays f).repeats page l request answer in
      let tag : authenticator f (written f p.answer) ≡ new_authenticator (constants f) (offering f page l vars) request =
      new_authenticator_lem f page l request answer p a (page_summary page) next (ap page_key stays) in
      record {
        available = available;
        enabled = enabled e;
        ram = storage_is (new_state f page l request answer p a) (new_summary f page l request answer p a ∙ next) tag;
        outputs = ap (λ (o : ℕ). o ∷ vars.LL1ObservedOutputs) (new_output f page l request answer p a);
        nvram = ap trusted_in stays;
        disk = refl;
        inputs = refl;
        authenticators = ap (λ (m : List ℕ). m ∷ vars.LL1ObservedAuthenticators) tag;
      }

  -- the action, so the accepted call
  only : Possible f page l request answer → (after : LL1Vars) → LL1RepeatOperation (constants f) (offering f page l vars) after request
      → ((repeated (design f) page l request answer).number ≡ 0) × (after ≡ accepted f (repeated (design f) page l request answer) vars)
  only can after action =
      let e = accepts can action.enabled in
      let own = acts action.available e in (
        e,
        vars_are after (accepted f (repeated (design f) page l request answer) vars) (action.inputs ∙ sym own.inputs) (action.outputs ∙ sym own.outputs)
            (action.authenticators ∙ sym own.authenticators) (action.disk ∙ sym own.disk) (action.ram ∙ sym own.ram) (action.nvram ∙ sym own.nvram),
      )

pub repeat_is_action : (f : Form) → RepeatIsAction f
repeat_is_action f page l request answer can vars available =
    record {
      enabled = (enabled f page l request answer vars, accepts f page l request answer vars can);
      acts = acts f page l request answer vars available;
      only = only f page l request answer vars can;
    }
