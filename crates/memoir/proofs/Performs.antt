-- Perform is the report's LL1PerformOperation. The idea: the tests 7 and 8 are its two enablement conditions, and what is written reads
-- back as what its LET names. Assumes nothing.
use mathlib.Core.Path.{◌≡◌, refl, sym, ap, ◌∙◌}
use Prim.Native.Nat.{ℕ}
use mathlib.Core.List.{List, ◌∷◌, Memᴰ}
use Rattle.records.specs.Form.{Form}
use Rattle.records.specs.Page.{page_summary}
use Rattle.records.specs.Record.{summary, authenticator}
use Rattle.answers.specs.Hashing.{next_summary}
use Rattle.answers.specs.Answers.{Performed, performed}
use Rattle.answers.specs.Edition.{design}
use Rattle.answers.proofs.Accepted.{perform_passed, perform_is}
use Rattle.answers.proofs.ReadsBack.{reads_back}
use Rattle.answers.proofs.Keys.{key_stays}
use Rattle.memoir.specs.Storage.{LL1Vars}
use Rattle.memoir.specs.PerformOperation.{new_authenticator, Enabled, LL1PerformOperation}
use Rattle.memoir.specs.Instance.{constants}
use Rattle.memoir.specs.Actions.{offering, written, accepted, Possible}
use Rattle.memoir.specs.Theorems.{PerformIsAction}
use Rattle.memoir.proofs.Variables.{storage_is, trusted_is, vars_are}
use Rattle.memoir.proofs.Enabling.{validates, passes}
use Rattle.memoir.proofs.Answers.{new_state, new_summary, new_authenticator_lem, new_output}

module _ (f : Form) (page l request answer : List ℕ) (vars : LL1Vars) where
  -- accepted, so enabled
  enabled : (performed (design f) page l request answer).number ≡ 0 → Enabled (constants f) (offering f page l vars) request
  enabled e =
      let (state, p) = perform_passed (design f) page l request answer e in
      record { valid = validates f page l request answer _ state p; current = sym p.current }

  -- enabled, so accepted, where the tests 1 to 6 and the charge rules let it pass
  accepts : Possible f page l request answer → Enabled (constants f) (offering f page l vars) request → (performed (design f) page l request answer).number ≡ 0
  accepts can enabled =
      ap (λ (p : Performed). p.number) (perform_is (design f) page l request answer can.state (passes f page l request answer _ can enabled.valid (sym enabled.current)))

  -- accepted, so the action
  acts : Memᴰ request vars.LL1AvailableInputs → (performed (design f) page l request answer).number ≡ 0
      → LL1PerformOperation (constants f) (offering f page l vars) (accepted f (performed (design f) page l request answer) vars) request
  acts available e =
      let p = performed (design f) page l request answer in
      let a = (reads_back f).performs page l request answer e in
      let next : next_summary (design f) (summary f l) request ≡ next_summary (design f) (page_summary page) request =
      ap (λ (s : List ℕ). next_summary (design f) s request) (perform_passed (design f) page l request answer e).1.current in
      let key = (key_stays f).performs page l request answer in
      let tag : authenticator f (written f p.answer) ≡ new_authenticator (constants f) (offering f page l vars) request =
      new_authenticator_lem f page l request answer p a _ next key in
      record {
        available = available;
        enabled = enabled e;
        ram = storage_is (new_state f page l request answer p a) (new_summary f page l request answer p a ∙ next) tag;
        nvram = trusted_is (a.holds ∙ next) key;
        outputs = ap (λ (o : ℕ). o ∷ vars.LL1ObservedOutputs) (new_output f page l request answer p a);
        disk = refl;
        inputs = refl;
        authenticators = ap (λ (m : List ℕ). m ∷ vars.LL1ObservedAuthenticators) tag;
      }

  -- the action, so the accepted call
  only : Possible f page l request answer → (after : LL1Vars) → LL1PerformOperation (constants f) (offering f page l vars) after request
      → ((performed (design f) page l request answer).number ≡ 0) × (after ≡ accepted f (performed (design f) page l request answer) vars)
  only can after action =
      let e = accepts can action.enabled in
      let own = acts action.available e in (
        e,
        vars_are after (accepted f (performed (design f) page l request answer) vars) (action.inputs ∙ sym own.inputs) (action.outputs ∙ sym own.outputs)
            (action.authenticators ∙ sym own.authenticators) (action.disk ∙ sym own.disk) (action.ram ∙ sym own.ram) (action.nvram ∙ sym own.nvram),
      )

pub perform_is_action : (f : Form) → PerformIsAction f
perform_is_action f page l request answer can vars available =
    record {
      enabled = (enabled f page l request answer vars, accepts f page l request answer vars can);
      acts = acts f page l request answer vars available;
      only = only f page l request answer vars can;
    }
