-- What lets a call pass, in document 01's words and in the report's: test 7 is the first enablement condition of both actions, and with it
-- a possible call passes all tests that find its summary, whichever that is, to be the page's. Assumes nothing.
use mathlib.Core.Path.{◌≡◌, sym, ap, ◌∙◌}
use mathlib.Core.Bool.{true}
use Prim.Native.Nat.{ℕ}
use mathlib.Core.List.{List, []}
use Rattle.numbers.proofs.Comparison.{same_iff}
use Rattle.bindings.specs.Hashed.{authenticator_of}
use Rattle.records.specs.Form.{Form}
use Rattle.records.specs.Page.{page_summary, page_key}
use Rattle.records.specs.Record.{state_bytes, summary, authenticator}
use Rattle.answers.specs.Accepting.{Passing}
use Rattle.answers.specs.Edition.{design}
use Rattle.answers.proofs.Tests.{offer}
use Rattle.memoir.specs.Instance.{constants}
use Rattle.memoir.specs.Actions.{Possible}
use Rattle.memoir.proofs.Answers.{binding_of, offered-binding}

-- the report's test of an offered record's authenticator
abbrev pub Validates : Form → List ℕ → List ℕ → Type 0
Validates f page l = (constants f).ValidateMAC (page_key page) (binding_of f (summary f l) (state_bytes f l)) (authenticator f l) ≡ true

module _ (f : Form) (page l request answer led : List ℕ) where
  pub validates : (state : List ℕ) → Passing (design f) page l request answer led state → Validates f page l
  validates state p = (same_iff _ _).1 (p.authentic ∙ ap (λ (b : List ℕ). authenticator_of (page_key page) [] b) (sym (offered-binding f l)))

  pub passes : (can : Possible f page l request answer) → Validates f page l → led ≡ page_summary page → Passing (design f) page l request answer led can.state
  passes can valid current =
      let o = offer (design f) page l request answer can.passed in
      record {
        right = o.right;
        room = o.room;
        tests = o.tests;
        formed = o.formed;
        authentic = (same_iff _ _).0 valid ∙ ap (λ (b : List ℕ). authenticator_of (page_key page) [] b) (offered-binding f l);
        current = current;
        carries = can.carries;
      }
