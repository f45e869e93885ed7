-- What an accepted perform or repeat has written, in the report's words: the service's new state, the next summary, and the MAC of their
-- binding under the page's key; and its figure is the service's output. Assumes nothing.
use mathlib.Core.Path.{◌≡◌, sym, ap, ap₂, ◌∙◌}
use Prim.Native.Nat.{ℕ}
use mathlib.Core.List.{List, [], ◌∷◌, ◌++◌}
use Rattle.sha256.specs.Computation.{sha256}
use Rattle.bindings.specs.Hashed.{binding_message, authenticator_of}
use Rattle.records.specs.Form.{Form}
use Rattle.records.specs.Page.{page_key}
use Rattle.records.specs.Record.{state_bytes, summary, authenticator}
use Rattle.answers.specs.Hashing.{next_summary, binding_in}
use Rattle.answers.specs.Answers.{Performed}
use Rattle.answers.specs.Edition.{design, served_bytes, stored_after}
use Rattle.answers.specs.Written.{Answered}
use Rattle.memoir.specs.Primitives.{ServiceResult}
use Rattle.memoir.specs.Instance.{result_of}
use Rattle.memoir.specs.Actions.{written}
use Rattle.memoir.proofs.Variables.{state_hash_lem}

-- what the service gives for what was offered
abbrev pub served : Form → List ℕ → List ℕ → ServiceResult
served f l request = result_of f (state_bytes f l) request (served_bytes f.racks (state_bytes f l) request)

-- a binding as the report forms it, of a summary and a public state
abbrev pub binding_of : Form → List ℕ → List ℕ → List ℕ
binding_of f s state = sha256 (binding_message s (sha256 (f.tag ∷ state ++ [])))

-- that of the record offered is 01's
pub offered-binding : (f : Form) (l : List ℕ) → binding_of f (summary f l) (state_bytes f l) ≡ binding_in (design f) l
offered-binding f l = ap (λ (h : List ℕ). sha256 (binding_message (summary f l) h)) (state_hash_lem f (state_bytes f l))

module _ (f : Form) (page l request answer : List ℕ) (p : Performed) (a : Answered (design f) l request answer p) where
  pub new_state : state_bytes f (written f p.answer) ≡ (served f l request).new_public_state
  new_state = a.wrote.reads.state_is ∙ ap (λ s. (result_of f (state_bytes f l) request s).new_public_state) (sym a.carries)

  pub new_summary : summary f (written f p.answer) ≡ next_summary (design f) (summary f l) request
  new_summary = a.wrote.reads.summary_is

  pub new_authenticator_lem : (s : List ℕ) → next_summary (design f) (summary f l) request ≡ s → page_key p.page ≡ page_key page
      → authenticator f (written f p.answer) ≡ authenticator_of (page_key page) [] (binding_of f s (served f l request).new_public_state)
  new_authenticator_lem s next key =
      let state : a.state ≡ (served f l request).new_public_state = ap (λ r. (result_of f (state_bytes f l) request r).new_public_state) (sym a.carries) in
      a.wrote.reads.authenticator_is
      ∙ ap₂ (λ (k h : List ℕ). authenticator_of k [] (sha256 (binding_message (next_summary (design f) (summary f l) request) h))) key (sym (state_hash_lem f a.state))
      ∙ ap₂ (λ (u t : List ℕ). authenticator_of (page_key page) [] (binding_of f u t)) next state

  pub new_output : p.stored ≡ (served f l request).output
  new_output =
      let output : stored_after f.racks a.state request ≡ (served f l request).output = ap (λ s. (result_of f (state_bytes f l) request s).output) (sym a.carries) in
      a.figure ∙ output
