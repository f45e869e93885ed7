-- The premises of the third condition, of the run at hand: among the messages that this run hashed no two different ones share a hash
-- and none hashes to 32 zero bytes; and wherever in this run an authenticator is found valid, its binding was answered earlier in this
-- run. They are stated over which messages and which findings count, since the argument needs fewer than the condition names.
use Rattle.std.specs.Prelude.{◌≡◌, ℕ}
use mathlib.Core.List.{List, Memᴰ}
use Rattle.records.specs.Page.{zero_summary}
use Rattle.answers.specs.Design.{Design}
use Rattle.answers.specs.Hashing.{binding_in}
use Rattle.histories.specs.Folds.{AtEach}
use Rattle.histories.specs.Did.{Did}
use Rattle.histories.specs.Runs.{Run, done_by, in_run, answered_before}

-- no two different ones share a hash, and none hashes to 32 zero bytes
pub record Apart (D : Design) (messages : List (List ℕ)) : Type 0 where
  pub apart : (a b : List ℕ) → Memᴰ a messages → Memᴰ b messages → D.hash a ≡ D.hash b → a ≡ b
  pub nonzero : (a : List ℕ) → Memᴰ a messages → D.hash a ≡ zero_summary → ⊥

-- the binding of each record that a step finds valid was answered before that step
abbrev pub Unforged : (Did → List (List ℕ)) → Design → List ℕ → Run → Type 0
Unforged finds D fresh run =
    AtEach (λ older s. (l : List ℕ) → Memᴰ l (finds (done_by D fresh older s)) → Memᴰ (binding_in D l) (answered_before D fresh older)) run

-- the premises over some messages and findings
pub record PremisesOver (messages finds : Did → List (List ℕ)) (D : Design) (fresh : List ℕ) (run : Run) : Type 0 where
  pub hashes : Apart D (in_run messages D fresh run)
  pub unforged : Unforged finds D fresh run

-- the condition's own words: all messages that the calls hash, refused and cut calls too, and every authenticator found valid
abbrev pub Premises : Design → List ℕ → Run → Type 0
Premises = PremisesOver (λ d. d.hashed) (λ d. d.found)

-- what the argument needs
abbrev pub FewerPremises : Design → List ℕ → Run → Type 0
FewerPremises = PremisesOver (λ d. d.needed) (λ d. d.relied)

-- of the hashes alone: the afternoon and the duty need no word on authenticators
abbrev pub HashPremise : Design → List ℕ → Run → Type 0
HashPremise D fresh run = Apart D (in_run (λ d. d.hashed) D fresh run)

abbrev pub FewerHashPremise : Design → List ℕ → Run → Type 0
FewerHashPremise D fresh run = Apart D (in_run (λ d. d.needed) D fresh run)
