-- What equal hashes say, over any design, where the hash tells the two messages apart: equal bindings are of one summary and one
-- state hash, equal next summaries are of one summary and one request, whatever the request's length, and equal state hashes are of
-- one state. The idea: a tag and 32 bytes of summary stand before the rest. Assumes nothing.
use mathlib.Core.Path.{◌≡◌, refl}
use Prim.Native.Nat.{ℕ}
use native.Mathlib.Omega.{arith}
use mathlib.Core.List.{List, [], ◌∷◌, ◌++◌}
use lib.ListN.{length}
use Rattle.bindings.specs.Hashed.{summary_tag, binding_tag, summary_message}
use Rattle.records.specs.Page.{hash_size}
use Rattle.answers.specs.Design.{Design}
use Rattle.answers.specs.Hashing.{state_hash, next_summary, bound_message, binding_of}

-- two lists with fronts of one length
fronts : (a b c d : List ℕ) → length a ≡ length b → a ++ c ≡ b ++ d → (a ≡ b) × (c ≡ d)
fronts [] [] c d wide e = (refl, e)
fronts [] (y ∷ b) c d wide e = absurd (omega arith)
fronts (x ∷ a) [] c d wide e = absurd (omega arith)
fronts (x ∷ a) (y ∷ b) c d wide e =
    let tails : a ++ c ≡ b ++ d = cc in
    let both = fronts a b c d (omega arith) tails in
    let heads : x ≡ y = cc in
    (cc, both.1)

-- two messages of one tag, with a summary of 32 bytes in front
parts : (tag : ℕ) (s t a b : List ℕ) → length s ≡ hash_size → length t ≡ hash_size → tag ∷ (s ++ a) ≡ tag ∷ (t ++ b) → (s ≡ t) × (a ≡ b)
parts tag s t a b p q e =
    let behind : s ++ a ≡ t ++ b = cc in
    fronts s t a b (omega arith) behind

module _ (D : Design) (s t : List ℕ) (p : length s ≡ hash_size) (q : length t ≡ hash_size) where
  -- a binding is of one summary and one state hash
  pub bindings_apart : (a b : List ℕ) → (D.hash (bound_message D s a) ≡ D.hash (bound_message D t b) → bound_message D s a ≡ bound_message D t b)
      → binding_of D s a ≡ binding_of D t b → (s ≡ t) × (state_hash D a ≡ state_hash D b)
  bindings_apart a b tells e = parts binding_tag s t (state_hash D a) (state_hash D b) p q (tells e)

  -- a next summary is of one summary and one request
  pub summaries_apart : (a b : List ℕ) → (D.hash (summary_message s a) ≡ D.hash (summary_message t b) → summary_message s a ≡ summary_message t b)
      → next_summary D s a ≡ next_summary D t b → (s ≡ t) × (a ≡ b)
  summaries_apart a b tells e = parts summary_tag s t a b p q (tells e)

-- a state hash is of one state, where different states are hashed as different messages
pub states_apart : (D : Design) → ((a b : List ℕ) → D.state_message a ≡ D.state_message b → a ≡ b)
    → (a b : List ℕ) → (D.hash (D.state_message a) ≡ D.hash (D.state_message b) → D.state_message a ≡ D.state_message b)
    → state_hash D a ≡ state_hash D b → a ≡ b
states_apart D messages a b tells e = messages a b (tells e)
