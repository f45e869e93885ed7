-- A path is a list of requests, the newest first; its end is the summary that they lead to from 32 zero bytes, one after the other.
-- The idea: among messages of which no two share a hash and none hashes to zero, a summary is the end of one path only, since each
-- message gives back the summary before it and the request. Assumes nothing.
use mathlib.Core.Path.{◌≡◌, refl, sym, ap, ap₂, ◌∙◌}
use Prim.Native.Nat.{ℕ, suc}
use native.Mathlib.Omega.{arith}
use mathlib.Core.List.{List, [], ◌∷◌, ◌++◌, reverse, reverse-cons, Memᴰ}
use lib.ListN.{length, take, drop}
use lib.Seq.{take_at, drop_at}
use Rattle.records.specs.Page.{hash_size, zero_summary}
use Rattle.bindings.specs.Hashed.{summary_message, binding_message}
use Rattle.answers.specs.Design.{Design, Served}
use Rattle.answers.specs.Hashing.{next_summary, state_hash, bound_message, binding_of}
use Rattle.answers.specs.Rows.{summary_along, messages_along, then_served, served_along, replayed}
use Rattle.histories.specs.Laws.{Laws}
use Rattle.histories.specs.Premises.{Apart}

-- ---- lists

-- what is in one list is in another
abbrev pub Within : List (List ℕ) → List (List ℕ) → Type 0
Within a b = (x : List ℕ) → Memᴰ x a → Memᴰ x b

-- equal lists whose first parts are of one length have equal parts
parts_equal : (n : ℕ) (a b c d : List ℕ) → length a ≡ n → length b ≡ n → a ++ c ≡ b ++ d → (a ≡ b) × (c ≡ d)
parts_equal n a b c d long short e =
    (sym (take_at a c n long) ∙ ap (take n) e ∙ take_at b d n short, sym (drop_at a c n long) ∙ ap (drop n) e ∙ drop_at b d n short)

-- a list is never itself with one element more
pub no_longer : (x : List ℕ) (l : List (List ℕ)) → x ∷ l ≡ l → ⊥
no_longer x l e = let long : suc (length l) ≡ length l = ap length e in omega arith

-- ---- the end of a path, and its messages

abbrev pub end_of : Design → List (List ℕ) → List ℕ
end_of D [] = zero_summary
end_of D (request ∷ before) = next_summary D (end_of D before) request

-- each message on the way is one of `messages`
abbrev pub Walked : Design → List (List ℕ) → List (List ℕ) → Type 0
Walked D messages [] = Unit {0}
Walked D messages (request ∷ before) = Memᴰ (summary_message (end_of D before) request) messages × Walked D messages before

-- the messages of a next summary, and of a binding, give back their parts
summary_parts : (s t q r : List ℕ) → length s ≡ hash_size → length t ≡ hash_size → summary_message s q ≡ summary_message t r → (s ≡ t) × (q ≡ r)
summary_parts s t q r long short e = parts_equal hash_size s t q r long short (ap (drop 1) e)

binding-parts : (s t g h : List ℕ) → length s ≡ hash_size → length t ≡ hash_size → binding_message s g ≡ binding_message t h → (s ≡ t) × (g ≡ h)
binding-parts s t g h long short e = parts_equal hash_size s t g h long short (ap (drop 1) e)

-- a summary takes 32 bytes
pub length_end : (D : Design) → Laws D → (p : List (List ℕ)) → length (end_of D p) ≡ hash_size
unfolding zero_summary
length_end D laws [] = refl
length_end D laws (request ∷ before) = laws.length-hash (summary_message (end_of D before) request)

-- ---- a row of requests, in order, put onto a path

abbrev pub onto : List (List ℕ) → List (List ℕ) → List (List ℕ)
onto p [] = p
onto p (request ∷ row) = onto (request ∷ p) row

pub end_onto : (D : Design) (p row : List (List ℕ)) → summary_along D (end_of D p) row ≡ end_of D (onto p row)
end_onto D p [] = refl
end_onto D p (request ∷ row) = end_onto D (request ∷ p) row

pub walked_onto : (D : Design) (messages p row : List (List ℕ)) → Walked D messages p → Within (messages_along D (end_of D p) row) messages
    → Walked D messages (onto p row)
walked_onto D messages p [] w all = w
walked_onto D messages p (request ∷ row) w all =
    walked_onto D messages (request ∷ p) row (all _ (Memᴰ.head refl), w) (λ x m. all x (Memᴰ.tail m))

-- what the requests of a path give, in order
abbrev pub given : Design → List (List ℕ) → Served
given D path = replayed D (reverse path)

served-append : (D : Design) (s : Served) (row more : List (List ℕ)) → served_along D s (row ++ more) ≡ served_along D (served_along D s row) more
served-append D s [] more = refl
served-append D s (request ∷ row) more = served-append D (then_served D request s) row more

pub given_more : (D : Design) (request : List ℕ) (path : List (List ℕ)) → given D (request ∷ path) ≡ then_served D request (given D path)
given_more D request path = rw (reverse-cons request path) (served-append D (Served.carried D.first_bytes) (reverse path) (request ∷ []))

pub given_onto : (D : Design) (p row : List (List ℕ)) → served_along D (given D p) row ≡ given D (onto p row)
given_onto D p [] = refl
given_onto D p (request ∷ row) = ap (λ (s : Served). served_along D s row) (sym (given_more D request p)) ∙ given_onto D (request ∷ p) row

-- ---- among messages that are apart

module _ (D : Design) (laws : Laws D) (messages : List (List ℕ)) (clear : Apart D messages) where
  -- equal ends, equal paths
  pub one_path : (p q : List (List ℕ)) → Walked D messages p → Walked D messages q → end_of D p ≡ end_of D q → p ≡ q
  one_path [] [] w v e = refl
  one_path [] (r ∷ q) w v e = absurd (clear.nonzero (summary_message (end_of D q) r) v.0 (sym e))
  one_path (r ∷ p) [] w v e = absurd (clear.nonzero (summary_message (end_of D p) r) w.0 e)
  one_path (r ∷ p) (s ∷ q) w v e =
      let alike : summary_message (end_of D p) r ≡ summary_message (end_of D q) s = clear.apart _ _ w.0 v.0 e in
      let parts = summary_parts (end_of D p) (end_of D q) r s (length_end D laws p) (length_end D laws q) alike in
      ap₂ {C = List (List ℕ)} (λ x y. x ∷ y) parts.1 (one_path p q w.1 v.1 parts.0)

  -- no request leads back to the summary that it starts from
  pub never_back : (r : List ℕ) (p : List (List ℕ)) → Walked D messages (r ∷ p) → end_of D (r ∷ p) ≡ end_of D p → ⊥
  never_back r p w e = no_longer r p (one_path (r ∷ p) p w w.1 e)

  -- equal bindings, equal summaries and states
  pub one_state : (s t a b : List ℕ) → length s ≡ hash_size → length t ≡ hash_size
      → Memᴰ (D.state_message a) messages → Memᴰ (bound_message D s a) messages
      → Memᴰ (D.state_message b) messages → Memᴰ (bound_message D t b) messages
      → binding_of D s a ≡ binding_of D t b → (s ≡ t) × (a ≡ b)
  one_state s t a b long short sa ma sb mb e =
      let alike : bound_message D s a ≡ bound_message D t b = clear.apart _ _ ma mb e in
      let parts = binding-parts s t (state_hash D a) (state_hash D b) long short alike in
      (parts.0, laws.states_apart a b (clear.apart _ _ sa sb parts.1))
