-- What laying comes to: of nothing, over all, behind or in front of other elements, inside a part, and part after part.
-- The idea: a list with v laid in it is what stands before, v, and what stands behind. Assumes nothing.
use mathlib.Core.Path.{◌≡◌, refl, sym, ap, ◌∙◌}
use Prim.Native.Nat.{ℕ, ◌+◌, ◌≤◌}
use native.Mathlib.Nat.{zero-add, add-zero, add_assoc}
use native.Mathlib.Omega.{arith}
use mathlib.Core.List.{List, [], ◌∷◌, ◌++◌, append-nil, append_assoc}
use lib.ListN.{length, take, drop, length-append, take-append-drop}
use lib.Seq.{length-take-le, drop-length, take_at, drop_at, take-append-le, drop-append-le, take-append-add, drop-append-add}
use Rattle.numbers.specs.Parts.{part, over, join}
use Rattle.numbers.proofs.Parts.{length_part, length_over, over-over}

-- nothing laid
pub over_nothing : (at : ℕ) (d : List ℕ) → over at [] d ≡ d
unfolding over
over_nothing at d = rw (append-nil, add-zero, take-append-drop)

-- laid over all of d
pub over_all : (v d : List ℕ) → length v ≡ length d → over 0 v d ≡ v
unfolding over
over_all v d e = rw (zero-add, e, drop-length) (append-nil v)

-- laid behind p, where the places count from the start of p
pub over-behind : (at : ℕ) (v p d : List ℕ) → over (length p + at) v (p ++ d) ≡ p ++ over at v d
unfolding over
over-behind at v p d = rw (take-append-add, add_assoc, drop-append-add) (simp append_assoc)

-- laid inside d, in front of q
pub over-front : (at : ℕ) (v d q : List ℕ) → at + length v ≤ length d → over at v (d ++ q) ≡ over at v d ++ q
unfolding over
over-front at v d q fits =
    let before : at ≤ length d = omega arith in
    rw (take-append-le at d q before, drop-append-le (at + length v) d q fits) (simp append_assoc)

-- what stands between a and b is a part
part_between : (from n : ℕ) (a p b : List ℕ) → length a ≡ from → length p ≡ n → part from n (a ++ (p ++ b)) ≡ p
unfolding part
part_between from n a p b ea ep = rw (drop_at a (p ++ b) from ea) (take_at p b n ep)

-- v is laid inside the n elements from `from` on, `at` elements behind the first of them
module _ (from n at : ℕ) (v d : List ℕ) (room : at + length v ≤ n) (fits : from + n ≤ length d) where
  length_ahead : length (take from d) ≡ from
  length_ahead = length-take-le from d (omega arith)

  inside : at + length v ≤ length (part from n d)
  inside = rw (length_part from n d fits) room

  -- the whole is as it was before and behind that part
  over-inside : over (from + at) v d ≡ take from d ++ (over at v (part from n d) ++ drop n (drop from d))
  unfolding part
  over-inside =
      let split : d ≡ take from d ++ (part from n d ++ drop n (drop from d)) = rw (take-append-drop, take-append-drop) in
      let behind = rw length_ahead at (over-behind at v (take from d) (part from n d ++ drop n (drop from d))) in
      ap (over (from + at) v) split ∙ behind ∙ rw (over-front at v (part from n d) (drop n (drop from d)) inside)

  -- the part is the part that was, with v laid in it
  pub part-over-inside : part from n (over (from + at) v d) ≡ over at v (part from n d)
  part-over-inside =
      let wide : length (over at v (part from n d)) ≡ n = length_over at v (part from n d) inside ∙ length_part from n d fits in
      rw over-inside (part_between from n (take from d) (over at v (part from n d)) (drop n (drop from d)) length_ahead wide)

-- d with the parts laid one behind the other, from `at` on
abbrev pub lay_at : ℕ → List (List ℕ) → List ℕ → List ℕ
lay_at at [] d = d
lay_at at (p ∷ ps) d = lay_at (at + length p) ps (over at p d)

-- is d with them laid as one
pub lay_at_join : (at : ℕ) (ps : List (List ℕ)) (d : List ℕ) → at + length (join ps) ≤ length d → lay_at at ps d ≡ over at (join ps) d
lay_at_join at [] d fits = sym (over_nothing at d)
lay_at_join at (p ∷ ps) d fits =
    let all : length (p ++ join ps) ≡ length p + length (join ps) = length-append p (join ps) in
    let here : at + length p ≤ length d = omega arith in
    let kept = length_over at p d here in
    lay_at_join (at + length p) ps (over at p d) (omega arith) ∙ over-over at (length p) p d refl here (join ps)
