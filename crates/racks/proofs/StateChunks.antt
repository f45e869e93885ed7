-- Bytes gone through rack by rack: the whole racks in them, in order, are the state that they stand for.
-- The idea: behind the first rack lies the state of the bytes that are left. Assumes nothing.
use mathlib.Core.Path.{◌≡◌, sym, ap, ◌∙◌}
use Prim.Native.Nat.{ℕ, zero, suc, ◌+◌, ◌*◌, ◌/◌, ◌^◌, ◌≤◌}
use native.Mathlib.Omega.{arith}
use mathlib.Core.List.{List, ◌∷◌, ◌++◌}
use lib.ListN.{length, length-append}
use lib.Seq.{take_at, drop_at}
use Rattle.std.specs.Slice.Iter.{chunks_exact_rest, chunks_exact_size, chunks_exact_steps}
use Rattle.std.proofs.lemmas.Iterator.{YieldsList}
use Rattle.std.proofs.lemmas.Iterator.Splits.{YieldsList-from_shown_while}
use Rattle.numbers.specs.Parts.{part}
use Rattle.numbers.specs.Numbers.{Bytes}
use Rattle.numbers.proofs.Numbers.{be-part-lt}
use Rattle.numbers.proofs.Bytes.{bytes-part}
use Rattle.numbers.proofs.Parts.{length_part}
use Rattle.numbers.proofs.Forms.{part-whole}
use Rattle.racks.specs.Layout.{rack_size, rack_of, state_of}
use Rattle.racks.specs.Figures.{total_stored}
use Rattle.racks.proofs.StatePlaces.{racks_from, state_of-part, length-state_of}

-- the bytes p of a rack, and others behind it
module _ (p q : List ℕ) (wide : length p ≡ rack_size) where
  part-behind : (n : ℕ) → part rack_size n (p ++ q) ≡ part 0 n q
  unfolding part
  part-behind n = rw (drop_at p q rack_size wide)

  racks_behind : (n : ℕ) → racks_from rack_size n (p ++ q) ≡ racks_from 0 n q
  racks_behind n = sym (state_of-part rack_size n (p ++ q)) ∙ ap (state_of n) (part-behind (n * rack_size)) ∙ state_of-part 0 n q

  first : part 0 rack_size (p ++ q) ≡ part 0 rack_size p
  unfolding part
  first = take_at p q rack_size wide ∙ sym (part-whole rack_size p wide)

  -- stand for the rack and what the others stand for
  state_of-append : state_of (length (p ++ q) / rack_size) (p ++ q) ≡ rack_of (part 0 rack_size p) ∷ state_of (length q / rack_size) q
  unfolding state_of
  state_of-append =
      let count : length (p ++ q) / rack_size ≡ suc (length q / rack_size) = omega (arith, length-append p q) in
      rw (count, first, racks_behind (length q / rack_size))

-- the chunks of a rack's size are the racks of the state
pub YieldsList-from_racks : {chunks : _} (l : List ℕ) → chunks_exact_rest chunks ≡ l → chunks_exact_size chunks ≡ rack_size
    → YieldsList (chunks_exact_steps {A = ℕ}) (λ x. rack_of (part 0 rack_size x.now)) chunks (state_of (length l / rack_size) l)
YieldsList-from_racks {chunks} l rest size =
    rw (← rest)
    (YieldsList-from_shown_while chunks_exact_steps (λ x. rack_of (part 0 rack_size x.now))
    (λ s. state_of (length (chunks_exact_rest s) / rack_size) (chunks_exact_rest s)) (λ s. chunks_exact_size s ≡ rack_size)
    (λ s t e h. length-state_of _ _ ∙ omega arith)
    (λ s x t e h. (h.0 ∙ e, rw h.1.0 (state_of-append x.now (chunks_exact_rest t) (h.1.1 ∙ e))))
    chunks size)

-- what n racks store, each in four bytes
total_racks_from-le : (from n : ℕ) (l : List ℕ) → Bytes l → from + n * rack_size ≤ length l → total_stored (racks_from from n l) ≤ n * 2 ^ 32
unfolding total_stored rack_of
total_racks_from-le from zero l bytes fits = omega arith
total_racks_from-le from (suc n) l bytes fits =
    let here = length_part from rack_size l (omega arith) in
    let first = be-part-lt 4 4 (part from rack_size l) (bytes-part from rack_size l bytes) (omega arith) in
    omega (arith, total_racks_from-le (from + rack_size) n l bytes (omega arith))

pub total-state_of-le : (n : ℕ) (l : List ℕ) → Bytes l → n * rack_size ≤ length l → total_stored (state_of n l) ≤ n * 2 ^ 32
unfolding state_of
total-state_of-le n l bytes fits = total_racks_from-le 0 n l bytes (omega arith)
