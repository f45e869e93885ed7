-- The racks of a state where they lie in bytes, for every number of racks: how many, rack i, and one rack laid over the others; in
-- bytes that are the state's alone, and in a part of longer ones.
-- The idea: a state is a form of n slots, wherever it starts. Assumes nothing.
use mathlib.Core.Path.{◌≡◌, refl, ◌∙◌}
use Prim.Native.Nat.{ℕ, ◌+◌, ◌*◌, ◌/◌, ◌≤◌, ◌<◌}
use native.Mathlib.Nat.{add-zero, zero-add}
use native.Mathlib.Decide.{ℕ_discrete}
use native.Mathlib.Omega.{arith}
use mathlib.Core.List.{List, [], map}
use lib.ListN.{length, set, replicate, length-map, length-replicate, length-set, get_or-map}
use lib.Seq.{ext_get_or, get_or-set_same, get_or-set_other}
use Rattle.numbers.specs.Numbers.{be, be_from}
use Rattle.numbers.specs.Parts.{part, over, size, cut_at}
use Rattle.numbers.proofs.Parts.{part-over}
use Rattle.racks.specs.declared.Rack.{Rack}
use Rattle.racks.specs.Racks.{State, empty_rack, rack_at}
use Rattle.racks.specs.Layout.{rack_size, rack_of, bytes_of_rack, state_of, FitsWidths}
use Rattle.numbers.proofs.Forms.{cut_at-part, length-cut_at}
use Rattle.numbers.proofs.Slots.{size_replicate, get_d_cut_at, other_slot}
use Rattle.racks.proofs.RackBytes.{length-bytes_of_rack, rack_of-bytes_of_rack}

-- the n racks that lie in l from a place on
abbrev pub racks_from : ℕ → ℕ → List ℕ → State
racks_from from n l = map rack_of (cut_at from (replicate n rack_size) l)

-- the state of a part is what lies there
pub state_of-part : (from n : ℕ) (l : List ℕ) → state_of n (part from (n * rack_size) l) ≡ racks_from from n l
unfolding state_of
state_of-part from n l =
    let fits : 0 + size (replicate n rack_size) ≤ n * rack_size = omega (arith, size_replicate n rack_size) in
    rw (cut_at-part from (n * rack_size) 0 (replicate n rack_size) l fits, add-zero)

-- they are n
length_racks_from : (from n : ℕ) (l : List ℕ) → length (racks_from from n l) ≡ n
length_racks_from from n l = rw (length-map, length-cut_at, length-replicate)

-- no bytes stand for the empty rack, which is what is found behind the last
rack_of-nothing : rack_of [] ≡ empty_rack
unfolding rack_of part be be_from
rack_of-nothing = refl

-- rack i lies in slot i
rack_at_racks_from : (from n i : ℕ) (l : List ℕ) → i < n → rack_at (racks_from from n l) i ≡ rack_of (part (from + i * rack_size) rack_size l)
rack_at_racks_from from n i l h =
    let fields = cut_at from (replicate n rack_size) l in
    rw (← rack_of-nothing, get_or-map rack_of fields i [], get_d_cut_at n rack_size from i l h)

-- a rack r is laid in slot i
module _ (from n i : ℕ) (r : Rack) (l : List ℕ) (inside : i < n) (held : FitsWidths r) (fits : from + n * rack_size ≤ length l) where
  -- l after that
  abbrev laid : List ℕ
  laid = over (from + i * rack_size) (bytes_of_rack r) l

  -- what lies in slot j is r or what lay there
  rack_at_laid : (j : ℕ) → j < n → rack_at (racks_from from n laid) j ≡ rack_at (set (racks_from from n l) i r) j
  rack_at_laid j h = rack_at_racks_from from n j laid h ∙ same-or-other (ℕ_discrete j i)
    where
      room : from + i * rack_size + rack_size ≤ length l
      room = omega arith

      same-or-other : Dec (j ≡ i) → rack_of (part (from + j * rack_size) rack_size laid) ≡ rack_at (set (racks_from from n l) i r) j
      same-or-other (yes e) =
          let here : i < length (racks_from from n l) = rw length_racks_from inside in
          rw (e, part-over (from + i * rack_size) rack_size (bytes_of_rack r) l (length-bytes_of_rack r) room, get_or-set_same _ i r empty_rack here)
          (rack_of-bytes_of_rack r held)
      same-or-other (no other) =
          rw (other_slot from i rack_size (bytes_of_rack r) l (length-bytes_of_rack r) room j other, get_or-set_other _ i j r empty_rack other)
          (rw (rack_at_racks_from from n j l h))

  -- the racks are as they were, but for rack i, which is r
  racks_from_over : racks_from from n laid ≡ set (racks_from from n l) i r
  racks_from_over = ext_get_or empty_rack _ _ (simp (length-set, length_racks_from)) (λ j h. rack_at_laid j (rw length_racks_from at h))

-- the state is in a part of l
module _ (from n : ℕ) (l : List ℕ) where
  -- rack i
  pub rack_at-part : (i : ℕ) → i < n → rack_at (state_of n (part from (n * rack_size) l)) i ≡ rack_of (part (from + i * rack_size) rack_size l)
  rack_at-part i h = rw state_of-part (rack_at_racks_from from n i l h)

  -- with r laid in slot i
  pub state_of-over-part : (i : ℕ) (r : Rack) → i < n → FitsWidths r → from + n * rack_size ≤ length l
      → state_of n (part from (n * rack_size) (over (from + i * rack_size) (bytes_of_rack r) l)) ≡ set (state_of n (part from (n * rack_size) l)) i r
  state_of-over-part i r h held fits = simp state_of-part (racks_from_over from n i r l h held fits)

-- the state is in l from the start
module _ (n : ℕ) (l : List ℕ) where
  -- bytes of n racks say that there are n
  pub state_of_count : length l ≡ n * rack_size → state_of (length l / rack_size) l ≡ state_of n l
  state_of_count e =
      let count : length l / rack_size ≡ n = omega arith in
      rw count

  -- n racks
  pub length-state_of : length (state_of n l) ≡ n
  unfolding state_of
  length-state_of = length_racks_from 0 n l

  -- rack i
  pub rack_at-state_of : (i : ℕ) → i < n → rack_at (state_of n l) i ≡ rack_of (part (i * rack_size) rack_size l)
  unfolding state_of
  rack_at-state_of i h = rw zero-add at (rack_at_racks_from 0 n i l h)

  -- with r laid in slot i
  pub state_of-over : (i : ℕ) (r : Rack) → i < n → FitsWidths r → n * rack_size ≤ length l
      → state_of n (over (i * rack_size) (bytes_of_rack r) l) ≡ set (state_of n l) i r
  unfolding state_of
  state_of-over i r h held fits = rw zero-add at (racks_from_over 0 n i r l h held (omega arith))
