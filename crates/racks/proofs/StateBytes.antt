-- A state and its bytes, for every number of racks: how many bytes, reading back what was written, writing back what was read, and
-- the bytes with one rack changed. The idea: rack by rack. Assumes nothing.
use mathlib.Core.Path.{◌≡◌, refl, sym, ap, ◌∙◌}
use Prim.Native.Nat.{ℕ, zero, suc, ◌+◌, ◌*◌, ◌≤◌, ◌<◌}
use native.Mathlib.Omega.{arith}
use mathlib.Core.List.{List, [], ◌∷◌, map}
use lib.ListN.{length, set, replicate}
use Rattle.numbers.specs.Numbers.{Bytes}
use Rattle.numbers.specs.Parts.{part, over, size, cut_at}
use Rattle.numbers.proofs.Bytes.{bytes-nil, bytes-append, bytes-part}
use Rattle.numbers.proofs.Parts.{length_part}
use Rattle.numbers.proofs.Layouts.{length-join, join-cut_at, cut_at-join}
use Rattle.racks.specs.declared.Rack.{Rack}
use Rattle.racks.specs.Racks.{State, rack_at}
use Rattle.racks.specs.Layout.{rack_size, rack_of, bytes_of_rack, state_of, bytes_of_state, FitsWidths}
use Rattle.numbers.proofs.Forms.{part-whole}
use Rattle.numbers.proofs.Laying.{over_all, over-front, over-behind}
use Rattle.numbers.proofs.Slots.{size_replicate}
use Rattle.racks.proofs.RackBytes.{length-bytes_of_rack, bytes-bytes_of_rack, rack_of-bytes_of_rack, bytes_of_rack-rack_of}
use Rattle.racks.proofs.StatePlaces.{racks_from}

-- the bytes of racks have the widths of racks
widths_state : (s : State) → map length (map bytes_of_rack s) ≡ replicate (length s) rack_size
widths_state [] = refl
widths_state (r ∷ s) = rw (length-bytes_of_rack r, widths_state s)

-- a state takes as many bytes as its racks
pub length-bytes_of_state : (s : State) → length (bytes_of_state s) ≡ length s * rack_size
unfolding bytes_of_state
length-bytes_of_state s = length-join (map bytes_of_rack s) ∙ ap size (widths_state s) ∙ size_replicate (length s) rack_size

-- they are bytes
pub bytes-bytes_of_state : (s : State) → Bytes (bytes_of_state s)
unfolding bytes_of_state
bytes-bytes_of_state [] = bytes-nil
bytes-bytes_of_state (r ∷ s) = bytes-append (bytes_of_rack r) (bytes_of_state s) (bytes-bytes_of_rack r) (bytes-bytes_of_state s)

-- with rack i changed, its bytes are laid over those that were there
pub bytes_of_state-set : (s : State) (i : ℕ) (r : Rack) → i < length s
    → bytes_of_state (set s i r) ≡ over (i * rack_size) (bytes_of_rack r) (bytes_of_state s)
unfolding bytes_of_state
bytes_of_state-set [] i r h = absurd (omega arith)
bytes_of_state-set (q ∷ s) zero r h =
    let same : length (bytes_of_rack r) ≡ length (bytes_of_rack q) = length-bytes_of_rack r ∙ sym (length-bytes_of_rack q) in
    let fits : 0 + length (bytes_of_rack r) ≤ length (bytes_of_rack q) = omega arith in
    rw (over-front 0 (bytes_of_rack r) (bytes_of_rack q) (bytes_of_state s) fits, over_all (bytes_of_rack r) (bytes_of_rack q) same)
bytes_of_state-set (q ∷ s) (suc i) r h =
    let place : suc i * rack_size ≡ length (bytes_of_rack q) + i * rack_size = omega (arith, length-bytes_of_rack q) in
    rw (place, over-behind, bytes_of_state-set s i r (omega arith))

-- each rack is read back as it was written
racks_read : (s : State) → ((i : ℕ) → FitsWidths (rack_at s i)) → map rack_of (map bytes_of_rack s) ≡ s
racks_read [] held = refl
racks_read (r ∷ s) held = rw (rack_of-bytes_of_rack r (held 0), racks_read s (λ i. held (suc i)))

-- a state of racks that the widths hold is read back as it was written
pub state_of-bytes_of_state : (n : ℕ) (s : State) → length s ≡ n → ((i : ℕ) → FitsWidths (rack_at s i)) → state_of n (bytes_of_state s) ≡ s
unfolding state_of bytes_of_state
state_of-bytes_of_state n s e held =
    let widths : map length (map bytes_of_rack s) ≡ replicate n rack_size = rw e at (widths_state s) in
    let wide : length (bytes_of_state s) ≡ size (replicate n rack_size) = rw (size_replicate n rack_size, ← e) (length-bytes_of_state s) in
    let cut = cut_at-join 0 (replicate n rack_size) (bytes_of_state s) (map bytes_of_rack s) widths (part-whole _ (bytes_of_state s) wide) in
    ap (map rack_of) cut ∙ racks_read s held

-- each rack is written back as it was read
racks-written : (from n : ℕ) (l : List ℕ) → Bytes l → from + n * rack_size ≤ length l
    → map bytes_of_rack (racks_from from n l) ≡ cut_at from (replicate n rack_size) l
racks-written from zero l bytes fits = refl
racks-written from (suc n) l bytes fits =
    let here : from + rack_size ≤ length l = omega arith in
    let first = bytes_of_rack-rack_of (part from rack_size l) (bytes-part from rack_size l bytes) (length_part from rack_size l here) in
    rw (first, racks-written (from + rack_size) n l bytes (omega arith))

-- a state's bytes are written back as they were read
pub bytes_of_state-state_of : (n : ℕ) (l : List ℕ) → Bytes l → length l ≡ n * rack_size → bytes_of_state (state_of n l) ≡ l
unfolding state_of bytes_of_state
bytes_of_state-state_of n l bytes e =
    rw (racks-written 0 n l bytes (omega arith), join-cut_at, size_replicate) (part-whole (n * rack_size) l e)
