-- A form cut out of a part, written back as it was read, and joined as bytes, whatever its widths.
-- The idea: one field, and the fields behind it. Assumes nothing.
use mathlib.Core.Path.{◌≡◌, refl, ap}
use Prim.Native.Nat.{ℕ, suc, ◌+◌, ◌≤◌}
use native.Mathlib.Nat.{le_refl}
use native.Mathlib.Omega.{arith}
use mathlib.Core.List.{List, [], ◌∷◌, map}
use lib.ListN.{length}
use lib.Seq.{take_all}
use Rattle.numbers.specs.Numbers.{be, Bytes}
use Rattle.numbers.specs.Parts.{part, size, cut_at, fields_of, join}
use Rattle.numbers.proofs.Numbers.{length-bytes_of, bytes_of-be}
use Rattle.numbers.proofs.Bytes.{bytes-nil, bytes-append, bytes-part, bytes-bytes_of}
use Rattle.numbers.proofs.Parts.{length_part, part-part}

-- the whole is a part
pub part-whole : (n : ℕ) (l : List ℕ) → length l ≡ n → part 0 n l ≡ l
unfolding part
part-whole n l e = take_all n l (rw e (le_refl n))

-- a form cut out of a part is cut out of the whole
pub cut_at-part : (from n at : ℕ) (ws l : List ℕ) → at + size ws ≤ n → cut_at at ws (part from n l) ≡ cut_at (from + at) ws l
cut_at-part from n at [] l fits = refl
cut_at-part from n at (w ∷ ws) l fits =
    let next : from + (at + w) ≡ from + at + w = omega arith in
    let room : at + w ≤ n = omega arith in
    rw (part-part from n at w l room, cut_at-part from n (at + w) ws l (omega arith), next)

-- as many parts as widths
pub length-cut_at : (at : ℕ) (ws l : List ℕ) → length (cut_at at ws l) ≡ length ws
length-cut_at at [] l = refl
length-cut_at at (w ∷ ws) l = ap suc (length-cut_at (at + w) ws l)

-- numbers written in widths, one for each, have these widths
pub widths_fields_of : (ws xs : List ℕ) → length xs ≡ length ws → map length (fields_of ws xs) ≡ ws
widths_fields_of [] xs e = refl
widths_fields_of (w ∷ ws) [] e = absurd (omega arith)
widths_fields_of (w ∷ ws) (x ∷ xs) e = rw (length-bytes_of w x, widths_fields_of ws xs (omega arith))

-- the parts of l, read as numbers and written again, are the parts of l
pub fields_of-cut_at : (at : ℕ) (ws l : List ℕ) → Bytes l → at + size ws ≤ length l → fields_of ws (map be (cut_at at ws l)) ≡ cut_at at ws l
fields_of-cut_at at [] l bytes fits = refl
fields_of-cut_at at (w ∷ ws) l bytes fits =
    let first = bytes_of-be w (part at w l) (length_part at w l (omega arith)) (bytes-part at w l bytes) in
    rw (first, fields_of-cut_at (at + w) ws l bytes (omega arith))

-- each of the parts is one of bytes
abbrev pub AllBytes : List (List ℕ) → Type 0
AllBytes [] = Unit {0}
AllBytes (p ∷ ps) = Bytes p × AllBytes ps

-- so are they joined
pub bytes-join : (ps : List (List ℕ)) → AllBytes ps → Bytes (join ps)
bytes-join [] all = bytes-nil
bytes-join (p ∷ ps) all = bytes-append p (join ps) all.0 (bytes-join ps all.1)

-- as those are that numbers make
pub bytes-fields_of : (ws xs : List ℕ) → AllBytes (fields_of ws xs)
bytes-fields_of [] xs = tt
bytes-fields_of (w ∷ ws) [] = tt
bytes-fields_of (w ∷ ws) (x ∷ xs) = (bytes-bytes_of w x, bytes-fields_of ws xs)
