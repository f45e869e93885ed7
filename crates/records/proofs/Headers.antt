-- A number compared as bytes: a field that holds the bytes of x is one whose number is x; and the fixed header compared so.
-- Assumes nothing.
use mathlib.Core.Path.{◌≡◌, refl, sym, ap, ap₂, ◌∙◌}
use mathlib.Core.Bool.{Bool, true, false, false≢true, ◌&&◌, and-eq-true_iff}
use Prim.Native.Nat.{ℕ, ◌^◌, ◌<◌}
use native.Mathlib.Nat.{zero-add}
use native.Mathlib.Omega.{arith}
use mathlib.Core.List.{List, [], ◌∷◌}
use lib.ListN.{length, get_or, take, drop}
use lib.Seq.{take_at, drop-cons}
use lib.Dec.{eqb}
use borrow.Author.Tests.{eqb-true, eq-eqb, ne_eqb}
use Rattle.numbers.specs.Numbers.{be, bytes_of, Bytes}
use Rattle.numbers.specs.Parts.{part, join}
use Rattle.numbers.specs.Comparing.{same}
use Rattle.numbers.proofs.Numbers.{length-bytes_of, be-bytes_of, bytes_of-be}
use Rattle.numbers.proofs.Bytes.{bytes-part}
use Rattle.numbers.proofs.Parts.{length_part}
use Rattle.numbers.proofs.Layouts.{length-join}
use Rattle.records.specs.Form.{Form}
use Rattle.records.specs.Record.{record_size, length_of, length_field, header_fields, header, right_size, right_version}
use Rattle.numbers.proofs.Comparison.{same_iff}
use Rattle.records.proofs.FormLaws.{Fits}

-- a field of w bytes is the bytes of the number that it holds
pub field_is : (w x : ℕ) (l : List ℕ) → length l ≡ w → Bytes l → be l ≡ x → l ≡ bytes_of w x
field_is w x l wide bytes holds = sym (bytes_of-be w l wide bytes) ∙ ap (bytes_of w) holds

-- comparing bytes is comparing numbers
pub same_number : (w x : ℕ) (l : List ℕ) → length l ≡ w → Bytes l → x < 256 ^ w → same l (bytes_of w x) ≡ eqb (be l) x
same_number w x l wide bytes fits = go (same l (bytes_of w x)) refl
  where
    go : (b : Bool) → same l (bytes_of w x) ≡ b → same l (bytes_of w x) ≡ eqb (be l) x
    go true e =
        let equal : l ≡ bytes_of w x = (same_iff l (bytes_of w x)).0 e in
        e ∙ sym (eq-eqb (be l) x (ap be equal ∙ be-bytes_of w x fits))
    go false e =
        e ∙ sym (ne_eqb (be l) x (λ holds. let z : true ≡ false = sym ((same_iff l (bytes_of w x)).1 (field_is w x l wide bytes holds)) ∙ e in absurd (false≢true (sym z))))

-- ---- the fixed header

-- how long it is, and what it begins with
pub length-header : (f : Form) → length (header f) ≡ 3
unfolding header
length-header f = length-join (header_fields f) ∙ omega (arith, length-bytes_of 2 (length_of f), length-bytes_of 1 f.version)

header-length : (f : Form) → part 0 2 (header f) ≡ bytes_of 2 (length_of f)
unfolding header part
header-length f = take_at (bytes_of 2 (length_of f)) (join (bytes_of 1 f.version ∷ [])) 2 (length-bytes_of 2 (length_of f))

-- its third byte is the version
header-version : (f : Form) → Fits f → get_or (header f) 2 0 ≡ f.version
unfolding header bytes_of
header-version f fits = let short = fits.version in omega arith

-- refusal 3, as the code tests it: the size, and the first two bytes against the header's
pub size_right : (f : Form) (l : List ℕ) → Fits f → length l ≡ record_size f → Bytes l → same (part 0 2 l) (part 0 2 (header f)) ≡ right_size f l
unfolding right_size
size_right f l fits long bytes =
    ap (same (part 0 2 l)) (header-length f)
    ∙ same_number 2 (length_of f) (part 0 2 l) (length_part 0 2 l (omega arith)) (bytes-part 0 2 l bytes) fits.length
    ∙ ap (λ (b : Bool). b && eqb (be (part 0 2 l)) (length_of f)) (sym (eq-eqb (length l) (record_size f) long))

pub size_wrong : (f : Form) (l : List ℕ) → (length l ≡ record_size f → ⊥) → right_size f l ≡ false
unfolding right_size
size_wrong f l other = ap (λ (b : Bool). b && eqb (be (length_field f l)) (length_of f)) (ne_eqb (length l) (record_size f) other)

-- a record that passes it is of its size
pub right_length : (f : Form) (l : List ℕ) → right_size f l ≡ true → length l ≡ record_size f
unfolding right_size
right_length f l right = eqb-true (length l) (record_size f) ((and-eq-true_iff (eqb (length l) (record_size f)) _).0 right).0

-- refusal 4, as the code tests it: the third byte
pub version_byte : (f : Form) (l : List ℕ) → Fits f → length l ≡ record_size f → eqb (get_or l 2 0) (get_or (header f) 2 0) ≡ right_version f l
unfolding right_version part be
version_byte f l fits long =
    let third : drop 2 l ≡ get_or l 2 0 ∷ drop 3 l = drop-cons l 2 0 (omega arith) in
    let one : be (part 2 1 l) ≡ get_or l 2 0 = ap (λ (m : List ℕ). be (take 1 m)) third ∙ zero-add (get_or l 2 0) in
    ap₂ eqb (sym one) (header-version f fits)
