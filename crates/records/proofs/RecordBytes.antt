-- A record reads back as what was written, is what its fields make, and is bytes where they are, whatever its form. Assumes nothing.
use mathlib.Core.Path.{◌≡◌, sym, ap, ap₂, ◌∙◌}
use mathlib.Core.Bool.{true, and-eq-true_iff}
use Prim.Native.Nat.{ℕ}
use native.Mathlib.Omega.{arith}
use mathlib.Core.List.{List, [], ◌∷◌, ◌++◌, map, append_assoc, append-nil}
use lib.ListN.{length, get_or}
use lib.Dec.{eqb}
use borrow.Author.Tests.{eqb-true, eq-eqb}
use Rattle.numbers.specs.Numbers.{be, Bytes}
use Rattle.numbers.specs.Parts.{size, join}
use Rattle.numbers.proofs.Numbers.{length-bytes_of, be-bytes_of}
use Rattle.numbers.proofs.Bytes.{bytes-part, bytes-bytes_of}
use Rattle.numbers.proofs.Parts.{length_part}
use Rattle.numbers.proofs.Forms.{part-whole, bytes-join}
use Rattle.numbers.proofs.Layouts.{length-join, join-cut_at}
use Rattle.records.specs.Form.{Form}
use Rattle.records.specs.Page.{hash_size}
use Rattle.records.specs.Record.{state_size, record_widths, record_size, length_of, fields, length_field, version_field, state_bytes, summary, authenticator, header_fields, record_of, header, right_size, right_version}
use Rattle.records.proofs.FormLaws.{Fits}
use Rattle.records.proofs.Headers.{field_is}
use Rattle.records.proofs.PageBytes.{cut_joined}

module _ (f : Form) (st su au : List ℕ) (s : length st ≡ state_size f) (u : length su ≡ hash_size) (a : length au ≡ hash_size) where
  -- ---- reading what was written

  written : List (List ℕ)
  written = header_fields f ++ st ∷ su ∷ au ∷ []

  widths : map length written ≡ record_widths f
  unfolding written
  widths =
      let l = length-bytes_of 2 (length_of f) in
      let w = length-bytes_of 1 f.version in
      cc

  record_fields : fields f (record_of f st su au) ≡ written
  unfolding record_of written
  record_fields = cut_joined (record_widths f) written widths

  pub length_record : length (record_of f st su au) ≡ record_size f
  unfolding record_of written
  length_record = length-join written ∙ ap size widths

  pub record_state : state_bytes f (record_of f st su au) ≡ st
  unfolding written
  record_state = ap (λ (fs : List (List ℕ)). get_or fs 2 []) record_fields

  pub record_summary : summary f (record_of f st su au) ≡ su
  unfolding written
  record_summary = ap (λ (fs : List (List ℕ)). get_or fs 3 []) record_fields

  pub record_authenticator : authenticator f (record_of f st su au) ≡ au
  unfolding written
  record_authenticator = ap (λ (fs : List (List ℕ)). get_or fs 4 []) record_fields

  -- ---- a record that was written passes the tests of its size and its version

  pub record_size_lem : Fits f → right_size f (record_of f st su au) ≡ true
  unfolding right_size written
  record_size_lem fits =
      let field : be (length_field f (record_of f st su au)) ≡ length_of f =
      ap (λ (fs : List (List ℕ)). be (get_or fs 0 [])) record_fields ∙ be-bytes_of 2 (length_of f) fits.length in
      (and-eq-true_iff _ _).1 (eq-eqb _ _ length_record, eq-eqb _ _ field)

  pub record_version : Fits f → right_version f (record_of f st su au) ≡ true
  unfolding right_version written
  record_version fits =
      eq-eqb _ _ (ap (λ (fs : List (List ℕ)). be (get_or fs 1 [])) record_fields ∙ be-bytes_of 1 f.version fits.version)

  -- ---- the header comes first
  pub record_begins : record_of f st su au ≡ header f ++ st ++ su ++ au
  unfolding record_of header
  record_begins = simp (append_assoc, append-nil)

pub bytes_record : (f : Form) (st su au : List ℕ) → Bytes st → Bytes su → Bytes au → Bytes (record_of f st su au)
unfolding record_of
bytes_record f st su au s u a =
    bytes-join (header_fields f ++ st ∷ su ∷ au ∷ []) (bytes-bytes_of 2 (length_of f), (bytes-bytes_of 1 f.version, (s, (u, (a, tt)))))

-- ---- writing what was read
pub record_again : (f : Form) (l : List ℕ) → Bytes l → right_size f l ≡ true → right_version f l ≡ true
    → record_of f (state_bytes f l) (summary f l) (authenticator f l) ≡ l
unfolding record_of right_size right_version
record_again f l bytes size version =
    let both = (and-eq-true_iff (eqb (length l) (record_size f)) _).0 size in
    let long : length l ≡ record_size f = eqb-true (length l) (record_size f) both.0 in
    let first = field_is 2 (length_of f) (length_field f l) (length_part 0 2 l (omega arith)) (bytes-part 0 2 l bytes) (eqb-true _ _ both.1) in
    let second = field_is 1 f.version (version_field f l) (length_part 2 1 l (omega arith)) (bytes-part 2 1 l bytes) (eqb-true _ _ version) in
    ap₂ (λ (x y : List ℕ). join (x ∷ y ∷ state_bytes f l ∷ summary f l ∷ authenticator f l ∷ [])) (sym first) (sym second)
    ∙ join-cut_at 0 (record_widths f) l
    ∙ part-whole (record_size f) l long
