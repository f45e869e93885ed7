-- Requests written and read back: the fields of what was written are those that were written, and writing the fields of what was
-- read gives the same bytes. The idea: a form is cut into its fields and joined again. Assumes nothing.
use mathlib.Core.Path.{◌≡◌, refl, ap, ◌∙◌}
use Prim.Native.Nat.{ℕ, ◌-◌, ◌^◌, ◌≤◌, ◌<◌}
use native.Mathlib.Omega.{arith}
use mathlib.Core.List.{List, [], map}
use lib.ListN.{length, get_or}
use borrow.Author.Tests.{le-leb, lt-ltb}
use Rattle.std.specs.Prelude.{Some}
use Rattle.numbers.specs.Numbers.{be, bytes_of, Bytes}
use Rattle.numbers.specs.Parts.{size, cut_at, fields_of, join}
use Rattle.numbers.proofs.Numbers.{be-bytes_of}
use Rattle.numbers.proofs.Layouts.{length-join, join-cut_at, cut_at-join}
use Rattle.numbers.proofs.Forms.{part-whole, widths_fields_of, fields_of-cut_at, bytes-fields_of, bytes-join}
use Rattle.racks.specs.Rule.{amount_limit}
use Rattle.requests.specs.Layout.{request_widths, request_size, kind, rack, other, amount, numbers_of_request, fields_of_request, bytes_of_request}
use Rattle.requests.specs.Formed.{right_other, right_amount, well_formed}
use Rattle.requests.specs.Requests.{request_by, request_of, read_request}
use Rattle.requests.specs.Range.{InRange}
use Rattle.requests.proofs.Formed.{RightForm, form_right, fields}

-- kind k, rack i, other o and amount a are written, and each is found again
module _ (k i o a : ℕ) where
  widths : map length (fields_of_request k i o a) ≡ request_widths
  widths = widths_fields_of request_widths (numbers_of_request k i o a) refl

  pub length-written : length (bytes_of_request k i o a) ≡ request_size
  unfolding bytes_of_request
  length-written = length-join (fields_of_request k i o a) ∙ ap size widths

  pub bytes-written : Bytes (bytes_of_request k i o a)
  unfolding bytes_of_request
  bytes-written = bytes-join (fields_of_request k i o a) (bytes-fields_of request_widths (numbers_of_request k i o a))

  cut : cut_at 0 request_widths (bytes_of_request k i o a) ≡ fields_of_request k i o a
  unfolding bytes_of_request
  cut = cut_at-join 0 request_widths (bytes_of_request k i o a) (fields_of_request k i o a) widths (part-whole request_size (bytes_of_request k i o a) length-written)

  -- field number j, of width w and written as x
  found : (j w x : ℕ) → get_or (fields_of_request k i o a) j [] ≡ bytes_of w x → x < 256 ^ w → be (get_or (cut_at 0 request_widths (bytes_of_request k i o a)) j []) ≡ x
  found j w x field fits = ap (λ (ps : List (List ℕ)). be (get_or ps j [])) cut ∙ ap be field ∙ be-bytes_of w x fits

  pub written_form : RightForm (bytes_of_request k i o a)
  written_form = record { size = length-written; count = found 0 2 (request_size - 2) refl (omega arith); first = found 1 1 1 refl (omega arith) }

  pub written-kind : k < 256 → kind (bytes_of_request k i o a) ≡ k
  written-kind fits = found 2 1 k refl fits

  pub written-rack : i < 256 → rack (bytes_of_request k i o a) ≡ i
  written-rack fits = found 3 1 i refl fits

  pub written-other : o < 256 → other (bytes_of_request k i o a) ≡ o
  written-other fits = found 4 1 o refl fits

  pub written-amount : a < 2 ^ 32 → amount (bytes_of_request k i o a) ≡ a
  written-amount fits = found 5 4 a refl fits

-- writing the fields of a right form gives its bytes again
pub rewritten_request : (l : List ℕ) → Bytes l → RightForm l → bytes_of_request (kind l) (rack l) (other l) (amount l) ≡ l
unfolding bytes_of_request
rewritten_request l bytes right =
    let fields : fields_of_request (kind l) (rack l) (other l) (amount l) ≡ fields_of request_widths (map be (cut_at 0 request_widths l)) = cc in
    ap join (fields ∙ fields_of-cut_at 0 request_widths l bytes (omega arith)) ∙ join-cut_at 0 request_widths l ∙ part-whole request_size l right.size

-- what is written of a request in range is read back
pub read_back : (n k i o a : ℕ) → i < 256 → o < 256 → 1 ≤ k → k ≤ 4 → (k ≤ 3 → o ≡ 0) → InRange n (request_by k i o a)
    → read_request n (bytes_of_request k i o a) ≡ Some (request_by k i o a)
unfolding read_request request_of right_other right_amount well_formed
read_back n k i o a rack_fits other_fits low high none range =
    let f = fields n k i o a low high none range in
    rw (written-kind k i o a (omega arith), written-rack k i o a rack_fits, written-other k i o a other_fits, written-amount k i o a (omega arith))
    (rw (form_right (bytes_of_request k i o a) (written_form k i o a), le-leb 1 k low, le-leb k 4 high, lt-ltb i n f.inside, f.another, le-leb a amount_limit f.within, f.some))
