-- The record that binds a state to a summary, laid over the front of an answer buffer: it stands there, and all behind it is as it was.
-- Assumes nothing.
use mathlib.Core.Path.{◌≡◌, sym, ◌∙◌}
use Prim.Native.Nat.{ℕ, ◌+◌, ◌≤◌}
use native.Mathlib.Nat.{zero-add}
use native.Mathlib.Omega.{arith}
use mathlib.Core.List.{List}
use lib.ListN.{length, drop}
use lib.Seq.{drop_at}
use Rattle.numbers.specs.Parts.{over}
use Rattle.numbers.proofs.Parts.{length_over, part-over}
use Rattle.records.specs.Form.{Form}
use Rattle.records.specs.Page.{hash_size, page_key}
use Rattle.records.specs.Record.{state_size, record_size}
use Rattle.answers.specs.Hashing.{bound_record}
use Rattle.answers.specs.Edition.{design}
use Rattle.answers.specs.Written.{front, Wrote}
use Rattle.answers.proofs.Records.{bound_key, length-bound, bound-reads}

-- laid over the front, all behind it is as it was
drop-front : (w : ℕ) (r d : List ℕ) → length r ≡ w → drop w (over 0 r d) ≡ drop w d
unfolding over
drop-front w r d wide = rw (drop_at r (drop (0 + length r) d) w wide, wide, zero-add)

module _ (f : Form) (page s state answer : List ℕ) (wide : length s ≡ hash_size) (size : length state ≡ state_size f) (room : record_size f ≤ length answer) where
  pub front-bound : front (design f) (over 0 (bound_record (design f) page s state) answer) ≡ bound_record (design f) page s state
  front-bound = part-over 0 (record_size f) (bound_record (design f) page s state) answer (length-bound f page s state wide size) (omega arith)

  -- on every page with the key that it was bound under
  pub bound_wrote : (after : List ℕ) → page_key after ≡ page_key page
      → Wrote (design f) after answer (over 0 (bound_record (design f) page s state) answer) state s
  bound_wrote after key =
      let long = length-bound f page s state wide size in
      record {
        is = front-bound ∙ sym (bound_key f page after s state key);
        reads = rw front-bound (bound-reads f page s state wide size after key);
        rest = drop-front (record_size f) (bound_record (design f) page s state) answer long;
        size = length_over 0 (bound_record (design f) page s state) answer (omega arith);
      }
