-- A record that view shows and resume hands back, for every key and every summary of 32 bytes. The idea: the first state, bound to the
-- summary, is a current record, and nothing is stored in it. Assumes nothing.
use mathlib.Core.Path.{◌≡◌, ap, ◌∙◌}
use Prim.Native.Nat.{ℕ, ◌<◌}
use mathlib.Core.List.{List}
use lib.ListN.{length}
use borrow.Author.Tests.{eq-eqb, lt-ltb}
use Rattle.std.specs.Prelude.{Ok}
use Rattle.numbers.specs.Numbers.{Bytes}
use Rattle.racks.specs.Racks.{first_state}
use Rattle.racks.specs.Layout.{state_of, bytes_of_state}
use Rattle.racks.specs.Figures.{total_stored}
use Rattle.racks.specs.Edition.{racks}
use Rattle.racks.proofs.FirstState.{total-first_state}
use Rattle.records.specs.Page.{hash_size, page_of}
use Rattle.records.proofs.PageBytes.{page_key_lem, length_page}
use Rattle.answers.specs.Judging.{Verdict, shown, looked, resume_verdict}
use Rattle.answers.specs.Answers.{viewed, viewed_by, is_good, Resumed, resumed_by, resumed}
use Rattle.answers.specs.Edition.{this_edition}
use Rattle.answers.specs.Strength.{AcceptedLook}
use Rattle.answers.proofs.Witnesses.{first_back}
use Rattle.answers.proofs.AcceptedCalls.{first_bound, first_stands, first_reads, first_buffers}

module _ (key s : List ℕ) (k : length key ≡ hash_size) (w : length s ≡ hash_size) where
  -- nothing is stored in the first state
  shows : (rack : ℕ) → shown this_edition (bytes_of_state (first_state racks)) rack ≡ Verdict.good (bytes_of_state (first_state racks))
  shows rack =
      let total : total_stored (state_of racks (bytes_of_state (first_state racks))) ≡ 0 = ap total_stored first_back ∙ total-first_state racks in
      rw total

  views_first : (rack : ℕ) → rack < racks → (viewed this_edition (page_of s key) (first_bound key s) rack).number ≡ 0
  unfolding viewed
  views_first rack inside =
      let passed : looked this_edition (page_of s key) (first_bound key s) rack ≡ Ok tt =
      rw (eq-eqb _ _ (length_page s key w k), (first_stands key s k w).passes, lt-ltb rack racks inside) in
      ap (λ v. (viewed_by this_edition rack v).number) ((first_stands key s k w).views rack passed ∙ shows rack)

  hands_back : (on_disk : List ℕ) → resumed this_edition (page_of s key) (first_bound key s) on_disk ≡ Resumed.ram
  unfolding resumed
  hands_back on_disk = ap (λ v. resumed_by (is_good v) (is_good (resume_verdict this_edition (page_of s key) on_disk))) (first_stands key s k w).resumes

  pub an_accepted_look : Bytes key → Bytes s → AcceptedLook key s
  an_accepted_look kb sb =
      let buffers = first_buffers key s k w kb sb s w sb in
      record {
        page = page_of s key;
        offered = first_bound key s;
        buffers = (buffers.0, buffers.1);
        key_is = page_key_lem s key w k;
        summary_is = (first_reads key s k w (page_of s key) (page_key_lem s key w k)).summary_is;
        shown = views_first;
        handed_back = hands_back;
      }
