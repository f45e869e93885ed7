-- What open, perform and repeat write reads back, in the design that ships, over the number of racks and the version. The idea: each
-- lays a record that binds a state to a summary over the front of its answer buffer. Assumes nothing.
use mathlib.Core.Path.{◌≡◌, refl, sym}
use Prim.Native.Nat.{ℕ}
use mathlib.Core.List.{List}
use lib.ListN.{length}
use borrow.Author.Tests.{eqb-true}
use Rattle.sha256.proofs.DigestLaws.{length-sha256}
use Rattle.records.specs.Form.{Form}
use Rattle.records.specs.Page.{hash_size, page_size, page_summary, zero_summary}
use Rattle.records.specs.Record.{summary, state_bytes}
use Rattle.racks.specs.Racks.{first_state}
use Rattle.racks.specs.Layout.{bytes_of_state}
use Rattle.answers.specs.Hashing.{next_summary}
use Rattle.answers.specs.Answers.{opened, performed, repeated}
use Rattle.answers.specs.Edition.{design}
use Rattle.answers.specs.Written.{Wrote, Answered, ReadsBack}
use Rattle.answers.proofs.Tests.{opening}
use Rattle.answers.proofs.Accepted.{perform_passed, perform_is, repeat_passed, repeat_is, open_passed, open_is}
use Rattle.answers.proofs.Pages.{summary_put, key_put}
use Rattle.answers.proofs.States.{first_good, record_good, served_good}
use Rattle.answers.proofs.Fronts.{bound_wrote}

pub length-zero_summary : length zero_summary ≡ hash_size
unfolding zero_summary
length-zero_summary = refl

pub length_next : (f : Form) (s request : List ℕ) → length (next_summary (design f) s request) ≡ hash_size
length_next f s request = length-sha256 _

module _ (f : Form) where
  open_reads_back : (page answer : List ℕ) → (opened (design f) page answer).number ≡ 0
      → (page_summary (opened (design f) page answer).page ≡ zero_summary)
      × Wrote (design f) (opened (design f) page answer).page answer (opened (design f) page answer).answer (bytes_of_state (first_state f.racks)) zero_summary
  open_reads_back page answer e =
      let passed = open_passed (design f) page answer e in
      let o = opening (design f) page answer passed in
      rw (open_is (design f) page answer passed)
      (o.fresh, bound_wrote f page zero_summary (bytes_of_state (first_state f.racks)) answer length-zero_summary (first_good f.racks).size o.room page refl)

  perform_reads_back : (page l request answer : List ℕ) → (performed (design f) page l request answer).number ≡ 0
      → Answered (design f) l request answer (performed (design f) page l request answer)
  perform_reads_back page l request answer e =
      let (state, p) = perform_passed (design f) page l request answer e in
      let next = next_summary (design f) (summary f l) request in
      let long : length page ≡ page_size = eqb-true _ _ p.right in
      let good = served_good f.racks (state_bytes f l) request state (record_good f l p.tests) p.carries in
      rw (perform_is (design f) page l request answer state p)
      record {
        state = state;
        carries = p.carries;
        figure = refl;
        holds = summary_put page next long (length_next f (summary f l) request);
        wrote = bound_wrote f page next state answer (length_next f (summary f l) request) good.size p.room _
            (key_put page next long (length_next f (summary f l) request));
      }

  repeat_reads_back : (page l request answer : List ℕ) → (repeated (design f) page l request answer).number ≡ 0
      → Answered (design f) l request answer (repeated (design f) page l request answer)
  repeat_reads_back page l request answer e =
      let (state, p) = repeat_passed (design f) page l request answer e in
      let next = next_summary (design f) (summary f l) request in
      let good = served_good f.racks (state_bytes f l) request state (record_good f l p.tests) p.carries in
      rw (repeat_is (design f) page l request answer state p)
      record {
        state = state;
        carries = p.carries;
        figure = refl;
        holds = sym p.current;
        wrote = bound_wrote f page next state answer (length_next f (summary f l) request) good.size p.room page refl;
      }

  pub reads_back : ReadsBack (design f)
  reads_back = record { opens = open_reads_back; performs = perform_reads_back; repeats = repeat_reads_back }
