-- An accepted open, perform and repeat, for every key and every summary of 32 bytes, in buffers. The idea: the first state, bound to the summary, is a
-- record that passes all tests, and a request that sets rack 0's capacity to 5 is carried out on it. Assumes nothing.
use mathlib.Core.Path.{◌≡◌, sym, ap, ◌∙◌}
use Prim.Native.Nat.{ℕ, ◌≤◌}
use native.Mathlib.Omega.{arith}
use mathlib.Core.List.{List}
use lib.ListN.{length, replicate, length-replicate}
use lib.Dec.{lit<}
use borrow.Author.Tests.{eq-eqb}
use Rattle.numbers.specs.Numbers.{Bytes}
use Rattle.numbers.proofs.Bytes.{bytes-replicate}
use Rattle.numbers.proofs.Comparison.{same_iff}
use Rattle.racks.specs.Racks.{first_state}
use Rattle.racks.specs.Layout.{bytes_of_state}
use Rattle.racks.specs.Edition.{racks}
use Rattle.sha256.proofs.DigestLaws.{bytes-sha256}
use Rattle.records.specs.declared.Form.TheVariants.{Version1}
use Rattle.records.proofs.FormLaws.{fits}
use Rattle.records.specs.Form.{version1}
use Rattle.records.specs.Page.{hash_size, page_size, page_summary, page_key, page_of, zero_summary}
use Rattle.records.specs.Record.{record_size, summary}
use Rattle.records.proofs.PageBytes.{page_summary_lem, page_key_lem, length_page}
use Rattle.answers.specs.Hashing.{next_summary, bound_record}
use Rattle.answers.specs.Answers.{Outcome, opened, Performed, performed, repeated}
use Rattle.answers.specs.Edition.{this_edition, served_bytes}
use Rattle.answers.specs.Written.{Reads, Stands, front}
use Rattle.answers.specs.Accepting.{Passing}
use Rattle.answers.specs.Strength.{Buffer, Buffers, AcceptedOpen, AcceptedCall}
use Rattle.answers.proofs.Tests.{open_passes}
use Rattle.answers.proofs.Accepted.{perform_is, repeat_is, open_is}
use Rattle.answers.proofs.States.{first_good}
use Rattle.answers.proofs.Records.{bound-reads}
use Rattle.answers.proofs.ReadsBack.{length-zero_summary, length_next, reads_back}
use Rattle.answers.proofs.Keys.{open_page}
use Rattle.answers.proofs.Witnesses.{a_current_record, asked, afterwards, asked_formed, served_first}
use Rattle.answers.proofs.Buffers.{answer_buffer, asked_buffer, page_buffer, bound-buffer}

-- a buffer of zeros, with just the room that is needed
abbrev pub zeros : List ℕ
zeros = replicate (record_size version1) 0

room : record_size version1 ≤ length zeros
room = omega (arith, length-replicate {A = ℕ} (record_size version1) 0)

-- ---- open, on a fresh page

pub accepted_open : (key answer : List ℕ) → length key ≡ hash_size → record_size version1 ≤ length answer → (opened this_edition (page_of zero_summary key) answer).number ≡ 0
accepted_open key answer k fits =
    let passed = open_passes this_edition (page_of zero_summary key) answer
    (record { right = eq-eqb _ _ (length_page zero_summary key length-zero_summary k); room = fits; fresh = page_summary_lem zero_summary key length-zero_summary k }) in
    ap (λ (p : Outcome). p.number) (open_is this_edition (page_of zero_summary key) answer passed)

pub fresh-buffer : (key : List ℕ) → length key ≡ hash_size → Bytes key → Buffer (page_of zero_summary key)
unfolding zero_summary
fresh-buffer key k b = page_buffer zero_summary length-zero_summary (bytes-replicate hash_size 0 (lit< tt)) key k b

pub an_accepted_open : (key : List ℕ) → length key ≡ hash_size → Bytes key → AcceptedOpen key
an_accepted_open key k b =
    record {
      page = page_of zero_summary key;
      answer = zeros;
      buffers = (fresh-buffer key k b, answer_buffer 0 (lit< tt));
      key_is = page_key_lem zero_summary key length-zero_summary k;
      accepted = accepted_open key zeros k room;
    }

-- ---- the others

-- the first state, bound to a summary, and the summary moved on by the request
abbrev pub first_bound : List ℕ → List ℕ → List ℕ
first_bound key s = bound_record this_edition (page_of s key) s (bytes_of_state (first_state racks))

abbrev pub moved_on : List ℕ → List ℕ
moved_on s = next_summary this_edition s asked

module _ (key s : List ℕ) (k : length key ≡ hash_size) (w : length s ≡ hash_size) where
  pub first_stands : Stands this_edition (page_of s key) (first_bound key s) (bytes_of_state (first_state racks))
  first_stands = a_current_record version1 (fits Version1) key s (bytes_of_state (first_state racks)) k w (first_good racks)

  -- how it reads on every page with the key
  pub first_reads : (page : List ℕ) → page_key page ≡ key → Reads this_edition page (first_bound key s) (bytes_of_state (first_state racks)) s
  first_reads page e =
      bound-reads version1 (page_of s key) s (bytes_of_state (first_state racks)) w (first_good racks).size page (e ∙ sym (page_key_lem s key w k))

  -- it passes on every page with the key, if the summary that the call wants is the page's
  first_passes : (page wanted : List ℕ) → length page ≡ page_size → page_key page ≡ key → wanted ≡ page_summary page
      → Passing this_edition page (first_bound key s) asked zeros wanted (bytes_of_state afterwards)
  first_passes page wanted long e current =
      record {
        right = eq-eqb _ _ long;
        room = room;
        tests = first_stands.passes;
        formed = asked_formed;
        authentic = (same_iff _ _).0 (first_reads page e).validity;
        current = current;
        carries = ap (λ (b : List ℕ). served_bytes racks b asked) (first_reads page e).state_is ∙ served_first;
      }

  -- perform, on the page that holds the record's summary
  pub accepted_perform : (performed this_edition (page_of s key) (first_bound key s) asked zeros).number ≡ 0
  accepted_perform =
      let key_is = page_key_lem s key w k in
      let passes = first_passes (page_of s key) (summary version1 (first_bound key s)) (length_page s key w k) key_is ((first_reads (page_of s key) key_is).summary_is ∙ sym (page_summary_lem s key w k)) in
      ap (λ (p : Performed). p.number) (perform_is this_edition (page_of s key) (first_bound key s) asked zeros _ passes)

  -- repeat, on the page that holds that summary moved on by the request
  pub accepted_repeat : (repeated this_edition (page_of (moved_on s) key) (first_bound key s) asked zeros).number ≡ 0
  accepted_repeat =
      let wide = length_next version1 s asked in
      let key_is = page_key_lem (moved_on s) key wide k in
      let passes = first_passes (page_of (moved_on s) key) (moved_on (summary version1 (first_bound key s))) (length_page (moved_on s) key wide k) key_is
      (ap moved_on (first_reads (page_of (moved_on s) key) key_is).summary_is ∙ sym (page_summary_lem (moved_on s) key wide k)) in
      ap (λ (p : Performed). p.number) (repeat_is this_edition (page_of (moved_on s) key) (first_bound key s) asked zeros _ passes)

  -- both are lent buffers
  module _ (kb : Bytes key) (sb : Bytes s) where
    -- with the page that holds any summary of 32 bytes
    pub first_buffers : (t : List ℕ) → length t ≡ hash_size → Bytes t → Buffers (page_of t key) (first_bound key s) asked zeros
    first_buffers t wide bytes =
        (page_buffer t wide bytes key k kb, bound-buffer s w sb (page_of s key) (first_state racks) (first_good racks).size, asked_buffer, answer_buffer 0 (lit< tt))

    pub an_accepted_perform : AcceptedCall (performed this_edition) key s
    an_accepted_perform =
        record {
          page = page_of s key;
          offered = first_bound key s;
          request = asked;
          answer = zeros;
          buffers = first_buffers s w sb;
          key_is = page_key_lem s key w k;
          summary_is = (first_reads (page_of s key) (page_key_lem s key w k)).summary_is;
          accepted = accepted_perform;
        }

    pub an_accepted_repeat : AcceptedCall (repeated this_edition) key s
    an_accepted_repeat =
        let wide = length_next version1 s asked in
        let key_is = page_key_lem (moved_on s) key wide k in
        record {
          page = page_of (moved_on s) key;
          offered = first_bound key s;
          request = asked;
          answer = zeros;
          buffers = first_buffers (moved_on s) wide (bytes-sha256 _);
          key_is = key_is;
          summary_is = (first_reads (page_of (moved_on s) key) key_is).summary_is;
          accepted = accepted_repeat;
        }

-- open, and then perform with the record that it answered, on the same page
pub open_then_perform : (key : List ℕ) → length key ≡ hash_size
    → (performed this_edition (page_of zero_summary key) (front this_edition (opened this_edition (page_of zero_summary key) zeros).answer) asked zeros).number ≡ 0
open_then_perform key k =
    let page = page_of zero_summary key in
    let w = (reads_back version1).opens page zeros (accepted_open key zeros k room) in
    let is : front this_edition (opened this_edition page zeros).answer ≡ first_bound key zero_summary =
    w.1.is ∙ ap (λ (p : List ℕ). bound_record this_edition p zero_summary (bytes_of_state (first_state racks))) (open_page this_edition page zeros) in
    ap (λ (l : List ℕ). (performed this_edition page l asked zeros).number) is ∙ accepted_perform key zero_summary k length-zero_summary
