-- The versions that document 01 wants turned away are. The idea: there is an accepted call of each
-- kind that tells them, and of perform and repeat one for each key. Assumes nothing.
use mathlib.Core.Path.{◌≡◌, refl, sym, ap, ◌∙◌}
use Prim.Native.Nat.{ℕ, ◌^◌, ◌<◌}
use native.Mathlib.Omega.{arith}
use mathlib.Core.List.{List}
use lib.ListN.{length, get_or, replicate}
use lib.Dec.{lit<}
use Rattle.numbers.specs.Numbers.{Bytes}
use Rattle.numbers.specs.Parts.{part}
use Rattle.numbers.proofs.Bytes.{bytes-replicate}
use Rattle.sha256.proofs.DigestLaws.{bytes-sha256}
use Rattle.records.specs.Form.{version1}
use Rattle.records.specs.Page.{hash_size, page_key, page_of, zero_summary}
use Rattle.records.specs.Record.{record_size}
use Rattle.records.proofs.PageBytes.{page_key_lem}
use Rattle.answers.specs.Answers.{Outcome, opened, performed, repeated, Viewed, Resumed}
use Rattle.answers.specs.Edition.{this_edition}
use Rattle.answers.specs.Written.{front}
use Rattle.answers.specs.Strength.{Buffer, TurnedAway, OthersTurnedAway}
use Rattle.answers.proofs.ReadsBack.{length_next, reads_back}
use Rattle.answers.proofs.Witnesses.{asked}
use Rattle.answers.proofs.Buffers.{answer_buffer}
use Rattle.answers.proofs.AcceptedCalls.{zeros, first_bound, moved_on, accepted_open, fresh-buffer, an_accepted_open, first_reads, accepted_perform, accepted_repeat, first_buffers}
use Rattle.answers.proofs.Telling.{byte_of, first_byte, Told, told, turned_away}
use Rattle.answers.proofs.AcceptedLooks.{an_accepted_look}

-- ---- perform and repeat

-- two keys and a summary
abbrev a_key : List ℕ
a_key = replicate hash_size 0

abbrev ones : List ℕ
ones = replicate hash_size 1

bytes_a_key : Bytes a_key
bytes_a_key = bytes-replicate hash_size 0 (lit< tt)

bytes_ones : Bytes ones
bytes_ones = bytes-replicate hash_size 1 (lit< tt)

-- pages with these keys differ, whatever their summary
keys_apart : (s : List ℕ) → length s ≡ hash_size → page_of s a_key ≡ page_of s ones → ⊥
keys_apart s w e =
    let z : ◌≡◌ {A = ℕ} 0 1 = ap (λ (b : List ℕ). get_or b 0 0) (sym (page_key_lem s a_key w refl) ∙ ap page_key e ∙ page_key_lem s ones w refl) in
    omega arith

-- with a key, from a record with the summary of ones
module _ (key : List ℕ) (k : length key ≡ hash_size) (b : Bytes key) where
  perform_told : Told (performed this_edition) (page_of ones key) (first_bound key ones)
  perform_told =
      let accepted = accepted_perform key ones k refl in
      told (performed this_edition) (page_of ones key) (first_bound key ones) (first_buffers key ones k refl b bytes_ones ones refl bytes_ones)
      (first_reads key ones k refl (page_of ones key) (page_key_lem ones key refl k)).state_is
      accepted ((reads_back version1).performs (page_of ones key) (first_bound key ones) asked zeros accepted)

  repeat_told : Told (repeated this_edition) (page_of (moved_on ones) key) (first_bound key ones)
  repeat_told =
      let accepted = accepted_repeat key ones k refl in
      told (repeated this_edition) (page_of (moved_on ones) key) (first_bound key ones)
      (first_buffers key ones k refl b bytes_ones (moved_on ones) (length_next version1 ones asked) (bytes-sha256 _))
      (first_reads key ones k refl (page_of ones key) (page_key_lem ones key refl k)).state_is
      accepted ((reads_back version1).repeats (page_of (moved_on ones) key) (first_bound key ones) asked zeros accepted)

pub perform_turned_away : TurnedAway (performed this_edition)
perform_turned_away =
    turned_away (performed this_edition) _ _ _ _ (perform_told a_key refl bytes_a_key) (perform_told ones refl bytes_ones) (keys_apart ones refl)

pub repeat_turned_away : TurnedAway (repeated this_edition)
repeat_turned_away =
    turned_away (repeated this_edition) _ _ _ _ (repeat_told a_key refl bytes_a_key) (repeat_told ones refl bytes_ones)
    (keys_apart (moved_on ones) (length_next version1 ones asked))

-- ---- open, view and resume

-- a buffer of ones, which the first record has elsewhere
abbrev ones_buffer : List ℕ
ones_buffer = replicate (record_size version1) 1

ones_byte : byte_of (front this_edition ones_buffer) ≡ 1
unfolding part
ones_byte = refl

opened_byte : byte_of (front this_edition (opened this_edition (page_of zero_summary a_key) ones_buffer).answer) ≡ 0
opened_byte =
    let w = (reads_back version1).opens (page_of zero_summary a_key) ones_buffer (accepted_open a_key ones_buffer refl (omega arith)) in
    ap (λ (b : List ℕ). get_or b 3 0) w.1.reads.state_is ∙ first_byte

pub others_turned_away : OthersTurnedAway
others_turned_away =
    let o = an_accepted_open a_key refl bytes_a_key in
    let look = an_accepted_look a_key ones refl refl bytes_a_key bytes_ones in
    let fresh : Buffer (page_of zero_summary a_key) × Buffer ones_buffer = (fresh-buffer a_key refl bytes_a_key, answer_buffer 1 (lit< tt)) in
    let shown : Buffer look.page × Buffer look.offered × (0 < 2 ^ 32) = (look.buffers.0, look.buffers.1, lit< tt) in
    let found : Buffer look.page × Buffer look.offered × Buffer look.offered = (look.buffers.0, look.buffers.1, look.buffers.1) in
    record {
      open_refuses = λ f refuses meets.
          refuses o.page o.answer o.buffers (ap (λ (p : Outcome). p.number) (meets o.page o.answer o.buffers) ∙ o.accepted);
      open_silent = λ f silent meets.
          let one = ap (λ (b : List ℕ). byte_of (front this_edition b)) (silent (page_of zero_summary a_key) ones_buffer fresh) ∙ ones_byte in
          let z = ap (λ (p : Outcome). byte_of (front this_edition p.answer)) (meets (page_of zero_summary a_key) ones_buffer fresh) ∙ opened_byte in
          absurd (omega arith);
      view_refuses = λ f refuses meets.
          refuses look.page look.offered 0 shown
          (ap (λ (p : Viewed). p.number) (meets look.page look.offered 0 shown) ∙ look.shown 0 (lit< tt));
      resume_empty = λ f empty meets.
          let e : Resumed.neither ≡ Resumed.ram =
          sym (empty look.page look.offered look.offered found) ∙ meets look.page look.offered look.offered found ∙ look.handed_back look.offered in
          let z : ◌≡◌ {A = ℕ} 0 1 = cc in
          absurd (omega arith);
    }
