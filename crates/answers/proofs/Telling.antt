-- What tells a right answer from those of the versions that have to be turned away: a call whose record has the capacity 5 in rack 0,
-- which neither the first record, nor the offered one, nor a buffer of zeros has. Assumes nothing.
use mathlib.Core.Path.{◌≡◌, refl, sym, ap, ◌∙◌}
use Prim.Native.Nat.{ℕ}
use native.Mathlib.Omega.{arith}
use mathlib.Core.List.{List}
use lib.ListN.{get_or}
use Rattle.numbers.specs.Numbers.{bytes_of}
use Rattle.numbers.specs.Parts.{part}
use Rattle.racks.specs.Racks.{first_state}
use Rattle.racks.specs.Layout.{bytes_of_rack, bytes_of_state}
use Rattle.racks.specs.Edition.{racks}
use Rattle.records.specs.Form.{version1}
use Rattle.records.specs.Page.{zero_summary}
use Rattle.records.specs.Record.{state_bytes}
use Rattle.answers.specs.Design.{Served}
use Rattle.answers.specs.Hashing.{bound_record}
use Rattle.answers.specs.Answers.{Performed}
use Rattle.answers.specs.Edition.{this_edition, served_bytes}
use Rattle.answers.specs.Written.{front, Answered}
use Rattle.answers.specs.Strength.{Buffers, Version, Meets, TurnedAway}
use Rattle.answers.proofs.States.{first_good}
use Rattle.answers.proofs.Records.{bound-reads}
use Rattle.answers.proofs.ReadsBack.{length-zero_summary}
use Rattle.answers.proofs.Witnesses.{asked, afterwards, served_first}
use Rattle.answers.proofs.AcceptedCalls.{zeros}

-- ---- the byte that tells them apart: the last of rack 0's capacity

abbrev pub byte_of : List ℕ → ℕ
byte_of l = get_or (state_bytes version1 l) 3 0

-- of the first state
pub first_byte : get_or (bytes_of_state (first_state racks)) 3 0 ≡ 0
unfolding bytes_of_state bytes_of_rack bytes_of first_state
first_byte = refl

-- of the state that the request leads to
later_byte : get_or (bytes_of_state afterwards) 3 0 ≡ 5
unfolding bytes_of_state bytes_of_rack bytes_of first_state
later_byte = refl

-- of zeros
zeros_byte : byte_of (front this_edition zeros) ≡ 0
unfolding part
zeros_byte = refl

-- of the first record, under any key
first_record_byte : (page : List ℕ) → byte_of (bound_record this_edition page zero_summary (bytes_of_state (first_state racks))) ≡ 0
first_record_byte page =
    ap (λ (b : List ℕ). get_or b 3 0)
    (bound-reads version1 page zero_summary (bytes_of_state (first_state racks)) length-zero_summary (first_good racks).size page refl).state_is
    ∙ first_byte

-- ---- an accepted call of perform or repeat, from a record with the first state

pub record Told (call : Version) (page l : List ℕ) : Type 0 where
  pub buffers : Buffers page l asked zeros
  pub accepted : (call page l asked zeros).number ≡ 0
  pub given : byte_of l ≡ 0
  pub written : byte_of (front this_edition (call page l asked zeros).answer) ≡ 5

pub told : (call : Version) (page l : List ℕ) → Buffers page l asked zeros → state_bytes version1 l ≡ bytes_of_state (first_state racks)
    → (call page l asked zeros).number ≡ 0 → Answered this_edition l asked zeros (call page l asked zeros) → Told call page l
told call page l buffers first accepted a =
    let same : served_bytes racks (state_bytes version1 l) asked ≡ Served.carried (bytes_of_state afterwards) =
    ap (λ (b : List ℕ). served_bytes racks b asked) first ∙ served_first in
    let c = a.carries in
    let is : a.state ≡ bytes_of_state afterwards = cc in
    record {
      buffers = buffers;
      accepted = accepted;
      given = ap (λ (b : List ℕ). get_or b 3 0) first ∙ first_byte;
      written = ap (λ (b : List ℕ). get_or b 3 0) (a.wrote.reads.state_is ∙ is) ∙ later_byte;
    }

-- what a version that meets the contract gives there
module _ (call f : Version) (meets : Meets call f) (page l : List ℕ) (t : Told call page l) where
  number : (f page l asked zeros).number ≡ 0
  number = ap (λ (p : Performed). p.number) (meets page l asked zeros t.buffers) ∙ t.accepted

  written : byte_of (front this_edition (f page l asked zeros).answer) ≡ 5
  written = ap (λ (p : Performed). byte_of (front this_edition p.answer)) (meets page l asked zeros t.buffers) ∙ t.written

  -- it does not copy
  no_copy : ((f page l asked zeros).number ≡ 0 → front this_edition (f page l asked zeros).answer ≡ l) → ⊥
  no_copy copies =
      let z = ap byte_of (copies number) ∙ t.given in
      let five = written in
      omega arith

-- two such calls, on different pages, turn the versions away
pub turned_away : (call : Version) (page l page' l' : List ℕ) → Told call page l → Told call page' l' → (page ≡ page' → ⊥) → TurnedAway call
turned_away call page l page' l' t t' apart =
    record {
      refuses_all = λ f refuses meets. refuses page l asked zeros t.buffers (number call f meets page l t);
      answers_first = λ f answers meets.
          let z = ap byte_of (answers page l asked zeros t.buffers (number call f meets page l t)) ∙ first_record_byte page in
          let five = written call f meets page l t in
          absurd (omega arith);
      writes_nothing = λ f silent meets.
          let z = ap (λ (b : List ℕ). byte_of (front this_edition b)) (silent page l asked zeros t.buffers) ∙ zeros_byte in
          let five = written call f meets page l t in
          absurd (omega arith);
      copies = λ f copies meets. no_copy call f meets page l t (copies page l asked zeros t.buffers);
      copies_later = λ once f copies meets.
          no_copy call f meets page l t (copies page l asked zeros t.buffers
          λ e. no_copy call f meets page' l' t' (copies page' l' asked zeros t'.buffers λ e'. apart (e ∙ sym e')));
    }
