-- Repeat writes what perform would write on a page that holds the record's own summary. The idea: of the page, what perform and repeat
-- test before 8 and what they write depends on its size and its key alone. Assumes nothing.
use mathlib.Core.Path.{◌≡◌, refl, sym, ap, ◌∙◌}
use Prim.Native.Nat.{ℕ, ◌+◌}
use native.Mathlib.Omega.{arith}
use mathlib.Core.List.{List, []}
use lib.ListN.{length}
use borrow.Author.Tests.{eqb-true, eq-eqb}
use Rattle.std.specs.Prelude.{Ok}
use Rattle.numbers.specs.Parts.{over}
use Rattle.numbers.proofs.Parts.{length_part}
use Rattle.bindings.specs.Hashed.{authenticator_of}
use Rattle.records.specs.Form.{Form}
use Rattle.records.specs.Page.{hash_size, page_size}
use Rattle.records.specs.Record.{state_size, summary}
use Rattle.records.specs.Tests.{tested}
use Rattle.records.proofs.Headers.{right_length}
use Rattle.answers.specs.Hashing.{next_summary, binding_in}
use Rattle.answers.specs.Answers.{performed, repeated}
use Rattle.answers.specs.Edition.{design}
use Rattle.answers.specs.Accepting.{PerformPassing}
use Rattle.answers.specs.RepeatIsPerform.{SameAnswer, OwnPage, RepeatIsPerform}
use Rattle.answers.proofs.Accepted.{perform_is, repeat_passed, repeat_is}
use Rattle.answers.proofs.Pages.{summary_put, key_put, length_put}
use Rattle.records.proofs.TestCases.{tests_passed}
use Rattle.answers.proofs.Records.{bound_key}

-- a record that has passed its tests has a summary of 32 bytes
pub length_summary : (f : Form) (l : List ℕ) → tested f l ≡ Ok tt → length (summary f l) ≡ hash_size
length_summary f l passed =
    length_part (3 + state_size f) hash_size l (omega (arith, right_length f l (tests_passed f l passed).0))

module _ (f : Form) where
  own_page : (page l request answer : List ℕ) → (repeated (design f) page l request answer).number ≡ 0 → OwnPage f page l (over 0 (summary f l) page)
  own_page page l request answer e =
      let (state, p) = repeat_passed (design f) page l request answer e in
      let long = eqb-true (length page) page_size p.right in
      let wide = length_summary f l p.tests in
      record { size = length_put page (summary f l) long wide; key = key_put page (summary f l) long wide; summary = summary_put page (summary f l) long wide }

  same_answer : (page l request answer own : List ℕ) → (repeated (design f) page l request answer).number ≡ 0 → OwnPage f page l own
      → SameAnswer (performed (design f) own l request answer) (repeated (design f) page l request answer)
  same_answer page l request answer own e o =
      let (state, p) = repeat_passed (design f) page l request answer e in
      let passing : PerformPassing (design f) own l request answer state =
      record {
        right = eq-eqb _ _ o.size;
        room = p.room;
        tests = p.tests;
        formed = p.formed;
        authentic = p.authentic ∙ ap (λ (k : List ℕ). authenticator_of k [] (binding_in (design f) l)) (sym o.key);
        current = sym o.summary;
        carries = p.carries;
      } in
      rw (perform_is (design f) own l request answer state passing, repeat_is (design f) page l request answer state p)
      record {
        first = refl;
        second = refl;
        stored = refl;
        answer = ap (λ (r : List ℕ). over 0 r answer) (bound_key f page own (next_summary (design f) (summary f l) request) state o.key);
      }

  pub repeat_is_perform : RepeatIsPerform f
  repeat_is_perform = record { page_of_record = own_page; on_each = same_answer }
