-- Perform and repeat are accepted just where all their tests pass, and open where its tests do, over any design. The idea: no refusal
-- has the number 0, so the verdict is the good one, and only the end of the row of tests is good. Assumes nothing.
use mathlib.Core.Path.{◌≡◌, refl, ap}
use mathlib.Core.Bool.{Bool, true, false}
use Prim.Native.Nat.{ℕ}
use native.Mathlib.Omega.{arith}
use mathlib.Core.List.{List}
use Rattle.std.specs.Prelude.{Ok, Err}
use Rattle.numbers.specs.Comparing.{same}
use Rattle.numbers.proofs.Comparison.{same_iff}
use Rattle.refusals.specs.declared.Refusal.{Refusal}
use Rattle.refusals.specs.declared.Refusal.TheVariants.{Page, Answer, Record, Version, State, Request, Authenticator, Current, Capacity, Stored, Limit, Total, Fresh}
use Rattle.refusals.specs.Numbers.{number_of}
use Rattle.refusals.specs.Tested.{Tested}
use Rattle.answers.specs.Design.{Design, Served}
use Rattle.answers.specs.Hashing.{next_summary, binding_in, valid}
use Rattle.answers.specs.Judging.{Verdict, judged, by_service, offered, perform_verdict, repeat_verdict}
use Rattle.answers.specs.Answers.{open_tests, opened_by, opened, answered_by, performed, repeated}
use Rattle.answers.specs.Accepting.{Passing, PerformPassing, RepeatPassing, page_next, AcceptedJustWhere}
use Rattle.answers.proofs.Tests.{offer, offered-passes}

-- no refusal has the number 0
no_zero : (r : Refusal) → number_of r ≡ 0 → ⊥
no_zero Page e = omega arith
no_zero Answer e = omega arith
no_zero Record e = omega arith
no_zero Version e = omega arith
no_zero State e = omega arith
no_zero Request e = omega arith
no_zero Authenticator e = omega arith
no_zero Current e = omega arith
no_zero Capacity e = omega arith
no_zero Stored e = omega arith
no_zero Limit e = omega arith
no_zero Total e = omega arith
no_zero Fresh e = omega arith

-- ---- verdicts

-- what the tests say that give a good verdict
record Found (t : Tested) (is_valid is_current : Bool) (s : Served) (state : List ℕ) : Type 0 where
  passed : t ≡ Ok tt
  validity : is_valid ≡ true
  currency : is_current ≡ true
  carries : s ≡ Served.carried state

found : (t : Tested) (v c : Bool) (s : Served) (state : List ℕ) → judged t v c (by_service s) ≡ Verdict.good state → Found t v c s state
found (Err r) v c s state e = let z : ◌≡◌ {A = ℕ} 0 1 = cc in absurd (omega arith)
found (Ok x) false c s state e = let z : ◌≡◌ {A = ℕ} 0 1 = cc in absurd (omega arith)
found (Ok x) true false s state e = let z : ◌≡◌ {A = ℕ} 0 1 = cc in absurd (omega arith)
found (Ok x) true true (Served.barred r) state e = let z : ◌≡◌ {A = ℕ} 0 1 = cc in absurd (omega arith)
found (Ok x) true true (Served.carried next) state e = record { passed = refl; validity = refl; currency = refl; carries = cc }

-- what is answered with the number 0 is a good verdict
record Good (v : Verdict) : Type 0 where
  state : List ℕ
  is : v ≡ Verdict.good state

good_answered : (D : Design) (page l request answer after : List ℕ) (v : Verdict) → (answered_by D page l request answer after v).number ≡ 0 → Good v
good_answered D page l request answer after (Verdict.early r) e = absurd (no_zero r e)
good_answered D page l request answer after Verdict.forged e = absurd (no_zero Authenticator e)
good_answered D page l request answer after Verdict.stale e = absurd (no_zero Current e)
good_answered D page l request answer after (Verdict.barred r) e = absurd (no_zero r e)
good_answered D page l request answer after (Verdict.good state) e = record { state = state; is = refl }

-- ---- perform and repeat

module _ (D : Design) (page l request answer : List ℕ) where
  -- from what the tests found, the test for 8 being any that says that the summary is the page's; and back
  passing : (summary state : List ℕ) (c : Bool) → Found (offered D page l request answer) (valid D page l) c (D.served (D.state_bytes l) request) state
      → (c ≡ true → summary ≡ D.page_summary page) → Passing D page l request answer summary state
  passing summary state c f current =
      let o = offer D page l request answer f.passed in
      record {
        right = o.right;
        room = o.room;
        tests = o.tests;
        formed = o.formed;
        authentic = (same_iff _ _).0 f.validity;
        current = current f.currency;
        carries = f.carries;
      }

  judges_good : (summary state : List ℕ) → Passing D page l request answer summary state
      → judged (offered D page l request answer) (valid D page l) (same summary (D.page_summary page)) (by_service (D.served (D.state_bytes l) request)) ≡ Verdict.good state
  judges_good summary state p =
      let passed = offered-passes D page l request answer (record { right = p.right; room = p.room; tests = p.tests; formed = p.formed }) in
      let validity = (same_iff (D.authenticator l) (D.mac page (binding_in D l))).1 p.authentic in
      rw (passed, validity, (same_iff summary (D.page_summary page)).1 p.current, p.carries)

  perform_good : (performed D page l request answer).number ≡ 0 → Good (perform_verdict D page l request answer)
  unfolding performed
  perform_good e = good_answered D page l request answer _ (perform_verdict D page l request answer) e

  pub perform_passed : (performed D page l request answer).number ≡ 0 → (state : List ℕ) × PerformPassing D page l request answer state
  unfolding perform_verdict
  perform_passed e =
      let g = perform_good e in
      (g.state, passing (D.summary l) g.state _ (found _ _ _ _ g.state g.is) (same_iff (D.summary l) (D.page_summary page)).0)

  pub perform_is : (state : List ℕ) → PerformPassing D page l request answer state
      → performed D page l request answer ≡ answered_by D page l request answer (page_next D page l request) (Verdict.good state)
  unfolding performed perform_verdict
  perform_is state p = ap (answered_by D page l request answer (page_next D page l request)) (judges_good (D.summary l) state p)

  repeat_good : (repeated D page l request answer).number ≡ 0 → Good (repeat_verdict D page l request answer)
  unfolding repeated
  repeat_good e = good_answered D page l request answer _ (repeat_verdict D page l request answer) e

  pub repeat_passed : (repeated D page l request answer).number ≡ 0 → (state : List ℕ) × RepeatPassing D page l request answer state
  unfolding repeat_verdict
  repeat_passed e =
      let g = repeat_good e in
      let next = next_summary D (D.summary l) request in
      (g.state, passing next g.state _ (found _ _ _ _ g.state g.is) (same_iff next (D.page_summary page)).0)

  pub repeat_is : (state : List ℕ) → RepeatPassing D page l request answer state
      → repeated D page l request answer ≡ answered_by D page l request answer page (Verdict.good state)
  unfolding repeated repeat_verdict
  repeat_is state p = ap (answered_by D page l request answer page) (judges_good (next_summary D (D.summary l) request) state p)

pub accepted_just_where : (D : Design) → AcceptedJustWhere D
accepted_just_where D = record { performs = perform_passed D; perform_answers = perform_is D; repeats = repeat_passed D; repeat_answers = repeat_is D }

-- ---- open

module _ (D : Design) (page answer : List ℕ) where
  passed-opened : (t : Tested) → (opened_by D page answer t).number ≡ 0 → t ≡ Ok tt
  passed-opened (Ok x) e = refl
  passed-opened (Err r) e = absurd (no_zero r e)

  pub open_passed : (opened D page answer).number ≡ 0 → open_tests D page answer ≡ Ok tt
  unfolding opened
  open_passed e = passed-opened (open_tests D page answer) e

  pub open_is : open_tests D page answer ≡ Ok tt → opened D page answer ≡ opened_by D page answer (Ok tt)
  unfolding opened
  open_is e = ap (opened_by D page answer) e
