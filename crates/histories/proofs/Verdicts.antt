-- What a verdict says of the tests behind it. The idea: a verdict is taken apart by its tests once, and all else asks only whether the
-- record came past test 8. Assumes nothing.
use mathlib.Core.Path.{◌≡◌, refl}
use mathlib.Core.Bool.{Bool, true, false, cond, false≢true}
use Prim.Native.Nat.{ℕ, ◌^◌, ◌<◌}
use native.Mathlib.Omega.{arith}
use mathlib.Core.List.{List}
use lib.Dec.{ltb}
use Rattle.std.specs.Prelude.{Ok, Err}
use Rattle.numbers.specs.Comparing.{same}
use Rattle.numbers.proofs.Comparison.{same_iff}
use Rattle.refusals.specs.declared.Refusal.{Refusal}
use Rattle.refusals.specs.declared.Refusal.TheVariants.{Page, Answer, Record, Version, State, Request, Authenticator, Current, Capacity, Stored, Limit, Total, Fresh}
use Rattle.refusals.specs.Numbers.{number_of}
use Rattle.refusals.specs.Tested.{Tested}
use Rattle.answers.specs.Design.{Design, Served}
use Rattle.answers.specs.Hashing.{next_summary, valid}
use Rattle.answers.specs.Judging.{unless, and_then, Verdict, early, forged, stale, barred, good, judged, by_service, offered, looked, shown, perform_verdict, repeat_verdict, view_verdict, resume_verdict}
use Rattle.answers.specs.Answers.{answered_by, performed, viewed_by, viewed, Resumed, is_good, resumed_by, resumed}
use Rattle.answers.proofs.Tests.{offer}

-- ---- tests

-- both of two tests passed
both : (a b : Tested) → and_then a b ≡ Ok tt → (a ≡ Ok tt) × (b ≡ Ok tt)
both (Ok x) b e = (refl, e)
both (Err r) b e = let z : ◌≡◌ {A = ℕ} 0 1 = cc in absurd (omega arith)

-- ---- verdicts

-- past test 8, refused behind it or not
abbrev pub past : Verdict → Bool
past (early r) = false
past forged = false
past stale = false
past (barred r) = true
past (good state) = true

-- the tests before 7, test 7 and test 8 passed
pub record Past (t : Tested) (valid current : Bool) : Type 0 where
  pub tests : t ≡ Ok tt
  pub seven : valid ≡ true
  pub eight : current ≡ true

past_judged : (t : Tested) (valid current : Bool) (next : Verdict) → past (judged t valid current next) ≡ true → Past t valid current
past_judged (Err r) v c s e = absurd (false≢true e)
past_judged (Ok x) false c s e = absurd (false≢true e)
past_judged (Ok x) true false s e = absurd (false≢true e)
past_judged (Ok x) true true s e = record { tests = refl; seven = refl; eight = refl }

-- a good verdict is that past test 8, and has the state that the service gives
good_judged : (t : Tested) (valid current : Bool) (next : Verdict) (state : List ℕ) → judged t valid current next ≡ good state → next ≡ good state
good_judged (Err r) v c next state e = let z : ◌≡◌ {A = ℕ} 0 1 = cc in absurd (omega arith)
good_judged (Ok x) false c next state e = let z : ◌≡◌ {A = ℕ} 0 1 = cc in absurd (omega arith)
good_judged (Ok x) true false next state e = let z : ◌≡◌ {A = ℕ} 0 1 = cc in absurd (omega arith)
good_judged (Ok x) true true next state e = e

good_service : (s : Served) (state : List ℕ) → by_service s ≡ good state → s ≡ Served.carried state
good_service (Served.carried x) state e = cc
good_service (Served.barred r) state e = let z : ◌≡◌ {A = ℕ} 0 1 = cc in absurd (omega arith)

-- lists that differ are not the same
pub differ : (a b : List ℕ) → (a ≡ b → ⊥) → same a b ≡ false
differ a b h = by_test (same a b) refl
  where
    by_test : (t : Bool) → same a b ≡ t → same a b ≡ false
    by_test true e = absurd (h ((same_iff a b).0 e))
    by_test false e = e

-- a record past test 7 that is not current is stale
pub judged-stale : {t : Tested} {valid current : Bool} (next : Verdict) → t ≡ Ok tt → valid ≡ true → current ≡ false → judged t valid current next ≡ stale
judged-stale next tests seven eight = rw (tests, seven, eight) refl

-- a good verdict is past test 8
pub past_good : (v : Verdict) (state : List ℕ) → v ≡ good state → past v ≡ true
past_good v state e = rw e refl

pub good_past : (v : Verdict) → is_good v ≡ true → past v ≡ true
good_past (early r) e = absurd (false≢true e)
good_past forged e = absurd (false≢true e)
good_past stale e = absurd (false≢true e)
good_past (barred r) e = absurd (false≢true e)
good_past (good state) e = refl

-- ---- the four calls that are offered a record

-- a record that passed the tests 3, 4 and 5, and has the page's summary
pub record Fits (D : Design) (page l : List ℕ) : Type 0 where
  pub tests : D.tested l ≡ Ok tt
  pub current : D.summary l ≡ D.page_summary page

pub perform_past : (D : Design) (page l request answer : List ℕ) → past (perform_verdict D page l request answer) ≡ true
    → Past (offered D page l request answer) (valid D page l) (same (D.summary l) (D.page_summary page))
unfolding perform_verdict
perform_past D page l request answer e = past_judged _ _ _ (by_service (D.served (D.state_bytes l) request)) e

pub perform_fits : (D : Design) (page l request answer : List ℕ) → past (perform_verdict D page l request answer) ≡ true → Fits D page l
perform_fits D page l request answer e =
    let p = perform_past D page l request answer e in
    record { tests = (offer D page l request answer p.tests).tests; current = (same_iff _ _).0 p.eight }

pub repeat_tests : (D : Design) (page l request answer : List ℕ) → past (repeat_verdict D page l request answer) ≡ true → D.tested l ≡ Ok tt
unfolding repeat_verdict
repeat_tests D page l request answer e =
    let p : Past (offered D page l request answer) (valid D page l) (same (next_summary D (D.summary l) request) (D.page_summary page)) =
    past_judged _ _ _ (by_service (D.served (D.state_bytes l) request)) e in
    (offer D page l request answer p.tests).tests

pub view_fits : (D : Design) (page l : List ℕ) (rack : ℕ) → past (view_verdict D page l rack) ≡ true → Fits D page l
unfolding view_verdict
view_fits D page l rack e =
    let p : Past (looked D page l rack) (valid D page l) (same (D.summary l) (D.page_summary page)) = past_judged _ _ _ (shown D (D.state_bytes l) rack) e in
    record { tests = (both _ _ (both (unless (D.right_page page) Page) _ p.tests).1).0; current = (same_iff _ _).0 p.eight }

pub resume_fits : (D : Design) (page l : List ℕ) → past (resume_verdict D page l) ≡ true → Fits D page l
unfolding resume_verdict
resume_fits D page l e =
    let p = past_judged (and_then (unless (D.right_page page) Page) (D.tested l)) (valid D page l) (same (D.summary l) (D.page_summary page)) (good (D.state_bytes l)) e in
    record { tests = (both (unless (D.right_page page) Page) (D.tested l) p.tests).1; current = (same_iff _ _).0 p.eight }

-- accepted: the state that the service gives
pub perform_good : (D : Design) (page l request answer state : List ℕ) → perform_verdict D page l request answer ≡ good state
    → D.served (D.state_bytes l) request ≡ Served.carried state
unfolding perform_verdict
perform_good D page l request answer state e =
    good_service _ state (good_judged (offered D page l request answer) (valid D page l) (same (D.summary l) (D.page_summary page)) _ state e)

pub repeat_good : (D : Design) (page l request answer state : List ℕ) → repeat_verdict D page l request answer ≡ good state
    → D.served (D.state_bytes l) request ≡ Served.carried state
unfolding repeat_verdict
repeat_good D page l request answer state e =
    good_service _ state (good_judged (offered D page l request answer) (valid D page l) (same (next_summary D (D.summary l) request) (D.page_summary page)) _ state e)

-- view shows the record's own state
shown_state : (D : Design) (state : List ℕ) (rack : ℕ) (fits : Bool) (x : List ℕ)
    → cond fits (good state) (barred Total) ≡ good x → x ≡ state
shown_state D state rack true x e = cc
shown_state D state rack false x e = let z : ◌≡◌ {A = ℕ} 0 1 = cc in absurd (omega arith)

view_good : (D : Design) (page l : List ℕ) (rack : ℕ) (state : List ℕ) → view_verdict D page l rack ≡ good state → state ≡ D.state_bytes l
unfolding view_verdict
view_good D page l rack state e =
    shown_state D (D.state_bytes l) rack (ltb (D.figures (D.state_bytes l) rack).total (256 ^ 4)) state
    (good_judged (looked D page l rack) (valid D page l) (same (D.summary l) (D.page_summary page)) (shown D (D.state_bytes l) rack) state e)

-- ---- numbers

-- no refusal has the number 0
pub some_number : (r : Refusal) → 0 < number_of r
some_number Page = omega arith
some_number Answer = omega arith
some_number Record = omega arith
some_number Version = omega arith
some_number State = omega arith
some_number Request = omega arith
some_number Authenticator = omega arith
some_number Current = omega arith
some_number Capacity = omega arith
some_number Stored = omega arith
some_number Limit = omega arith
some_number Total = omega arith
some_number Fresh = omega arith

-- a call with the number 0 has a good verdict
answered_good : (D : Design) (page l request answer after : List ℕ) (v : Verdict) → (answered_by D page l request answer after v).number ≡ 0
    → (state : List ℕ) × (v ≡ good state)
answered_good D page l request answer after (early r) e = absurd (omega (arith, some_number r))
answered_good D page l request answer after forged e = absurd (omega arith)
answered_good D page l request answer after stale e = absurd (omega arith)
answered_good D page l request answer after (barred r) e = absurd (omega (arith, some_number r))
answered_good D page l request answer after (good state) e = (state, refl)

pub perform_accepted : (D : Design) (page l request answer : List ℕ) → (performed D page l request answer).number ≡ 0
    → (state : List ℕ) × (perform_verdict D page l request answer ≡ good state)
unfolding performed
perform_accepted D page l request answer e = answered_good D page l request answer _ (perform_verdict D page l request answer) e

-- a view with the number 0 shows the figures of the record's own state
view_shows : (D : Design) (rack : ℕ) (own : List ℕ) (v : Verdict) → ((state : List ℕ) → v ≡ good state → state ≡ own) → (viewed_by D rack v).number ≡ 0
    → (viewed_by D rack v).figures ≡ D.figures own rack
view_shows D rack own (early r) is e = absurd (omega (arith, some_number r))
view_shows D rack own forged is e = absurd (omega arith)
view_shows D rack own stale is e = absurd (omega arith)
view_shows D rack own (barred r) is e = absurd (omega (arith, some_number r))
view_shows D rack own (good state) is e = rw (is state refl) refl

pub view_accepted : (D : Design) (page l : List ℕ) (rack : ℕ) → (viewed D page l rack).number ≡ 0
    → (viewed D page l rack).figures ≡ D.figures (D.state_bytes l) rack
unfolding viewed
view_accepted D page l rack e = view_shows D rack (D.state_bytes l) (view_verdict D page l rack) (view_good D page l rack) e

-- what resume hands back is good, and the disk one only where RAM's is not
from-ram : (r d : Bool) → resumed_by r d ≡ Resumed.ram → r ≡ true
from-ram true d e = refl
from-ram false true e = let z : ◌≡◌ {A = ℕ} 0 1 = cc in absurd (omega arith)
from-ram false false e = let z : ◌≡◌ {A = ℕ} 0 1 = cc in absurd (omega arith)

from-disk : (r d : Bool) → resumed_by r d ≡ Resumed.disk → d ≡ true
from-disk true d e = let z : ◌≡◌ {A = ℕ} 0 1 = cc in absurd (omega arith)
from-disk false true e = refl
from-disk false false e = let z : ◌≡◌ {A = ℕ} 0 1 = cc in absurd (omega arith)

pub ram_good : (D : Design) (page in_ram on_disk : List ℕ) → resumed D page in_ram on_disk ≡ Resumed.ram → is_good (resume_verdict D page in_ram) ≡ true
unfolding resumed
ram_good D page in_ram on_disk e = from-ram (is_good (resume_verdict D page in_ram)) (is_good (resume_verdict D page on_disk)) e

pub disk_good : (D : Design) (page in_ram on_disk : List ℕ) → resumed D page in_ram on_disk ≡ Resumed.disk → is_good (resume_verdict D page on_disk) ≡ true
unfolding resumed
disk_good D page in_ram on_disk e = from-disk (is_good (resume_verdict D page in_ram)) (is_good (resume_verdict D page on_disk)) e
