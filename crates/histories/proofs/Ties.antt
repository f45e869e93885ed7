-- What a call found valid, took and moved is what its number says. The idea: the number and what was done are both functions of the
-- verdict, and the numbers of the verdicts stand in the order of the tests. Assumes nothing.
use mathlib.Core.Path.{◌≡◌, refl, ◌∙◌}
use mathlib.Core.Bool.{Bool, true, false, cond}
use Prim.Native.Nat.{ℕ, ◌<◌, ◌^◌}
use native.Mathlib.Omega.{arith}
use mathlib.Core.List.{List, [], ◌∷◌}
use lib.ListN.{length}
use lib.Dec.{leb, ltb}
use Rattle.std.specs.Prelude.{Ok, Err}
use Rattle.numbers.specs.Comparing.{same}
use Rattle.refusals.specs.declared.Refusal.{Refusal}
use Rattle.refusals.specs.declared.Refusal.TheVariants.{Page, Answer, Request, Authenticator, Current, Total}
use Rattle.refusals.specs.Numbers.{number_of}
use Rattle.refusals.specs.Tested.{Tested}
use Rattle.answers.specs.Design.{Design, Served}
use Rattle.answers.specs.Hashing.{next_summary, valid}
use Rattle.answers.specs.Judging.{unless, and_then, Verdict, early, forged, stale, barred, good, judged, by_service, number, offered, looked, shown, perform_verdict, repeat_verdict, view_verdict, resume_verdict}
use Rattle.answers.specs.Answers.{answered_by, performed, repeated, viewed_by, viewed, is_good, resumed_by, resumed}
use Rattle.answers.proofs.Tests.{offer}
use Rattle.histories.specs.Did.{Did, perform_did, repeat_did, look_did, resume_did}
use Rattle.histories.specs.Ties.{PastTest, handed_back, WhereAccepted, DidByNumber, NumberLaws}
use Rattle.histories.proofs.Verdicts.{some_number}

-- ---- the numbers of a verdict

-- the tests before 7 have the numbers before 7
abbrev Low : Tested → Type 0
Low t = (r : Refusal) → t ≡ Err r → number_of r < number_of Authenticator

low_unless : (b : Bool) (x : Refusal) → number_of x < number_of Authenticator → Low (unless b x)
low_unless true x low r e = let z : ◌≡◌ {A = ℕ} 0 1 = cc in absurd (omega arith)
low_unless false x low r e = let is : x ≡ r = cc in rw is at low

low_then : (a b : Tested) → Low a → Low b → Low (and_then a b)
low_then (Err x) b p q = p
low_then (Ok x) b p q = q

-- a verdict whose numbers stand so
record Ordered (v : Verdict) : Type 0 where
  early : (r : Refusal) → v ≡ early r → number_of r < number_of Authenticator
  behind : (r : Refusal) → v ≡ barred r → number_of Current < number_of r

ordered : (t : Tested) (valid current : Bool) (next : Verdict) → Low t → (t ≡ Ok tt → Ordered next) → Ordered (judged t valid current next)
ordered (Err x) v c next low high =
    record { early = λ r e. let is : x ≡ r = cc in low r (rw is refl); behind = λ r e. let z : ◌≡◌ {A = ℕ} 0 1 = cc in absurd (omega arith) }
ordered (Ok x) false c next low high =
    record { early = λ r e. let z : ◌≡◌ {A = ℕ} 0 1 = cc in absurd (omega arith); behind = λ r e. let z : ◌≡◌ {A = ℕ} 0 1 = cc in absurd (omega arith) }
ordered (Ok x) true false next low high =
    record { early = λ r e. let z : ◌≡◌ {A = ℕ} 0 1 = cc in absurd (omega arith); behind = λ r e. let z : ◌≡◌ {A = ℕ} 0 1 = cc in absurd (omega arith) }
ordered (Ok x) true true next low high = high refl

-- past test 8
ordered_good : (state : List ℕ) → Ordered (good state)
ordered_good state =
    record { early = λ r e. let z : ◌≡◌ {A = ℕ} 0 1 = cc in absurd (omega arith); behind = λ r e. let z : ◌≡◌ {A = ℕ} 0 1 = cc in absurd (omega arith) }

ordered_barred : (x : Refusal) → number_of Current < number_of x → Ordered (barred x)
ordered_barred x high =
    record { early = λ r e. let z : ◌≡◌ {A = ℕ} 0 1 = cc in absurd (omega arith); behind = λ r e. let is : x ≡ r = cc in rw is at high }

-- ---- found valid and taken, by the verdict

abbrev found_in : List ℕ → Verdict → List (List ℕ)
found_in l (early r) = []
found_in l forged = []
found_in l stale = l ∷ []
found_in l (barred r) = l ∷ []
found_in l (good state) = l ∷ []

abbrev taken_in : List ℕ → Verdict → List (List ℕ)
taken_in l (early r) = []
taken_in l forged = []
taken_in l stale = []
taken_in l (barred r) = l ∷ []
taken_in l (good state) = l ∷ []

past_seven : (l : List ℕ) (v : Verdict) → Ordered v → PastTest (number_of Authenticator) (number v) l (found_in l v)
past_seven l (early r) o =
    let low = o.early r refl in
    record { accepted = λ e. absurd (omega (arith, some_number r)); behind = λ e. absurd (omega arith); before = λ a b. refl }
past_seven l forged o = record { accepted = λ e. absurd (omega arith); behind = λ e. absurd (omega arith); before = λ a b. refl }
past_seven l stale o = record { accepted = λ e. refl; behind = λ e. refl; before = λ a b. absurd (omega arith) }
past_seven l (barred r) o =
    let high = o.behind r refl in
    record { accepted = λ e. refl; behind = λ e. refl; before = λ a b. absurd (omega arith) }
past_seven l (good state) o = record { accepted = λ e. refl; behind = λ e. refl; before = λ a b. absurd (omega arith) }

past_eight : (l : List ℕ) (v : Verdict) → Ordered v → PastTest (number_of Current) (number v) l (taken_in l v)
past_eight l (early r) o =
    let low = o.early r refl in
    record { accepted = λ e. absurd (omega (arith, some_number r)); behind = λ e. absurd (omega arith); before = λ a b. refl }
past_eight l forged o = record { accepted = λ e. absurd (omega arith); behind = λ e. absurd (omega arith); before = λ a b. refl }
past_eight l stale o = record { accepted = λ e. absurd (omega arith); behind = λ e. absurd (omega arith); before = λ a b. refl }
past_eight l (barred r) o =
    let high = o.behind r refl in
    record { accepted = λ e. refl; behind = λ e. refl; before = λ a b. absurd (omega arith) }
past_eight l (good state) o = record { accepted = λ e. refl; behind = λ e. refl; before = λ a b. absurd (omega arith) }

-- ---- the calls

module _ (D : Design) (page l : List ℕ) where
  pub answered_number : (request answer after : List ℕ) (v : Verdict) → (answered_by D page l request answer after v).number ≡ number v
  answered_number request answer after (early r) = refl
  answered_number request answer after forged = refl
  answered_number request answer after stale = refl
  answered_number request answer after (barred r) = refl
  answered_number request answer after (good state) = refl

  pub viewed_number : (rack : ℕ) (v : Verdict) → (viewed_by D rack v).number ≡ number v
  viewed_number rack (early r) = refl
  viewed_number rack forged = refl
  viewed_number rack stale = refl
  viewed_number rack (barred r) = refl
  viewed_number rack (good state) = refl

  -- perform, view and resume, and what each found and took
  performed_is : (request : List ℕ) (v : Verdict) → ((perform_did D page l request v).found ≡ found_in l v) × ((perform_did D page l request v).taken ≡ taken_in l v)
  performed_is request (early r) = (refl, refl)
  performed_is request forged = (refl, refl)
  performed_is request stale = (refl, refl)
  performed_is request (barred r) = (refl, refl)
  performed_is request (good state) = (refl, refl)

  repeated_is : (request : List ℕ) (v : Verdict) → (repeat_did D page l request v).found ≡ found_in l v
  repeated_is request (early r) = refl
  repeated_is request forged = refl
  repeated_is request stale = refl
  repeated_is request (barred r) = refl
  repeated_is request (good state) = refl

  looked_is : (v : Verdict) → ((look_did D page l v).found ≡ found_in l v) × ((look_did D page l v).taken ≡ taken_in l v)
  looked_is (early r) = (refl, refl)
  looked_is forged = (refl, refl)
  looked_is stale = (refl, refl)
  looked_is (barred r) = (refl, refl)
  looked_is (good state) = (refl, refl)

  moved_where : (request : List ℕ) (v : Verdict) → Ordered v → WhereAccepted (number v) request (perform_did D page l request v).moved
  moved_where request (early r) o = record { accepted = λ e. absurd (omega (arith, some_number r)); refused = λ n. refl }
  moved_where request forged o = record { accepted = λ e. absurd (omega arith); refused = λ n. refl }
  moved_where request stale o = record { accepted = λ e. absurd (omega arith); refused = λ n. refl }
  moved_where request (barred r) o = record { accepted = λ e. absurd (omega (arith, some_number r)); refused = λ n. refl }
  moved_where request (good state) o = record { accepted = λ e. refl; refused = λ n. absurd (n refl) }

-- resume bars nothing, so that what it takes is what is good
abbrev taken_if : Bool → List ℕ → List (List ℕ)
taken_if true l = l ∷ []
taken_if false l = []

looked_if : (D : Design) (page l : List ℕ) (t : Tested) (valid current : Bool) (state : List ℕ)
    → (look_did D page l (judged t valid current (good state))).taken ≡ taken_if (is_good (judged t valid current (good state))) l
looked_if D page l (Err r) v c state = refl
looked_if D page l (Ok x) false c state = refl
looked_if D page l (Ok x) true false state = refl
looked_if D page l (Ok x) true true state = refl

from-disk : (in_ram on_disk : List ℕ) (disks : Bool) → taken_if disks on_disk ≡ handed_back (resumed_by false disks) in_ram on_disk
from-disk in_ram on_disk true = refl
from-disk in_ram on_disk false = refl

resumed_is : (D : Design) (page in_ram on_disk : List ℕ) (t : Tested) (valid current : Bool) (state : List ℕ) (disk : Did) (disks : Bool)
    → disk.taken ≡ taken_if disks on_disk
    → (resume_did (judged t valid current (good state)) (look_did D page in_ram (judged t valid current (good state))) disk).taken
    ≡ handed_back (resumed_by (is_good (judged t valid current (good state))) disks) in_ram on_disk
resumed_is D page in_ram on_disk (Err r) v c state disk disks is = is ∙ from-disk in_ram on_disk disks
resumed_is D page in_ram on_disk (Ok x) false c state disk disks is = is ∙ from-disk in_ram on_disk disks
resumed_is D page in_ram on_disk (Ok x) true false state disk disks is = is ∙ from-disk in_ram on_disk disks
resumed_is D page in_ram on_disk (Ok x) true true state disk disks is = refl

module _ (D : Design) (laws : NumberLaws D) (page : List ℕ) where
  low_offered : (l request answer : List ℕ) → Low (offered D page l request answer)
  low_offered l request answer =
      low_then (unless (D.right_page page) Page) _ (low_unless (D.right_page page) Page (omega arith))
      (low_then (unless (leb D.record_size (length answer)) Answer) _ (low_unless (leb D.record_size (length answer)) Answer (omega arith))
      (low_then (D.tested l) (unless (D.formed request) Request) (laws.early l) (low_unless (D.formed request) Request (omega arith))))

  -- the charge rules are asked about a well-formed request only
  high_served : (s : Served) → ((r : Refusal) → s ≡ Served.barred r → number_of Current < number_of r) → Ordered (by_service s)
  high_served (Served.carried state) high = ordered_good state
  high_served (Served.barred r) high = ordered_barred r (high r refl)

  high_offered : (l request answer : List ℕ) → offered D page l request answer ≡ Ok tt → Ordered (by_service (D.served (D.state_bytes l) request))
  high_offered l request answer passed =
      high_served (D.served (D.state_bytes l) request) (λ r e. laws.behind (D.state_bytes l) request r (offer D page l request answer passed).formed e)

  low_looked : (l : List ℕ) (rack : ℕ) → Low (looked D page l rack)
  low_looked l rack =
      low_then (unless (D.right_page page) Page) _ (low_unless (D.right_page page) Page (omega arith))
      (low_then (D.tested l) (unless (ltb rack D.racks) Request) (laws.early l) (low_unless (ltb rack D.racks) Request (omega arith)))

  high_shown : (fits : Bool) (state : List ℕ) → Ordered (cond fits (good state) (barred Total))
  high_shown true state = ordered_good state
  high_shown false state = ordered_barred Total (omega arith)

  perform_ordered : (l request answer : List ℕ) → Ordered (perform_verdict D page l request answer)
  unfolding perform_verdict
  perform_ordered l request answer =
      ordered (offered D page l request answer) (valid D page l) (same (D.summary l) (D.page_summary page)) (by_service (D.served (D.state_bytes l) request))
      (low_offered l request answer) (high_offered l request answer)

  repeat_ordered : (l request answer : List ℕ) → Ordered (repeat_verdict D page l request answer)
  unfolding repeat_verdict
  repeat_ordered l request answer =
      ordered (offered D page l request answer) (valid D page l) (same (next_summary D (D.summary l) request) (D.page_summary page)) (by_service (D.served (D.state_bytes l) request))
      (low_offered l request answer) (high_offered l request answer)

  view_ordered : (l : List ℕ) (rack : ℕ) → Ordered (view_verdict D page l rack)
  unfolding view_verdict
  view_ordered l rack =
      ordered (looked D page l rack) (valid D page l) (same (D.summary l) (D.page_summary page)) (shown D (D.state_bytes l) rack)
      (low_looked l rack) (λ passed. high_shown (ltb (D.figures (D.state_bytes l) rack).total (256 ^ 4)) (D.state_bytes l))

  abbrev resume_tests : List ℕ → Tested
  resume_tests l = and_then (unless (D.right_page page) Page) (D.tested l)

  pub did_by_number : DidByNumber D page
  unfolding performed repeated viewed resumed resume_verdict
  did_by_number =
      record {
        perform_found = λ l request answer.
            let v = perform_verdict D page l request answer in
            rw (answered_number D page l request answer (D.with_summary page (next_summary D (D.summary l) request)) v, (performed_is D (performed D page l request answer).page l request v).0)
            (past_seven l v (perform_ordered l request answer));
        perform_taken = λ l request answer.
            let v = perform_verdict D page l request answer in
            rw (answered_number D page l request answer (D.with_summary page (next_summary D (D.summary l) request)) v, (performed_is D (performed D page l request answer).page l request v).1)
            (past_eight l v (perform_ordered l request answer));
        perform_moved = λ l request answer.
            let v = perform_verdict D page l request answer in
            rw (answered_number D page l request answer (D.with_summary page (next_summary D (D.summary l) request)) v)
            (moved_where D (performed D page l request answer).page l request v (perform_ordered l request answer));
        repeat_found = λ l request answer.
            let v = repeat_verdict D page l request answer in
            rw (answered_number D page l request answer page v, repeated_is D (repeated D page l request answer).page l request v)
            (past_seven l v (repeat_ordered l request answer));
        view_found = λ l rack.
            let v = view_verdict D page l rack in rw (viewed_number D page l rack v, (looked_is D page l v).0) (past_seven l v (view_ordered l rack));
        view_taken = λ l rack.
            let v = view_verdict D page l rack in rw (viewed_number D page l rack v, (looked_is D page l v).1) (past_eight l v (view_ordered l rack));
        resume_taken = λ in_ram on_disk.
            resumed_is D page in_ram on_disk (resume_tests in_ram) (valid D page in_ram) (same (D.summary in_ram) (D.page_summary page)) (D.state_bytes in_ram) _ _
            (looked_if D page on_disk (resume_tests on_disk) (valid D page on_disk) (same (D.summary on_disk) (D.page_summary page)) (D.state_bytes on_disk));
      }
