-- Document 01, 'Numbers of refusal': the tests of the calls that are offered a record, in the order of the numbers. The first that
-- applies is the answer. What the tests find is one verdict, from which all else follows: what the call answers, and, in the
-- histories, what it found valid, took as current, answered and moved. Assumes nothing.
use Rattle.std.specs.Prelude.{ℕ, Bool, true, false, cond, List, length, leb, ltb, ◌^◌, Ok, Err}
use Rattle.numbers.specs.Comparing.{same}
use Rattle.refusals.specs.declared.Refusal.{Refusal}
use Rattle.refusals.specs.declared.Refusal.TheVariants.{Page, Answer, Request, Authenticator, Current, Total}
use Rattle.refusals.specs.Numbers.{number_of}
use Rattle.refusals.specs.Tested.{Tested}
use Rattle.answers.specs.Design.{Design, Served}
use Rattle.answers.specs.Hashing.{next_summary, valid}

-- a test by itself: refused unless it holds
abbrev pub unless : Bool → Refusal → Tested
unless true r = Ok tt
unless false r = Err r

-- one test after another
abbrev pub and_then : Tested → Tested → Tested
and_then (Err r) next = Err r
and_then (Ok x) next = next

-- what the tests of an offered record find: one of the tests before 7 refuses it; 7: its authenticator is not valid; 8: it is not
-- current; it is current and one of the tests behind 8 refuses it; or it is good, and leads to a state's bytes
pub data Verdict : Type 0 where
  early : Refusal → Verdict
  forged : Verdict
  stale : Verdict
  barred : Refusal → Verdict
  good : List ℕ → Verdict

-- from what the tests before 7, test 7 and test 8 say, each by itself, and the verdict past them
abbrev pub after_valid : Bool → Verdict → Verdict
after_valid false next = stale
after_valid true next = next

abbrev pub after_early : Bool → Bool → Verdict → Verdict
after_early false current next = forged
after_early true current next = after_valid current next

abbrev pub judged : Tested → Bool → Bool → Verdict → Verdict
judged (Err r) valid current next = early r
judged (Ok x) valid current next = after_early valid current next

-- past them, perform and repeat have what the service makes of the request
abbrev pub by_service : Served → Verdict
by_service (Served.carried state) = good state
by_service (Served.barred r) = barred r

-- 01's number for a verdict
abbrev pub number : Verdict → ℕ
number (early r) = number_of r
number forged = number_of Authenticator
number stale = number_of Current
number (barred r) = number_of r
number (good state) = 0

-- tests 1 to 6 of perform and of repeat, from what the page, the room, the record and the request say, each by itself
abbrev pub offer_tests : Bool → Bool → Tested → Bool → Tested
offer_tests right room tested formed =
    and_then (unless right Page)
    (and_then (unless room Answer)
    (and_then tested
    (unless formed Request)))

abbrev pub offered : Design → List ℕ → List ℕ → List ℕ → List ℕ → Tested
offered D page l request answer = offer_tests (D.right_page page) (leb D.record_size (length answer)) (D.tested l) (D.formed request)

-- perform: current is a record whose summary is the page's
unfoldable pub perform_verdict : Design → List ℕ → List ℕ → List ℕ → List ℕ → Verdict
perform_verdict D page l request answer =
    judged (offered D page l request answer) (valid D page l) (same (D.summary l) (D.page_summary page)) (by_service (D.served (D.state_bytes l) request))

-- repeat: current is a record whose summary, moved on by the request, gives the page's
unfoldable pub repeat_verdict : Design → List ℕ → List ℕ → List ℕ → List ℕ → Verdict
repeat_verdict D page l request answer =
    judged (offered D page l request answer) (valid D page l) (same (next_summary D (D.summary l) request) (D.page_summary page)) (by_service (D.served (D.state_bytes l) request))

-- tests 1 to 6 of view, from what the page, the record and the rack say
abbrev pub look_tests : Bool → Tested → Bool → Tested
look_tests right tested inside =
    and_then (unless right Page)
    (and_then tested
    (unless inside Request))

abbrev pub looked : Design → List ℕ → List ℕ → ℕ → Tested
looked D page l rack = look_tests (D.right_page page) (D.tested l) (ltb rack D.racks)

-- past test 8 of view, test 12: the total fits four bytes
abbrev pub shown : Design → List ℕ → ℕ → Verdict
shown D state rack = cond (ltb (D.figures state rack).total (256 ^ 4)) (good state) (barred Total)

-- view: current as for perform
unfoldable pub view_verdict : Design → List ℕ → List ℕ → ℕ → Verdict
view_verdict D page l rack =
    judged (looked D page l rack) (valid D page l) (same (D.summary l) (D.page_summary page)) (shown D (D.state_bytes l) rack)

-- resume: tests 1, 3, 4, 5 and 7, and the record's summary is the page's
unfoldable pub resume_verdict : Design → List ℕ → List ℕ → Verdict
resume_verdict D page l =
    judged (and_then (unless (D.right_page page) Page) (D.tested l)) (valid D page l) (same (D.summary l) (D.page_summary page)) (good (D.state_bytes l))
