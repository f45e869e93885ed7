-- What a call did, beside its number and its answer buffer: one record, from the verdict that the tests give. A new call is one clause
-- of `did`. Assumes nothing.
use Rattle.std.specs.Prelude.{ℕ, List, [], ◌∷◌, ◌++◌, Ok, Err}
use Rattle.refusals.specs.Tested.{Tested}
use Rattle.bindings.specs.Hashed.{summary_message}
use Rattle.answers.specs.Design.{Design}
use Rattle.answers.specs.Hashing.{bound_message, binding_of}
use Rattle.answers.specs.Rows.{summary_along, messages_along, Origin, origin_summary}
use Rattle.answers.specs.Judging.{Verdict, early, forged, stale, barred, good, perform_verdict, repeat_verdict, view_verdict, resume_verdict}
use Rattle.answers.specs.Answers.{open_tests, opened, performed, repeated}
use Rattle.histories.specs.Calls.{Call, opens, performs, repeats, views, resumes}

pub record Did : Type 0 where
  -- the page afterwards
  pub page : List ℕ
  -- every message that it hashed for summaries, states and bindings, refused calls too
  pub hashed : List (List ℕ)
  -- the records that it found valid: those that passed test 7
  pub found : List (List ℕ)
  -- the records that it took as current: of a perform or a view past test 8, refused behind it or not, and the one that resume hands back
  pub taken : List (List ℕ)
  -- the bindings of the records that it answered
  pub answered : List (List ℕ)
  -- the requests by which it moved the page
  pub moved : List (List ℕ)
  -- the fewer that the argument rests on: the messages of records taken, or accepted by repeat, and of records answered; and the records
  -- taken, or accepted by repeat
  pub needed : List (List ℕ)
  pub relied : List (List ℕ)

-- ---- messages

-- the two that bind a state to a summary: the state's, and the binding's
abbrev pub bound_messages : Design → List ℕ → List ℕ → List (List ℕ)
bound_messages D summary state = D.state_message state ∷ bound_message D summary state ∷ []

-- those of a record
abbrev pub record_messages : Design → List ℕ → List (List ℕ)
record_messages D l = bound_messages D (D.summary l) (D.state_bytes l)

-- those of an answer: of the summaries along the row, and the two that bind the state to the last
abbrev pub answer_messages : Design → Origin → List (List ℕ) → List ℕ → List (List ℕ)
answer_messages D o row state = messages_along D (origin_summary D o) row ++ bound_messages D (summary_along D (origin_summary D o) row) state

-- ---- what there is to do; `page` is the page afterwards

abbrev pub nothing : List ℕ → Did
nothing page = record { page = page; hashed = []; found = []; taken = []; answered = []; moved = []; needed = []; relied = [] }

-- messages are hashed
abbrev pub hashes : List ℕ → List (List ℕ) → Did
hashes page messages = record { page = page; hashed = messages; found = []; taken = []; answered = []; moved = []; needed = []; relied = [] }

-- a record is hashed to make test 7, which fails; or passes
abbrev pub tries : Design → List ℕ → List ℕ → Did
tries D page l = hashes page (record_messages D l)

abbrev pub finds : Design → List ℕ → List ℕ → Did
finds D page l =
    record { page = page; hashed = record_messages D l; found = l ∷ []; taken = []; answered = []; moved = []; needed = []; relied = [] }

-- it passes, and the call goes on with the record; and takes it as current
abbrev pub relies : Design → List ℕ → List ℕ → Did
relies D page l =
    record { page = page; hashed = record_messages D l; found = l ∷ []; taken = []; answered = []; moved = []; needed = record_messages D l; relied = l ∷ [] }

abbrev pub takes : Design → List ℕ → List ℕ → Did
takes D page l =
    record { page = page; hashed = record_messages D l; found = l ∷ []; taken = l ∷ []; answered = []; moved = []; needed = record_messages D l; relied = l ∷ [] }

-- from an origin along a row of requests a state's record is answered, and the page is moved by `moved`
abbrev pub answers : Design → List ℕ → List (List ℕ) → Origin → List (List ℕ) → List ℕ → Did
answers D page moved o row state =
    record {
      page = page;
      hashed = answer_messages D o row state;
      found = [];
      taken = [];
      answered = binding_of D (summary_along D (origin_summary D o) row) state ∷ [];
      moved = moved;
      needed = answer_messages D o row state;
      relied = [];
    }

-- one thing and then another
abbrev pub both : Did → Did → Did
both a b =
    record {
      page = b.page;
      hashed = a.hashed ++ b.hashed;
      found = a.found ++ b.found;
      taken = a.taken ++ b.taken;
      answered = a.answered ++ b.answered;
      moved = a.moved ++ b.moved;
      needed = a.needed ++ b.needed;
      relied = a.relied ++ b.relied;
    }

-- ---- the calls

abbrev pub open_did : Design → List ℕ → Tested → Did
open_did D page (Err r) = nothing page
open_did D page (Ok x) = answers D page [] Origin.start [] D.first_bytes

abbrev pub perform_did : Design → List ℕ → List ℕ → List ℕ → Verdict → Did
perform_did D page l request (early r) = nothing page
perform_did D page l request forged = tries D page l
perform_did D page l request stale = finds D page l
perform_did D page l request (barred r) = takes D page l
perform_did D page l request (good state) = both (takes D page l) (answers D page (request ∷ []) (Origin.from l) (request ∷ []) state)

-- repeat hashes the next summary to make test 8
abbrev pub repeat_did : Design → List ℕ → List ℕ → List ℕ → Verdict → Did
repeat_did D page l request (early r) = nothing page
repeat_did D page l request forged = tries D page l
repeat_did D page l request stale = both (finds D page l) (hashes page (summary_message (D.summary l) request ∷ []))
repeat_did D page l request (barred r) = both (finds D page l) (hashes page (summary_message (D.summary l) request ∷ []))
repeat_did D page l request (good state) = both (relies D page l) (answers D page [] (Origin.from l) (request ∷ []) state)

-- view, and resume with one of its records
abbrev pub look_did : Design → List ℕ → List ℕ → Verdict → Did
look_did D page l (early r) = nothing page
look_did D page l forged = tries D page l
look_did D page l stale = finds D page l
look_did D page l (barred r) = takes D page l
look_did D page l (good state) = takes D page l

-- resume looks at the disk record only where RAM's is not current
abbrev pub resume_did : Verdict → Did → Did → Did
resume_did (good state) ram disk = ram
resume_did (early r) ram disk = both ram disk
resume_did forged ram disk = both ram disk
resume_did stale ram disk = both ram disk
resume_did (barred r) ram disk = both ram disk

abbrev pub did : Design → List ℕ → Call → Did
did D page (opens answer) = open_did D (opened D page answer).page (open_tests D page answer)
did D page (performs l request answer) =
    perform_did D (performed D page l request answer).page l request (perform_verdict D page l request answer)
did D page (repeats l request answer) =
    repeat_did D (repeated D page l request answer).page l request (repeat_verdict D page l request answer)
did D page (views l rack) = look_did D page l (view_verdict D page l rack)
did D page (resumes in_ram on_disk) =
    resume_did (resume_verdict D page in_ram) (look_did D page in_ram (resume_verdict D page in_ram)) (look_did D page on_disk (resume_verdict D page on_disk))
