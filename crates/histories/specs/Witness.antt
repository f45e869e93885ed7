-- A run written out, step by step. The premises and the theorems read what the calls of a run hashed, found valid, relied on, took, answered
-- and moved by a definition (`did`) that no theorem can hold to the truth: with an entry left out a theorem stays true and says less. Here
-- is one run of 31 steps, with cuts, refusals and accepted calls, and what each step did, spelled out and computed to be so; the page that
-- a step finds is written beside it. Assumes nothing.
use Rattle.std.specs.Prelude.{◌≡◌, refl, Bool, true, false, cond, ◌&&◌, ℕ, List, [], ◌∷◌, ◌++◌, drop, eqb}
use Rattle.numbers.specs.Comparing.{same}
use Rattle.answers.specs.Answers.{opened, performed, repeated, viewed, resumed, resumed_number}
use Rattle.histories.specs.Calls.{Call, opens, performs, repeats, views, resumes}
use Rattle.histories.specs.Did.{did}
use Rattle.histories.specs.Runs.{Step, whole, cut_before, cut_after, call_of, Run, page_after_step, moved_by}
use Rattle.histories.specs.Toy.{toy, stating, moving, binding, bound, a, b, c, d, e, summary_0, summary_a, summary_ab, summary_ac, summary_acd, summary_acdb, state_0, state_a, state_ab, state_ac, state_acd, state_acdb, rack_by, fresh, page_a, page_ac, page_acd, page_acdb, room, answer_of, record_0, record_a, record_ab, record_ac, record_acd, record_acdb, record_forged, record_short, of_0, of_a, of_ab, of_ac, of_acd, of_acdb, of_forged, computing}

-- ---- what a step did, in parts

pub data Part : Type 0 where
  number : Part
  page : Part
  buffer : Part
  moved : Part
  hashed : Part
  found : Part
  taken : Part
  answered : Part
  needed : Part
  relied : Part

-- the number that a call answers, and what its buffer holds afterwards, if it has one
abbrev number_by : List ℕ → Call → ℕ
number_by before (opens answer) = (opened toy before answer).number
number_by before (performs l request answer) = (performed toy before l request answer).number
number_by before (repeats l request answer) = (repeated toy before l request answer).number
number_by before (views l rack) = (viewed toy before l rack).number
number_by before (resumes in_ram on_disk) = resumed_number (resumed toy before in_ram on_disk)

abbrev buffer_by : List ℕ → Call → List (List ℕ)
buffer_by before (opens answer) = (opened toy before answer).answer ∷ []
buffer_by before (performs l request answer) = (performed toy before l request answer).answer ∷ []
buffer_by before (repeats l request answer) = (repeated toy before l request answer).answer ∷ []
buffer_by before (views l rack) = []
buffer_by before (resumes in_ram on_disk) = []

-- each part as a list of byte lists, on the page before the step
abbrev doing : List ℕ → Step → Part → List (List ℕ)
doing before s Part.number = (number_by before (call_of s) ∷ []) ∷ []
doing before s Part.page = page_after_step toy before s ∷ []
doing before s Part.buffer = buffer_by before (call_of s)
doing before s Part.moved = moved_by toy before s
doing before s Part.hashed = (did toy before (call_of s)).hashed
doing before s Part.found = (did toy before (call_of s)).found
doing before s Part.taken = (did toy before (call_of s)).taken
doing before s Part.answered = (did toy before (call_of s)).answered
doing before s Part.needed = (did toy before (call_of s)).needed
doing before s Part.relied = (did toy before (call_of s)).relied

-- ---- what is spelled out: some parts, and the others are empty

pub record Entry : Type 0 where
  pub part : Part
  pub is : List (List ℕ)

abbrev has : Part → List (List ℕ) → Entry
has part is = record { part = part; is = is }

abbrev parts : List Part
parts = Part.number ∷ Part.page ∷ Part.buffer ∷ Part.moved ∷ Part.hashed ∷ Part.found ∷ Part.taken ∷ Part.answered ∷ Part.needed ∷ Part.relied ∷ []

abbrev index : Part → ℕ
index Part.number = 0
index Part.page = 1
index Part.buffer = 2
index Part.moved = 3
index Part.hashed = 4
index Part.found = 5
index Part.taken = 6
index Part.answered = 7
index Part.needed = 8
index Part.relied = 9

abbrev spelled : List Entry → Part → List (List ℕ)
spelled [] part = []
spelled (entry ∷ entries) part = cond (eqb (index part) (index entry.part)) entry.is (spelled entries part)

abbrev same_lists : List (List ℕ) → List (List ℕ) → Bool
same_lists [] [] = true
same_lists [] (y ∷ ys) = false
same_lists (x ∷ xs) [] = false
same_lists (x ∷ xs) (y ∷ ys) = same x y && same_lists xs ys

-- the parts in which the two differ, so that a wrong entry is named
abbrev differing : (Part → List (List ℕ)) → (Part → List (List ℕ)) → List Part → List Part
differing did said [] = []
differing did said (part ∷ rest) = cond (same_lists (did part) (said part)) (differing did said rest) (part ∷ differing did said rest)

-- a step, on the page before it, answers this number, leaves this page, and did just this
abbrev Stepped : List ℕ → Step → ℕ → List ℕ → List Entry → Type 0
Stepped before s k after entries =
    differing (doing before s) (spelled (has Part.number ((k ∷ []) ∷ []) ∷ has Part.page (after ∷ []) ∷ entries)) parts ≡ []

-- ---- the steps

-- 1. open
pub step_1 : Stepped fresh (whole (opens room)) 0 fresh
    (has buffer (record_0 ∷ []) ∷ has hashed of_0 ∷ has answered (bound summary_0 state_0 ∷ []) ∷ has needed of_0 ∷ [])
unfolding computing
step_1 = refl

-- 2. open again, cut
pub step_2 : Stepped fresh (cut_before (opens room)) 0 fresh
    (has buffer (record_0 ∷ []) ∷ has hashed of_0 ∷ has answered (bound summary_0 state_0 ∷ []) ∷ has needed of_0 ∷ [])
unfolding computing
step_2 = refl

-- 3. perform
pub step_3 : Stepped fresh (whole (performs record_0 a room)) 0 page_a
    (has buffer (record_a ∷ []) ∷ has moved (a ∷ []) ∷ has hashed (of_0 ++ moving summary_0 a ∷ of_a)
    ∷ has found (record_0 ∷ []) ∷ has taken (record_0 ∷ []) ∷ has answered (bound summary_a state_a ∷ [])
    ∷ has needed (of_0 ++ moving summary_0 a ∷ of_a) ∷ has relied (record_0 ∷ []) ∷ [])
unfolding computing
step_3 = refl

-- 4. view
pub step_4 : Stepped page_a (whole (views record_a 0)) 0 page_a
    (has hashed of_a ∷ has found (record_a ∷ []) ∷ has taken (record_a ∷ []) ∷ has needed of_a
    ∷ has relied (record_a ∷ []) ∷ [])
unfolding computing
step_4 = refl

-- 5. perform, cut with the page of before: it answers a side branch, and moves nothing
pub step_5 : Stepped page_a (cut_before (performs record_a b room)) 0 page_a
    (has buffer (record_ab ∷ []) ∷ has hashed (of_a ++ moving summary_a b ∷ of_ab) ∷ has found (record_a ∷ [])
    ∷ has taken (record_a ∷ []) ∷ has answered (bound summary_ab state_ab ∷ [])
    ∷ has needed (of_a ++ moving summary_a b ∷ of_ab) ∷ has relied (record_a ∷ []) ∷ [])
unfolding computing
step_5 = refl

-- 6. the record of the cut call: 8; it is found valid, and not taken
pub step_6 : Stepped page_a (whole (views record_ab 0)) 8 page_a
    (has hashed of_ab ∷ has found (record_ab ∷ []) ∷ [])
unfolding computing
step_6 = refl

-- 7. another request instead, cut with the page of after: it moves the page
pub step_7 : Stepped page_a (cut_after (performs record_a c room)) 0 page_ac
    (has buffer (record_ac ∷ []) ∷ has moved (c ∷ []) ∷ has hashed (of_a ++ moving summary_a c ∷ of_ac)
    ∷ has found (record_a ∷ []) ∷ has taken (record_a ∷ []) ∷ has answered (bound summary_ac state_ac ∷ [])
    ∷ has needed (of_a ++ moving summary_a c ∷ of_ac) ∷ has relied (record_a ∷ []) ∷ [])
unfolding computing
step_7 = refl

-- 8. repeat answers the record of the cut call; its record is relied on, and not taken
pub step_8 : Stepped page_ac (whole (repeats record_a c room)) 0 page_ac
    (has buffer (record_ac ∷ []) ∷ has hashed (of_a ++ moving summary_a c ∷ of_ac) ∷ has found (record_a ∷ [])
    ∷ has answered (bound summary_ac state_ac ∷ []) ∷ has needed (of_a ++ moving summary_a c ∷ of_ac)
    ∷ has relied (record_a ∷ []) ∷ [])
unfolding computing
step_8 = refl

-- 9. a repeat of a request that is not behind the page's summary: 8; it has hashed the next summary
pub step_9 : Stepped page_ac (whole (repeats record_a b room)) 8 page_ac
    (has buffer (room ∷ []) ∷ has hashed (of_a ++ moving summary_a b ∷ []) ∷ has found (record_a ∷ []) ∷ [])
unfolding computing
step_9 = refl

-- 10. perform: the record of the cut call is taken
pub step_10 : Stepped page_ac (whole (performs record_ac d room)) 0 page_acd
    (has buffer (record_acd ∷ []) ∷ has moved (d ∷ []) ∷ has hashed (of_ac ++ moving summary_ac d ∷ of_acd)
    ∷ has found (record_ac ∷ []) ∷ has taken (record_ac ∷ []) ∷ has answered (bound summary_acd state_acd ∷ [])
    ∷ has needed (of_ac ++ moving summary_ac d ∷ of_acd) ∷ has relied (record_ac ∷ []) ∷ [])
unfolding computing
step_10 = refl

-- 11. past test 8, and refused behind it: 9; the record is taken
pub step_11 : Stepped page_acd (whole (performs record_acd e room)) 9 page_acd
    (has buffer (room ∷ []) ∷ has hashed of_acd ∷ has found (record_acd ∷ []) ∷ has taken (record_acd ∷ [])
    ∷ has needed of_acd ∷ has relied (record_acd ∷ []) ∷ [])
unfolding computing
step_11 = refl

-- 12. the same, cut with the page of after; it would have been refused, so it answers and moves nothing
pub step_12 : Stepped page_acd (cut_after (performs record_acd e room)) 9 page_acd
    (has buffer (room ∷ []) ∷ has hashed of_acd ∷ has found (record_acd ∷ []) ∷ has taken (record_acd ∷ [])
    ∷ has needed of_acd ∷ has relied (record_acd ∷ []) ∷ [])
unfolding computing
step_12 = refl

-- 13. resume with both records current: the RAM one, and the disk one is not looked at
pub step_13 : Stepped page_acd (whole (resumes record_acd record_acd)) 1 page_acd
    (has hashed of_acd ∷ has found (record_acd ∷ []) ∷ has taken (record_acd ∷ []) ∷ has needed of_acd
    ∷ has relied (record_acd ∷ []) ∷ [])
unfolding computing
step_13 = refl

-- 14. resume with an old record in RAM: the disk one
pub step_14 : Stepped page_acd (whole (resumes record_ac record_acd)) 2 page_acd
    (has hashed (of_ac ++ of_acd) ∷ has found (record_ac ∷ record_acd ∷ []) ∷ has taken (record_acd ∷ [])
    ∷ has needed of_acd ∷ has relied (record_acd ∷ []) ∷ [])
unfolding computing
step_14 = refl

-- 15. view of the forged record: 7; it is hashed, and not found valid
pub step_15 : Stepped page_acd (whole (views record_forged 0)) 7 page_acd
    (has hashed of_forged ∷ [])
unfolding computing
step_15 = refl

-- 16. a request that is a byte short: 6
pub step_16 : Stepped page_acd (whole (performs record_acd (drop 1 d) room)) 6 page_acd
    (has buffer (room ∷ []) ∷ [])
unfolding computing
step_16 = refl

-- 17. perform on the forged record: 7
pub step_17 : Stepped page_acd (whole (performs record_forged d room)) 7 page_acd
    (has buffer (room ∷ []) ∷ has hashed of_forged ∷ [])
unfolding computing
step_17 = refl

-- 18. a repeat with a buffer that is a byte short: 2
pub step_18 : Stepped page_acd (whole (repeats record_ac d (drop 1 room))) 2 page_acd
    (has buffer (drop 1 room ∷ []) ∷ [])
unfolding computing
step_18 = refl

-- 19. repeat of the forged record: 7
pub step_19 : Stepped page_acd (whole (repeats record_forged d room)) 7 page_acd
    (has buffer (room ∷ []) ∷ has hashed of_forged ∷ [])
unfolding computing
step_19 = refl

-- 20. resume with two records that will not do: neither
pub step_20 : Stepped page_acd (whole (resumes record_short record_forged)) 0 page_acd
    (has hashed of_forged ∷ [])
unfolding computing
step_20 = refl

-- 21. resume, cut, with the forged record in RAM: the disk one
pub step_21 : Stepped page_acd (cut_after (resumes record_forged record_acd)) 2 page_acd
    (has hashed (of_forged ++ of_acd) ∷ has found (record_acd ∷ []) ∷ has taken (record_acd ∷ [])
    ∷ has needed of_acd ∷ has relied (record_acd ∷ []) ∷ [])
unfolding computing
step_21 = refl

-- 22. the side branch's record, which stays behind: 8
pub step_22 : Stepped page_acd (whole (performs record_ab d room)) 8 page_acd
    (has buffer (room ∷ []) ∷ has hashed of_ab ∷ has found (record_ab ∷ []) ∷ [])
unfolding computing
step_22 = refl

-- 23. a record that is a byte short: 3
pub step_23 : Stepped page_acd (whole (views record_short 0)) 3 page_acd []
unfolding computing
step_23 = refl

-- 24. open on a page that is not fresh: 13
pub step_24 : Stepped page_acd (whole (opens room)) 13 page_acd
    (has buffer (room ∷ []) ∷ [])
unfolding computing
step_24 = refl

-- 25. a repeat, accepted and cut
pub step_25 : Stepped page_acd (cut_before (repeats record_ac d room)) 0 page_acd
    (has buffer (record_acd ∷ []) ∷ has hashed (of_ac ++ moving summary_ac d ∷ of_acd) ∷ has found (record_ac ∷ [])
    ∷ has answered (bound summary_acd state_acd ∷ []) ∷ has needed (of_ac ++ moving summary_ac d ∷ of_acd)
    ∷ has relied (record_ac ∷ []) ∷ [])
unfolding computing
step_25 = refl

-- 26. a view, cut
pub step_26 : Stepped page_acd (cut_before (views record_acd 0)) 0 page_acd
    (has hashed of_acd ∷ has found (record_acd ∷ []) ∷ has taken (record_acd ∷ []) ∷ has needed of_acd
    ∷ has relied (record_acd ∷ []) ∷ [])
unfolding computing
step_26 = refl

-- 27. perform, cut with the page of before
pub step_27 : Stepped page_acd (cut_before (performs record_acd b room)) 0 page_acd
    (has buffer (record_acdb ∷ []) ∷ has hashed (of_acd ++ moving summary_acd b ∷ of_acdb)
    ∷ has found (record_acd ∷ []) ∷ has taken (record_acd ∷ []) ∷ has answered (bound summary_acdb state_acdb ∷ [])
    ∷ has needed (of_acd ++ moving summary_acd b ∷ of_acdb) ∷ has relied (record_acd ∷ []) ∷ [])
unfolding computing
step_27 = refl

-- 28. so repeat is refused: 8
pub step_28 : Stepped page_acd (whole (repeats record_acd b room)) 8 page_acd
    (has buffer (room ∷ []) ∷ has hashed (of_acd ++ moving summary_acd b ∷ []) ∷ has found (record_acd ∷ []) ∷ [])
unfolding computing
step_28 = refl

-- 29. and the same perform is accepted, and answers the record of the cut call
pub step_29 : Stepped page_acd (whole (performs record_acd b room)) 0 page_acdb
    (has buffer (record_acdb ∷ []) ∷ has moved (b ∷ []) ∷ has hashed (of_acd ++ moving summary_acd b ∷ of_acdb)
    ∷ has found (record_acd ∷ []) ∷ has taken (record_acd ∷ []) ∷ has answered (bound summary_acdb state_acdb ∷ [])
    ∷ has needed (of_acd ++ moving summary_acd b ∷ of_acdb) ∷ has relied (record_acd ∷ []) ∷ [])
unfolding computing
step_29 = refl

-- 30. which is current then
pub step_30 : Stepped page_acdb (whole (views record_acdb 0)) 0 page_acdb
    (has hashed of_acdb ∷ has found (record_acdb ∷ []) ∷ has taken (record_acdb ∷ []) ∷ has needed of_acdb
    ∷ has relied (record_acdb ∷ []) ∷ [])
unfolding computing
step_30 = refl

-- 31. resume with it in RAM, and the one before it on disk: the RAM one
pub step_31 : Stepped page_acdb (whole (resumes record_acdb record_acd)) 1 page_acdb
    (has hashed of_acdb ∷ has found (record_acdb ∷ []) ∷ has taken (record_acdb ∷ []) ∷ has needed of_acdb
    ∷ has relied (record_acdb ∷ []) ∷ [])
unfolding computing
step_31 = refl

-- ---- a repeat that is refused behind test 8

-- its record has the right authenticator for a state that no request gave, so no run that meets the premises has such a repeat; what it does
-- is looked at by itself
abbrev state_other : List ℕ
state_other = rack_by 100 90 90 0

pub barred_repeat : Stepped page_ac (whole (repeats (answer_of summary_a state_other) c room)) 9 page_ac
    (has buffer (room ∷ []) ∷ has hashed (stating state_other ∷ binding summary_a state_other ∷ moving summary_a c ∷ [])
    ∷ has found (answer_of summary_a state_other ∷ []) ∷ [])
unfolding computing
barred_repeat = refl

-- ---- the run, the newest step first

abbrev pub run : Run
run =
    whole (resumes record_acdb record_acd)
    ∷ whole (views record_acdb 0)
    ∷ whole (performs record_acd b room)
    ∷ whole (repeats record_acd b room)
    ∷ cut_before (performs record_acd b room)
    ∷ cut_before (views record_acd 0)
    ∷ cut_before (repeats record_ac d room)
    ∷ whole (opens room)
    ∷ whole (views record_short 0)
    ∷ whole (performs record_ab d room)
    ∷ cut_after (resumes record_forged record_acd)
    ∷ whole (resumes record_short record_forged)
    ∷ whole (repeats record_forged d room)
    ∷ whole (repeats record_ac d (drop 1 room))
    ∷ whole (performs record_forged d room)
    ∷ whole (performs record_acd (drop 1 d) room)
    ∷ whole (views record_forged 0)
    ∷ whole (resumes record_ac record_acd)
    ∷ whole (resumes record_acd record_acd)
    ∷ cut_after (performs record_acd e room)
    ∷ whole (performs record_acd e room)
    ∷ whole (performs record_ac d room)
    ∷ whole (repeats record_a b room)
    ∷ whole (repeats record_a c room)
    ∷ cut_after (performs record_a c room)
    ∷ whole (views record_ab 0)
    ∷ cut_before (performs record_a b room)
    ∷ whole (views record_a 0)
    ∷ whole (performs record_0 a room)
    ∷ cut_before (opens room)
    ∷ whole (opens room)
    ∷ []
