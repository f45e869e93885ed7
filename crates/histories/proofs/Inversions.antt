-- What can be read off what a call did: of a record taken, that it fits the page and that the call relied on it and needed its messages;
-- of an answer, from which origin and along which requests it was led to; of the page, whether and where it was moved. The idea: what
-- leaves the page and answers nothing is taken apart once, and so is an answer along a row. Assumes nothing.
use mathlib.Core.Path.{◌≡◌, refl}
use mathlib.Core.Bool.{true}
use mathlib.Core.Logic.{⊎_elim}
use Prim.Native.Nat.{ℕ}
use mathlib.Core.List.Memᴰ
use mathlib.Core.List.{List, [], ◌∷◌, ◌++◌, Memᴰ}
use Rattle.std.specs.Prelude.{Ok, Err}
use Rattle.refusals.specs.Tested.{Tested}
use Rattle.answers.specs.Design.{Design, Served}
use Rattle.answers.specs.Hashing.{next_summary, bound_message, binding_of}
use Rattle.answers.specs.Rows.{summary_along, messages_along, served_along, Origin, origin_summary, origin_state}
use Rattle.answers.specs.Judging.{Verdict, early, forged, stale, barred, good, perform_verdict, repeat_verdict, view_verdict, resume_verdict}
use Rattle.answers.specs.Answers.{open_tests, opened_by, opened, answered_by, performed, repeated}
use Rattle.histories.specs.Calls.{Call, opens, performs, repeats, views, resumes}
use Rattle.histories.specs.Did.{Did, record_messages, nothing, tries, finds, relies, takes, answers, both, open_did, perform_did, repeat_did, look_did, resume_did, did}
use Rattle.histories.specs.Runs.{Step, whole, cut_before, cut_after, call_of, page_after_step, moved_by}
use Rattle.histories.proofs.Paths.{Within}
use Rattle.histories.proofs.Verdicts.{past, Fits, perform_fits, repeat_tests, view_fits, resume_fits, perform_good, repeat_good}

-- ---- what there is to know

-- a record that was relied on
pub record Based (D : Design) (d : Did) (l : List ℕ) : Type 0 where
  pub tests : D.tested l ≡ Ok tt
  pub relies : Memᴰ l d.relied
  pub needs : Within (record_messages D l) d.needed

abbrev pub OriginBased : Design → Did → Origin → Type 0
OriginBased D d Origin.start = Unit {0}
OriginBased D d (Origin.from l) = Based D d l

pub record Taken (D : Design) (page : List ℕ) (d : Did) (l : List ℕ) : Type 0 where
  pub based : Based D d l
  pub fits : Fits D page l

-- a state that a row of requests leads to from an origin
pub record Led (D : Design) (d : Did) (o : Origin) (row : List (List ℕ)) (state : List ℕ) : Type 0 where
  pub based : OriginBased D d o
  pub serves : served_along D (Served.carried (origin_state D o)) row ≡ Served.carried state
  pub chain : Within (messages_along D (origin_summary D o) row) d.needed
  pub states : Memᴰ (D.state_message state) d.needed
  pub bounds : Memᴰ (bound_message D (summary_along D (origin_summary D o) row) state) d.needed

pub record Answered (D : Design) (d : Did) (bound : List ℕ) : Type 0 where
  pub origin : Origin
  pub row : List (List ℕ)
  pub state : List ℕ
  pub led : Led D d origin row state
  pub binds : bound ≡ binding_of D (summary_along D (origin_summary D origin) row) state

-- the page stays, or the next summary of a record taken, by a request, is put in it
pub data Moved (D : Design) (page : List ℕ) (d : Did) (after : List ℕ) (moved : List (List ℕ)) : Type 0 where
  stays : after ≡ page → moved ≡ [] → Moved D page d after moved
  moves : (l request state : List ℕ) → Taken D page d l → Led D d (Origin.from l) (request ∷ []) state
      → after ≡ D.with_summary page (next_summary D (D.summary l) request) → moved ≡ request ∷ [] → Moved D page d after moved

pub record Deed (D : Design) (page : List ℕ) (d : Did) : Type 0 where
  pub takens : (l : List ℕ) → Memᴰ l d.taken → Taken D page d l
  pub answereds : (bound : List ℕ) → Memᴰ bound d.answered → Answered D d bound
  pub moveds : Moved D page d d.page d.moved

-- what answers nothing and leaves the page
pub record Still (D : Design) (page : List ℕ) (d : Did) : Type 0 where
  pub takens : (l : List ℕ) → Memᴰ l d.taken → Taken D page d l
  pub silent : d.answered ≡ []
  pub unmoved : d.moved ≡ []
  pub left : d.page ≡ page

none : {A : Type 0} {x : List ℕ} → Memᴰ x [] → A
none m = absurd (Memᴰ.not-nil m)

-- ---- one thing and then another

module _ (D : Design) (page : List ℕ) where
  based_left : (a b : Did) (l : List ℕ) → Based D a l → Based D (both a b) l
  based_left a b l x =
      record { tests = x.tests; relies = Memᴰ.append_left _ x.relies; needs = λ m n. Memᴰ.append_left _ (x.needs m n) }

  based_right : (a b : Did) (l : List ℕ) → Based D b l → Based D (both a b) l
  based_right a b l x =
      record { tests = x.tests; relies = Memᴰ.append_right a.relied x.relies; needs = λ m n. Memᴰ.append_right a.needed (x.needs m n) }

  taken_both : (a b : Did) → ((l : List ℕ) → Memᴰ l a.taken → Taken D page a l) → ((l : List ℕ) → Memᴰ l b.taken → Taken D page b l)
      → (l : List ℕ) → Memᴰ l (a.taken ++ b.taken) → Taken D page (both a b) l
  taken_both a b x y l m =
      ⊎_elim
      (λ (n : Memᴰ l a.taken). record { based = based_left a b l (x l n).based; fits = (x l n).fits })
      (λ n. record { based = based_right a b l (y l n).based; fits = (y l n).fits })
      (Memᴰ.append_cases a.taken m)

  still_both : (a b : Did) → Still D page a → Still D page b → Still D page (both a b)
  still_both a b x y =
      record {
        takens = taken_both a b x.takens y.takens;
        silent = rw (x.silent, y.silent) refl;
        unmoved = rw (x.unmoved, y.unmoved) refl;
        left = y.left;
      }

  still_deed : (d : Did) → Still D page d → Deed D page d
  still_deed d x = record { takens = x.takens; answereds = λ b m. none (rw x.silent at m); moveds = stays x.left x.unmoved }

  -- ---- what there is to do

  taking_none : (d : Did) → d.taken ≡ [] → d.answered ≡ [] → d.moved ≡ [] → d.page ≡ page → Still D page d
  taking_none d taken answered moved is = record { takens = λ l m. none (rw taken at m); silent = answered; unmoved = moved; left = is }

  relied_based : (after l : List ℕ) → D.tested l ≡ Ok tt → Based D (relies D after l) l
  relied_based after l tests = record { tests = tests; relies = Memᴰ.head refl; needs = λ x m. m }

  takes_taken : (after k : List ℕ) → Fits D page k → (l : List ℕ) → Memᴰ l (takes D after k).taken → Taken D page (takes D after k) l
  takes_taken after k fits l m =
      let e : l ≡ k = Memᴰ.eq_of_singleton m in
      rw e (record { based = record { tests = fits.tests; relies = Memᴰ.head refl; needs = λ x m. m }; fits = fits })

  takes_still : (after k : List ℕ) → after ≡ page → Fits D page k → Still D page (takes D after k)
  takes_still after k is fits = record { takens = takes_taken after k fits; silent = refl; unmoved = refl; left = is }

  -- an answer along a row, behind what its origin rests on
  led_both : (a : Did) (after : List ℕ) (moved : List (List ℕ)) (o : Origin) (row : List (List ℕ)) (state : List ℕ) → OriginBased D a o
      → served_along D (Served.carried (origin_state D o)) row ≡ Served.carried state → Led D (both a (answers D after moved o row state)) o row state
  led_both a after moved o row state based serves =
      let chain = messages_along D (origin_summary D o) row in
      record {
        based = origin_left o based;
        serves = serves;
        chain = λ x m. Memᴰ.append_right a.needed (Memᴰ.append_left _ m);
        states = Memᴰ.append_right a.needed (Memᴰ.append_right chain (Memᴰ.head refl));
        bounds = Memᴰ.append_right a.needed (Memᴰ.append_right chain (Memᴰ.tail (Memᴰ.head refl)));
      }
    where
      origin_left : (o' : Origin) → OriginBased D a o' → OriginBased D (both a (answers D after moved o row state)) o'
      origin_left Origin.start x = tt
      origin_left (Origin.from l) x = based_left a (answers D after moved o row state) l x

  answer_deed : (a : Did) (after : List ℕ) (moved : List (List ℕ)) (o : Origin) (row : List (List ℕ)) (state : List ℕ)
      → ((l : List ℕ) → Memᴰ l a.taken → Taken D page a l) → a.answered ≡ [] → OriginBased D a o
      → served_along D (Served.carried (origin_state D o)) row ≡ Served.carried state
      → Moved D page (both a (answers D after moved o row state)) after (a.moved ++ moved)
      → Deed D page (both a (answers D after moved o row state))
  answer_deed a after moved o row state takens silent based serves shift =
      let b = answers D after moved o row state in
      record {
        takens = taken_both a b takens (λ l m. none m);
        answereds = λ bound m.
            record { origin = o; row = row; state = state; led = led_both a after moved o row state based serves; binds = Memᴰ.eq_of_singleton (rw silent at m) };
        moveds = shift;
      }

  -- ---- the calls

  open_deed : (answer : List ℕ) (t : Tested) (after : List ℕ) → after ≡ (opened_by D page answer t).page → Deed D page (open_did D after t)
  open_deed answer (Err r) after is = still_deed (nothing after) (taking_none (nothing after) refl refl refl is)
  open_deed answer (Ok x) after is =
      answer_deed (nothing after) after [] Origin.start [] D.first_bytes (λ l m. none m) refl tt refl (stays is refl)

  perform_deed : (l request answer : List ℕ) (v : Verdict) (after : List ℕ)
      → after ≡ (answered_by D page l request answer (D.with_summary page (next_summary D (D.summary l) request)) v).page → (past v ≡ true → Fits D page l)
      → ((state : List ℕ) → v ≡ good state → D.served (D.state_bytes l) request ≡ Served.carried state) → Deed D page (perform_did D after l request v)
  perform_deed l request answer (early r) after is fits serves = still_deed (nothing after) (taking_none (nothing after) refl refl refl is)
  perform_deed l request answer forged after is fits serves = still_deed (tries D after l) (taking_none (tries D after l) refl refl refl is)
  perform_deed l request answer stale after is fits serves = still_deed (finds D after l) (taking_none (finds D after l) refl refl refl is)
  perform_deed l request answer (barred r) after is fits serves = still_deed (takes D after l) (takes_still after l is (fits refl))
  perform_deed l request answer (good state) after is fits serves =
      let a = takes D after l in
      let t = takes_taken after l (fits refl) l (Memᴰ.head refl) in
      let served = serves state refl in
      answer_deed a after (request ∷ []) (Origin.from l) (request ∷ []) state (takes_taken after l (fits refl)) refl t.based served
      (moves l request state (taken_both a (answers D after (request ∷ []) (Origin.from l) (request ∷ []) state) (takes_taken after l (fits refl)) (λ l m. none m) l (Memᴰ.head refl))
      (led_both a after (request ∷ []) (Origin.from l) (request ∷ []) state t.based served) is refl)

  repeat_deed : (l request answer : List ℕ) (v : Verdict) (after : List ℕ) → after ≡ (answered_by D page l request answer page v).page
      → (past v ≡ true → D.tested l ≡ Ok tt)
      → ((state : List ℕ) → v ≡ good state → D.served (D.state_bytes l) request ≡ Served.carried state) → Deed D page (repeat_did D after l request v)
  repeat_deed l request answer (early r) after is tests serves = still_deed (nothing after) (taking_none (nothing after) refl refl refl is)
  repeat_deed l request answer forged after is tests serves = still_deed (tries D after l) (taking_none (tries D after l) refl refl refl is)
  repeat_deed l request answer stale after is tests serves =
      still_deed (repeat_did D after l request stale) (taking_none (repeat_did D after l request stale) refl refl refl is)
  repeat_deed l request answer (barred r) after is tests serves =
      still_deed (repeat_did D after l request (barred r)) (taking_none (repeat_did D after l request (barred r)) refl refl refl is)
  repeat_deed l request answer (good state) after is tests serves =
      answer_deed (relies D after l) after [] (Origin.from l) (request ∷ []) state (λ l m. none m) refl (relied_based after l (tests refl)) (serves state refl) (stays is refl)

  look_still : (l : List ℕ) (v : Verdict) → (past v ≡ true → Fits D page l) → Still D page (look_did D page l v)
  look_still l (early r) fits = taking_none (nothing page) refl refl refl refl
  look_still l forged fits = taking_none (tries D page l) refl refl refl refl
  look_still l stale fits = taking_none (finds D page l) refl refl refl refl
  look_still l (barred r) fits = takes_still page l refl (fits refl)
  look_still l (good state) fits = takes_still page l refl (fits refl)

  resume_still : (v : Verdict) (ram disk : Did) → Still D page ram → Still D page disk → Still D page (resume_did v ram disk)
  resume_still (good state) ram disk x y = x
  resume_still (early r) ram disk x y = still_both ram disk x y
  resume_still forged ram disk x y = still_both ram disk x y
  resume_still stale ram disk x y = still_both ram disk x y
  resume_still (barred r) ram disk x y = still_both ram disk x y

  pub deed : (c : Call) → Deed D page (did D page c)
  unfolding opened performed repeated
  deed (opens answer) = open_deed answer (open_tests D page answer) _ refl
  deed (performs l request answer) =
      perform_deed l request answer (perform_verdict D page l request answer) _ refl (perform_fits D page l request answer) (perform_good D page l request answer)
  deed (repeats l request answer) =
      repeat_deed l request answer (repeat_verdict D page l request answer) _ refl (repeat_tests D page l request answer) (repeat_good D page l request answer)
  deed (views l rack) = still_deed _ (look_still l (view_verdict D page l rack) (view_fits D page l rack))
  deed (resumes in_ram on_disk) =
      still_deed _ (resume_still (resume_verdict D page in_ram) _ _
      (look_still in_ram (resume_verdict D page in_ram) (resume_fits D page in_ram)) (look_still on_disk (resume_verdict D page on_disk) (resume_fits D page on_disk)))

  -- a step moves the page as its call does, or was cut with the page of before
  pub moved_step : (s : Step) → Moved D page (did D page (call_of s)) (page_after_step D page s) (moved_by D page s)
  moved_step (whole c) = (deed c).moveds
  moved_step (cut_before c) = stays refl refl
  moved_step (cut_after c) = (deed c).moveds
