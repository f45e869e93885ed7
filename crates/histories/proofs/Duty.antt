-- The duty after a cut in a perform that would have been accepted: with the page of before the same perform is accepted and repeat gives
-- 8; with the page of after it is the other way round; the record answered is that of the uncut call. The idea: both halves of 'exactly
-- one' rest on this, that no request leads back to the summary that it starts from. Nothing is asked of authenticators. Assumes nothing.
use mathlib.Core.Path.{◌≡◌, refl, sym, ap, ◌∙◌}
use mathlib.Core.Bool.{Bool, true}
use Prim.Native.Nat.{ℕ, ◌≤◌}
use native.Mathlib.Omega.{arith}
use mathlib.Core.List.{List, [], ◌∷◌, ◌++◌, Memᴰ}
use lib.ListN.{length, length-append}
use Rattle.std.specs.Prelude.{Ok, Err}
use Rattle.numbers.specs.Parts.{over}
use Rattle.numbers.specs.Comparing.{same}
use Rattle.numbers.proofs.Comparison.{same_iff}
use Rattle.numbers.proofs.Parts.{part-over}
use Rattle.refusals.specs.Tested.{Tested}
use Rattle.bindings.specs.Hashed.{summary_message}
use Rattle.answers.specs.Design.{Design, Served}
use Rattle.answers.specs.Hashing.{next_summary, binding_of, binding_in, valid}
use Rattle.answers.specs.Judging.{Verdict, early, forged, stale, barred, good, judged, by_service, offered, perform_verdict, repeat_verdict, view_verdict, resume_verdict}
use Rattle.answers.specs.Answers.{open_tests, Performed, next_record, answered_by, performed, repeated}
use Rattle.answers.specs.Written.{front}
use Rattle.answers.proofs.Tests.{Offer, offer, offered-passes}
use Rattle.histories.specs.Calls.{Call, opens, performs, repeats, views, resumes}
use Rattle.histories.specs.Did.{Did, takes, open_did, perform_did, repeat_did, look_did, resume_did, did}
use Rattle.histories.specs.Runs.{Step, whole, cut_before, cut_after, Run, call_of, Fresh, page_after_step, moved_by, page_after, moved_before}
use Rattle.histories.specs.Laws.{Laws}
use Rattle.histories.specs.Premises.{FewerHashPremise}
use Rattle.histories.specs.Duty.{Retried, ByPerform, ByRepeat, Duty, NoPerform, DutyWithoutPerform}
use Rattle.histories.proofs.Paths.{end_of, never_back}
use Rattle.histories.proofs.Steps.{each_before}
use Rattle.histories.proofs.Verdicts.{differ, judged-stale, Past, past_good, perform_past, perform_good, perform_accepted}
use Rattle.histories.proofs.Inversions.{Moved, stays, moves, moved_step}
use Rattle.histories.proofs.Invariant.{needed_in}
use Rattle.histories.proofs.Moments.{stands_at, needed_at}

-- ---- the two retries

judged_good : {t : Tested} {valid current : Bool} {s : Served} (state : List ℕ) → t ≡ Ok tt → valid ≡ true → current ≡ true → s ≡ Served.carried state
    → judged t valid current (by_service s) ≡ good state
judged_good state tests seven eight serves = rw (tests, seven, eight, serves) refl

-- what an accepted perform answers
perform_is : (D : Design) (page l request answer state : List ℕ) → perform_verdict D page l request answer ≡ good state
    → performed D page l request answer ≡ answered_by D page l request answer (D.with_summary page (next_summary D (D.summary l) request)) (good state)
unfolding performed
perform_is D page l request answer state e = ap (answered_by D page l request answer (D.with_summary page (next_summary D (D.summary l) request))) e

module _ (D : Design) (laws : Laws D) (page l request answer state room : List ℕ) (fits : D.record_size ≤ length room)
    (accepted : perform_verdict D page l request answer ≡ good state) (never : next_summary D (D.summary l) request ≡ D.page_summary page → ⊥) where
  past : Past (offered D page l request answer) (valid D page l) (same (D.summary l) (D.page_summary page))
  past = perform_past D page l request answer (past_good _ state accepted)

  offering : Offer D page l request answer
  offering = offer D page l request answer past.tests

  -- tests 1 to 6 with another buffer that has room, on another page of the right size
  again : (now : List ℕ) → D.right_page now ≡ true → offered D now l request room ≡ Ok tt
  again now right = offered-passes D now l request room (record { right = right; room = fits; tests = offering.tests; formed = offering.formed })

  serves : D.served (D.state_bytes l) request ≡ Served.carried state
  serves = perform_good D page l request answer state accepted

  -- the record at the front of the uncut call's buffer
  uncut-front : front D (performed D page l request answer).answer ≡ next_record D page l request state
  uncut-front =
      rw (perform_is D page l request answer state accepted)
      (part-over 0 D.record_size (next_record D page l request state) answer (laws.length_next page l request state offering.tests serves) (omega (arith, offering.room)))

  -- an answer as of the uncut call is a retry of it
  retried : (p : Performed) → p ≡ answered_by D page l request room (D.with_summary page (next_summary D (D.summary l) request)) (good state)
      → Retried D (performed D page l request answer) room p
  retried p is =
      rw is (record {
        number = refl;
        stored = rw (perform_is D page l request answer state accepted) refl;
        page = rw (perform_is D page l request answer state accepted) refl;
        answer = ap (λ (r : List ℕ). over 0 r room) (sym uncut-front);
      })

  by_perform_lem : ByPerform D (performed D page l request answer) page l request room
  unfolding perform_verdict repeated repeat_verdict
  by_perform_lem =
      record {
        perform = retried _ (perform_is D page l request room state (judged_good state (again page offering.right) past.seven past.eight serves));
        repeat = ap (answered_by D page l request room page)
            (judged-stale (by_service (D.served (D.state_bytes l) request)) (again page offering.right) past.seven (differ (next_summary D (D.summary l) request) (D.page_summary page) never));
      }

  by_repeat_lem : ByRepeat D (performed D page l request answer) (D.with_summary page (next_summary D (D.summary l) request)) l request room
  unfolding repeated repeat_verdict performed perform_verdict
  by_repeat_lem =
      let next = next_summary D (D.summary l) request in
      let long = laws.length-hash (summary_message (D.summary l) request) in
      let after = D.with_summary page next in
      let holds : D.page_summary after ≡ next = laws.page_summary_lem page next offering.right long in
      let mac : (bound : List ℕ) → D.mac after bound ≡ D.mac page bound = λ bound. laws.page_mac page next bound offering.right long in
      let tests = again after (laws.right_page_lem page next offering.right long) in
      let seven : valid D after l ≡ true = rw (mac (binding_in D l)) past.seven in
      let eight : same next (D.page_summary after) ≡ true = (same_iff next (D.page_summary after)).1 (sym holds) in
      let moved : D.summary l ≡ D.page_summary after → ⊥ = λ e. never (sym holds ∙ sym e ∙ (same_iff _ _).0 past.eight) in
      record {
        repeat = retried _ (ap (answered_by D after l request room after) (judged_good state tests seven eight serves)
            ∙ ap {B = Performed} (λ tag. record { number = 0; stored = D.stored_after state request; page = after; answer = over 0 (D.record_of state next tag) room })
            (mac (binding_of D next state)));
        perform = ap (answered_by D after l request room (D.with_summary after next))
            (judged-stale (by_service (D.served (D.state_bytes l) request)) tests seven (differ (D.summary l) (D.page_summary after) moved));
      }

-- ---- the page since the cut

-- steps that moved nothing left the page: refused performs and performs cut with the page of before among them
module _ (D : Design) (fresh : List ℕ) (older : Run) where
  grows : (since : Run) → length (moved_before D fresh older) ≤ length (moved_before D fresh (since ++ older))
  grows [] = omega arith
  grows (s ∷ since) =
      let by = moved_by D (page_after D fresh (since ++ older)) s in
      omega (arith, grows since, length-append by (moved_before D fresh (since ++ older)))

  step_unmoved : (since : Run) (s : Step) → length (moved_before D fresh (s ∷ since ++ older)) ≡ length (moved_before D fresh older)
      → Moved D (page_after D fresh (since ++ older)) (did D (page_after D fresh (since ++ older)) (call_of s))
      (page_after_step D (page_after D fresh (since ++ older)) s) (moved_by D (page_after D fresh (since ++ older)) s)
      → (length (moved_before D fresh (since ++ older)) ≡ length (moved_before D fresh older) → page_after D fresh (since ++ older) ≡ page_after D fresh older)
      → page_after D fresh (s ∷ since ++ older) ≡ page_after D fresh older
  step_unmoved since s e (stays still none) before = still ∙ before (rw none at e)
  step_unmoved since s e (moves l request state t led is one) before =
      let more : length (request ∷ moved_before D fresh (since ++ older)) ≡ length (moved_before D fresh older) = rw one at e in
      absurd (omega (arith, grows since))

  unmoved_by : (since : Run) → length (moved_before D fresh (since ++ older)) ≡ length (moved_before D fresh older) → page_after D fresh (since ++ older) ≡ page_after D fresh older
  unmoved_by [] e = refl
  unmoved_by (s ∷ since) e = step_unmoved since s e (moved_step D (page_after D fresh (since ++ older)) s) (unmoved_by since)

  pub unmoved : (since : Run) → moved_before D fresh (since ++ older) ≡ moved_before D fresh older → page_after D fresh (since ++ older) ≡ page_after D fresh older
  unmoved since e = unmoved_by since (ap length e)

-- ---- calls other than perform move nothing

open_unmoved : (D : Design) (page : List ℕ) (t : Tested) → (open_did D page t).moved ≡ []
open_unmoved D page (Err r) = refl
open_unmoved D page (Ok x) = refl

repeat_unmoved : (D : Design) (page l request : List ℕ) (v : Verdict) → (repeat_did D page l request v).moved ≡ []
repeat_unmoved D page l request (early r) = refl
repeat_unmoved D page l request forged = refl
repeat_unmoved D page l request stale = refl
repeat_unmoved D page l request (barred r) = refl
repeat_unmoved D page l request (good state) = refl

look_unmoved : (D : Design) (page l : List ℕ) (v : Verdict) → (look_did D page l v).moved ≡ []
look_unmoved D page l (early r) = refl
look_unmoved D page l forged = refl
look_unmoved D page l stale = refl
look_unmoved D page l (barred r) = refl
look_unmoved D page l (good state) = refl

resume_unmoved : (v : Verdict) (ram disk : Did) → ram.moved ≡ [] → disk.moved ≡ [] → (resume_did v ram disk).moved ≡ []
resume_unmoved (early r) ram disk a b = rw (a, b) refl
resume_unmoved forged ram disk a b = rw (a, b) refl
resume_unmoved stale ram disk a b = rw (a, b) refl
resume_unmoved (barred r) ram disk a b = rw (a, b) refl
resume_unmoved (good state) ram disk a b = a

module _ (D : Design) where
  other_unmoved : (page : List ℕ) (c : Call) → ((l request answer : List ℕ) → c ≡ performs l request answer → ⊥) → (did D page c).moved ≡ []
  other_unmoved page (opens answer) other = open_unmoved D _ (open_tests D page answer)
  other_unmoved page (performs l request answer) other = absurd (other l request answer refl)
  other_unmoved page (repeats l request answer) other = repeat_unmoved D _ l request (repeat_verdict D page l request answer)
  other_unmoved page (views l rack) other = look_unmoved D page l (view_verdict D page l rack)
  other_unmoved page (resumes in_ram on_disk) other =
      resume_unmoved (resume_verdict D page in_ram) _ _ (look_unmoved D page in_ram (resume_verdict D page in_ram)) (look_unmoved D page on_disk (resume_verdict D page on_disk))

  step_moves_nothing : (page : List ℕ) (s : Step) → ((l request answer : List ℕ) → call_of s ≡ performs l request answer → ⊥) → moved_by D page s ≡ []
  step_moves_nothing page (whole c) other = other_unmoved page c other
  step_moves_nothing page (cut_before c) other = refl
  step_moves_nothing page (cut_after c) other = other_unmoved page c other

  pub others_move_nothing : (fresh : List ℕ) (older since : Run) → NoPerform since → moved_before D fresh (since ++ older) ≡ moved_before D fresh older
  others_move_nothing fresh older [] none = refl
  others_move_nothing fresh older (s ∷ since) none =
      rw (step_moves_nothing (page_after D fresh (since ++ older)) s (none [] since s refl)) (others_move_nothing fresh older since (each_before _ (s ∷ []) since none))

-- ---- the duty

-- the request leads away from the page's summary: else the page would stand at the end of two paths
leads_away : (D : Design) → Laws D → (fresh : List ℕ) → Fresh D fresh → (older : Run) (l request answer state : List ℕ)
    → FewerHashPremise D fresh (cut_before (performs l request answer) ∷ older)
    → perform_verdict D (page_after D fresh older) l request answer ≡ good state
    → next_summary D (D.summary l) request ≡ D.page_summary (page_after D fresh older) → ⊥
leads_away D laws fresh f older l request answer state clear accepted back =
    let cut = cut_before (performs l request answer) in
    let page = page_after D fresh older in
    let before = moved_before D fresh older in
    let now = stands_at D laws fresh f (cut ∷ older) (cut ∷ []) older refl in
    let here : D.summary l ≡ end_of D before = (same_iff _ _).0 (perform_past D page l request answer (past_good _ state accepted)).eight ∙ now.ends in
    let message : Memᴰ (summary_message (D.summary l) request) (did D page (performs l request answer)).needed =
    rw accepted (mathlib.Core.List.Memᴰ.append_right (takes D page l).needed (mathlib.Core.List.Memᴰ.head refl)) in
    let hashed = needed_at D laws fresh f (cut ∷ older) [] older cut refl _ message in
    never_back D laws (needed_in D fresh (cut ∷ older)) clear request before (rw here at hashed, now.walked)
    (ap (λ (s : List ℕ). next_summary D s request) (sym here) ∙ back ∙ now.ends)

module _ (D : Design) (laws : Laws D) (fresh : List ℕ) (f : Fresh D fresh) (older : Run) (l request answer : List ℕ)
    (clear : FewerHashPremise D fresh (cut_before (performs l request answer) ∷ older)) where
  pub duty : Duty D fresh older l request answer
  duty zero since room fits =
      let page = page_after D fresh older in
      let (state, accepted) = perform_accepted D page l request answer zero in
      let away = leads_away D laws fresh f older l request answer state clear accepted in
      let uncut = performed D page l request answer in
      let left = unmoved D fresh (cut_before (performs l request answer) ∷ older) since in
      let moved : (did D page (performs l request answer)).page ≡ D.with_summary page (next_summary D (D.summary l) request) =
      ap (λ (v : Verdict). (perform_did D uncut.page l request v).page) accepted ∙ ap (λ (p : Performed). p.page) (perform_is D page l request answer state accepted) in (
        λ none. rw (left none) (by_perform_lem D laws page l request answer state room fits accepted away),
        λ none.
            rw (unmoved D fresh (cut_after (performs l request answer) ∷ older) since none ∙ moved) (by_repeat_lem D laws page l request answer state room fits accepted away),
      )

  pub duty_without_perform : DutyWithoutPerform D fresh older l request answer
  duty_without_perform zero since room fits =
      let d = duty zero since room fits in (
        λ none. d.0 (others_move_nothing D fresh (cut_before (performs l request answer) ∷ older) since none),
        λ none. d.1 (others_move_nothing D fresh (cut_after (performs l request answer) ∷ older) since none),
      )
