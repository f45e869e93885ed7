-- An actual run meets the premises, by a hash that collides: the one that `specs/Witness.antt` writes out. So the third condition holds of
-- it; and so does the duty, with each of the other calls since. Assumes nothing.
use mathlib.Core.Path.{◌≡◌, refl}
use mathlib.Core.Bool.{true}
use Prim.Native.Nat.{ℕ}
use native.Mathlib.Omega.{arith}
use mathlib.Core.List.{List, [], ◌∷◌, ◌++◌}
use Rattle.answers.specs.Answers.{performed}
use Rattle.histories.specs.Calls.{Call, opens, performs, repeats, views, resumes}
use Rattle.histories.specs.Runs.{whole, cut_before, cut_after, Run, page_after, in_run}
use Rattle.histories.specs.Premises.{Premises}
use Rattle.histories.specs.Statements.{TakenAreReplayed}
use Rattle.histories.specs.Duty.{ByPerform, ByRepeat, NoPerform, DutyWithoutPerform}
use Rattle.histories.specs.Toy.{toy, a, b, fresh, room, record_0, record_a, computing}
use Rattle.histories.specs.Witness.{run}
use Rattle.histories.specs.WitnessDuty.{older, others}
use Rattle.histories.proofs.Steps.{each_none, each_more}
use Rattle.histories.proofs.Moments.{condition_three}
use Rattle.histories.proofs.Duty.{duty_without_perform}
use Rattle.histories.proofs.Literal.{fewer_hashes, fewer}
use Rattle.histories.proofs.PremiseTests.{all_alone, apart_by_test, unforged_test, unforged_by_test}
use Rattle.histories.proofs.ActualDesign.{toy_laws, fresh_is}

-- ---- the run of `Witness`

messages_apart : all_alone toy (in_run (λ d. d.hashed) toy fresh run) (in_run (λ d. d.hashed) toy fresh run) ≡ true
unfolding computing
messages_apart = refl

findings_answered : unforged_test (λ d. d.found) toy fresh run ≡ true
unfolding computing
findings_answered = refl

pub premises : Premises toy fresh run
premises = record { hashes = apart_by_test toy _ messages_apart; unforged = unforged_by_test (λ d. d.found) toy fresh run findings_answered }

pub witness_condition_three : TakenAreReplayed toy fresh run
witness_condition_three = condition_three toy toy_laws fresh fresh_is run (fewer toy fresh run premises)

-- ---- the run of `WitnessDuty`

-- a call that is not perform, whole and cut both ways
three : (c : Call) → ((l request answer : List ℕ) → c ≡ performs l request answer → ⊥) → (since : Run) → NoPerform since
    → NoPerform (whole c ∷ cut_before c ∷ cut_after c ∷ since)
three c other since none =
    each_more _ (whole c) _ other (each_more _ (cut_before c) _ other (each_more _ (cut_after c) since other none))

pub others_no_perform : NoPerform others
others_no_perform =
    three (opens room) (λ l request answer e. let z : ◌≡◌ {A = ℕ} 0 1 = cc in absurd (omega arith)) _
    (three (repeats record_0 a room) (λ l request answer e. let z : ◌≡◌ {A = ℕ} 0 1 = cc in absurd (omega arith)) _
    (three (views record_a 0) (λ l request answer e. let z : ◌≡◌ {A = ℕ} 0 1 = cc in absurd (omega arith)) _
    (three (resumes record_a record_0) (λ l request answer e. let z : ◌≡◌ {A = ℕ} 0 1 = cc in absurd (omega arith)) [] (each_none _))))

cut_messages_apart : all_alone toy (in_run (λ d. d.hashed) toy fresh (cut_before (performs record_a b room) ∷ older)) (in_run (λ d. d.hashed) toy fresh (cut_before (performs record_a b room) ∷ older)) ≡ true
unfolding computing
cut_messages_apart = refl

cut_accepted : (performed toy (page_after toy fresh older) record_a b room).number ≡ 0
unfolding computing
cut_accepted = refl

-- the duty says of these runs what was computed of them
pub witness_duty : DutyWithoutPerform toy fresh older record_a b room
witness_duty =
    duty_without_perform toy toy_laws fresh fresh_is older record_a b room
    (fewer_hashes toy fresh (cut_before (performs record_a b room) ∷ older) (apart_by_test toy _ cut_messages_apart))

pub witness_retries :
    ByPerform toy (performed toy (page_after toy fresh older) record_a b room) (page_after toy fresh (others ++ cut_before (performs record_a b room) ∷ older)) record_a b room
    × ByRepeat toy (performed toy (page_after toy fresh older) record_a b room) (page_after toy fresh (others ++ cut_after (performs record_a b room) ∷ older)) record_a b room
witness_retries =
    let d = witness_duty cut_accepted others room (omega arith) in
    (d.0 others_no_perform, d.1 others_no_perform)
