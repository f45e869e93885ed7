-- The condition's own premises, over all messages hashed and all authenticators found valid, imply those that the argument needs. The
-- idea: by the verdict, what is needed is hashed and what is relied on is found valid. Assumes nothing.
use mathlib.Core.Path.{◌≡◌, refl}
use mathlib.Core.Logic.{⊎_elim}
use Prim.Native.Nat.{ℕ}
use mathlib.Core.List.Memᴰ
use mathlib.Core.List.{List, [], ◌∷◌, ◌++◌}
use Rattle.std.specs.Prelude.{Ok, Err}
use Rattle.refusals.specs.Tested.{Tested}
use Rattle.answers.specs.Design.{Design}
use Rattle.answers.specs.Judging.{Verdict, early, forged, stale, barred, good, perform_verdict, repeat_verdict, view_verdict, resume_verdict}
use Rattle.answers.specs.Answers.{open_tests}
use Rattle.histories.specs.Calls.{Call, opens, performs, repeats, views, resumes}
use Rattle.histories.specs.Did.{Did, both, open_did, perform_did, repeat_did, look_did, resume_did, did}
use Rattle.histories.specs.Runs.{Run, call_of, page_after, done_by, in_run}
use Rattle.histories.specs.Premises.{Premises, FewerPremises, HashPremise, FewerHashPremise}
use Rattle.histories.proofs.Paths.{Within}
use Rattle.histories.proofs.Steps.{each_implies}
use Rattle.histories.proofs.Invariant.{needed_in}

-- ---- what a call did

record Less (d : Did) : Type 0 where
  messages : Within d.needed d.hashed
  findings : Within d.relied d.found

append-within : (a b c d : List (List ℕ)) → Within a b → Within c d → Within (a ++ c) (b ++ d)
append-within a b c d left right x m =
    ⊎_elim (λ n. Memᴰ.append_left d (left x n)) (λ n. Memᴰ.append_right b (right x n)) (Memᴰ.append_cases a m)

less_both : (a b : Did) → Less a → Less b → Less (both a b)
less_both a b x y =
    record {
      messages = append-within a.needed a.hashed b.needed b.hashed x.messages y.messages;
      findings = append-within a.relied a.found b.relied b.found x.findings y.findings;
    }

-- all that it hashed and found, or nothing
less_all : (d : Did) → d.needed ≡ d.hashed → d.relied ≡ d.found → Less d
less_all d a b = record { messages = λ x m. rw a at m; findings = λ x m. rw b at m }

less_none : (d : Did) → d.needed ≡ [] → d.relied ≡ [] → Less d
less_none d a b = record { messages = λ x m. absurd (Memᴰ.not-nil (rw a at m)); findings = λ x m. absurd (Memᴰ.not-nil (rw b at m)) }

less_open : (D : Design) (page : List ℕ) (t : Tested) → Less (open_did D page t)
less_open D page (Ok x) = less_all (open_did D page (Ok tt)) refl refl
less_open D page (Err r) = less_all (open_did D page (Err r)) refl refl

less_perform : (D : Design) (page l request : List ℕ) (v : Verdict) → Less (perform_did D page l request v)
less_perform D page l request (early r) = less_none (perform_did D page l request (early r)) refl refl
less_perform D page l request forged = less_none (perform_did D page l request forged) refl refl
less_perform D page l request stale = less_none (perform_did D page l request stale) refl refl
less_perform D page l request (barred r) = less_all (perform_did D page l request (barred r)) refl refl
less_perform D page l request (good state) = less_all (perform_did D page l request (good state)) refl refl

less_repeat : (D : Design) (page l request : List ℕ) (v : Verdict) → Less (repeat_did D page l request v)
less_repeat D page l request (early r) = less_none (repeat_did D page l request (early r)) refl refl
less_repeat D page l request forged = less_none (repeat_did D page l request forged) refl refl
less_repeat D page l request stale = less_none (repeat_did D page l request stale) refl refl
less_repeat D page l request (barred r) = less_none (repeat_did D page l request (barred r)) refl refl
less_repeat D page l request (good state) = less_all (repeat_did D page l request (good state)) refl refl

less_look : (D : Design) (page l : List ℕ) (v : Verdict) → Less (look_did D page l v)
less_look D page l (early r) = less_none (look_did D page l (early r)) refl refl
less_look D page l forged = less_none (look_did D page l forged) refl refl
less_look D page l stale = less_none (look_did D page l stale) refl refl
less_look D page l (barred r) = less_all (look_did D page l (barred r)) refl refl
less_look D page l (good state) = less_all (look_did D page l (good state)) refl refl

less_resume : (v : Verdict) (ram disk : Did) → Less ram → Less disk → Less (resume_did v ram disk)
less_resume (early r) ram disk x y = less_both ram disk x y
less_resume forged ram disk x y = less_both ram disk x y
less_resume stale ram disk x y = less_both ram disk x y
less_resume (barred r) ram disk x y = less_both ram disk x y
less_resume (good state) ram disk x y = x

less : (D : Design) (page : List ℕ) (c : Call) → Less (did D page c)
less D page (opens answer) = less_open D _ (open_tests D page answer)
less D page (performs l request answer) = less_perform D _ l request (perform_verdict D page l request answer)
less D page (repeats l request answer) = less_repeat D _ l request (repeat_verdict D page l request answer)
less D page (views l rack) = less_look D page l (view_verdict D page l rack)
less D page (resumes in_ram on_disk) =
    less_resume (resume_verdict D page in_ram) _ _ (less_look D page in_ram (resume_verdict D page in_ram)) (less_look D page on_disk (resume_verdict D page on_disk))

-- ---- a run

pub needed_hashed : (D : Design) (fresh : List ℕ) (run : Run) → Within (needed_in D fresh run) (in_run (λ d. d.hashed) D fresh run)
needed_hashed D fresh [] = λ x m. m
needed_hashed D fresh (s ∷ older) =
    append-within (done_by D fresh older s).needed (done_by D fresh older s).hashed (needed_in D fresh older) _ (less D (page_after D fresh older) (call_of s)).messages (needed_hashed D fresh older)

pub fewer_hashes : (D : Design) (fresh : List ℕ) (run : Run) → HashPremise D fresh run → FewerHashPremise D fresh run
fewer_hashes D fresh run clear =
    let all = needed_hashed D fresh run in
    record { apart = λ a b ma mb. clear.apart a b (all a ma) (all b mb); nonzero = λ a ma. clear.nonzero a (all a ma) }

pub fewer : (D : Design) (fresh : List ℕ) (run : Run) → Premises D fresh run → FewerPremises D fresh run
fewer D fresh run p =
    record {
      hashes = fewer_hashes D fresh run p.hashes;
      unforged = each_implies _ _ run (λ older s found l m. found l ((less D (page_after D fresh older) (call_of s)).findings l m)) p.unforged;
    }
