-- The run of `ShortRun` meets the literal premises of the third condition: its messages have five different hashes, none of them zero, and
-- each record that it found valid was answered before. So the records that it took are true, by SHA-256 and HMAC as they are. Assumes
-- nothing.
use mathlib.Core.Path.{◌≡◌, refl}
use mathlib.Core.Bool.{true}
use Prim.Native.Nat.{ℕ}
use mathlib.Core.List.Memᴰ
use mathlib.Core.List.{List, ◌++◌, Memᴰ}
use Rattle.std.specs.Prelude.{Ok}
use Rattle.records.specs.Page.{zero_summary}
use Rattle.answers.specs.Design.{Design}
use Rattle.answers.specs.Hashing.{next_summary, binding_of, binding_in}
use Rattle.answers.specs.Judging.{good, perform_verdict, view_verdict}
use Rattle.answers.specs.Answers.{open_tests}
use Rattle.answers.specs.Edition.{this_edition}
use Rattle.histories.specs.Runs.{Fresh}
use Rattle.histories.specs.Premises.{Unforged, Premises}
use Rattle.histories.specs.Closed.{TakenAreTrue}
use Rattle.histories.proofs.Steps.{each_none, each_more}
use Rattle.histories.proofs.PremiseTests.{all_alone, apart_by_test}
use Rattle.histories.proofs.EditionTheorems.{taken_are_true}
use Rattle.short_run.specs.ShortRun.{a, state_a, summary_a, key, record_0, record_a, fresh, room, computing, state_0_is, state_a_is, summary_is_lem, binding_0_is, binding-a_is, open_passes, perform_is, view_is, page_is, page_1, page_2, steps, run, messages, the_run_did}

-- ---- the hashes

messages_alone : all_alone this_edition messages messages ≡ true
unfolding computing
messages_alone = rw (state_0_is, state_a_is, summary_is_lem, binding_0_is, binding-a_is) refl

-- ---- the findings, over any design

module _ (D : Design) (fresh room l request m after state shown : List ℕ) (rack : ℕ) (one : open_tests D fresh room ≡ Ok tt)
    (two : perform_verdict D fresh l request room ≡ good state) (page : D.with_summary fresh (next_summary D (D.summary l) request) ≡ after)
    (three : view_verdict D after m rack ≡ good shown)
    (first : binding_in D l ≡ binding_of D zero_summary D.first_bytes) (next : binding_in D m ≡ binding_of D (next_summary D (D.summary l) request) state) where
  found_answered : Unforged (λ d. d.found) D fresh (steps room l request m rack)
  found_answered =
      let p = page_1 D fresh room l request m after state shown rack one two page three in
      let q = page_2 D fresh room l request m after state shown rack one two page three in
      each_more _ _ _ (λ x found.
      let is : x ≡ m = Memᴰ.eq_of_singleton (rw (p, q, three) at found) in
      rw (is, next, p, two) (Memᴰ.head refl))
      (each_more _ _ _ (λ x found.
      let is : x ≡ l = Memᴰ.eq_of_singleton (rw (p, two) at found) in
      rw (is, first, one) (Memᴰ.head refl))
      (each_more _ _ _ (λ x found. absurd (Memᴰ.not-nil (rw one at found))) (each_none _)))

-- ---- the premises, and what follows

first_bound_lem : binding_in this_edition record_0 ≡ binding_of this_edition zero_summary this_edition.first_bytes
unfolding computing
first_bound_lem = refl

next_bound : binding_in this_edition record_a ≡ binding_of this_edition (next_summary this_edition (this_edition.summary record_0) a) state_a
unfolding computing
next_bound = rw summary_is_lem refl

pub premises : Premises this_edition fresh run
unfolding computing
premises =
    record {
      hashes = rw the_run_did.hashes (apart_by_test this_edition messages messages_alone);
      unforged = found_answered this_edition fresh room record_0 a record_a (summary_a ++ key) state_a state_a 3 open_passes perform_is page_is view_is first_bound_lem next_bound;
    }

fresh_is : Fresh this_edition fresh
unfolding computing
fresh_is = record { right = refl; zero = refl }

pub run_is_true : TakenAreTrue fresh run
run_is_true = taken_are_true fresh fresh_is run premises
