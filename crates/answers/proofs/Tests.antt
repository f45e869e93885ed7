-- What rows of tests that pass say, over any design: tests 1 to 6 of perform and repeat, and the tests of open. The idea: one test
-- after another passes just where each does. Assumes nothing.
use mathlib.Core.Path.{◌≡◌, refl}
use mathlib.Core.Bool.{Bool, true, false}
use Prim.Native.Nat.{ℕ, ◌≤◌}
use native.Mathlib.Omega.{arith}
use mathlib.Core.List.{List}
use lib.ListN.{length}
use lib.Dec.{leb}
use borrow.Author.Tests.{leb-true, le-leb}
use Rattle.std.specs.Prelude.{Ok, Err}
use Rattle.numbers.specs.Comparing.{same}
use Rattle.numbers.proofs.Comparison.{same_iff}
use Rattle.refusals.specs.declared.Refusal.{Refusal}
use Rattle.refusals.specs.declared.Refusal.TheVariants.{Page, Answer, Request, Fresh}
use Rattle.refusals.specs.Tested.{Tested}
use Rattle.records.specs.Page.{zero_summary}
use Rattle.answers.specs.Design.{Design}
use Rattle.answers.specs.Judging.{unless, and_then, offered}
use Rattle.answers.specs.Answers.{open_tests}

-- one test after another that pass: both pass
both : (t u : Tested) → and_then t u ≡ Ok tt → (t ≡ Ok tt) × (u ≡ Ok tt)
both (Ok x) u e = (refl, e)
both (Err r) u e = let z : ◌≡◌ {A = ℕ} 0 1 = cc in absurd (omega arith)

-- a test that passes holds
holds : (b : Bool) (r : Refusal) → unless b r ≡ Ok tt → b ≡ true
holds true r e = refl
holds false r e = let z : ◌≡◌ {A = ℕ} 0 1 = cc in absurd (omega arith)

-- ---- perform and repeat

pub record Offer (D : Design) (page l request answer : List ℕ) : Type 0 where
  pub right : D.right_page page ≡ true
  pub room : D.record_size ≤ length answer
  pub tests : D.tested l ≡ Ok tt
  pub formed : D.formed request ≡ true

module _ (D : Design) (page l request answer : List ℕ) where
  pub offer : offered D page l request answer ≡ Ok tt → Offer D page l request answer
  offer e =
      let first = both (unless (D.right_page page) Page) _ e in
      let second = both (unless (leb D.record_size (length answer)) Answer) _ first.1 in
      let third = both (D.tested l) (unless (D.formed request) Request) second.1 in
      record {
        right = holds (D.right_page page) Page first.0;
        room = leb-true _ _ (holds (leb D.record_size (length answer)) Answer second.0);
        tests = third.0;
        formed = holds (D.formed request) Request third.1;
      }

  pub offered-passes : Offer D page l request answer → offered D page l request answer ≡ Ok tt
  offered-passes o = rw (o.right, le-leb _ _ o.room, o.tests, o.formed)

-- ---- open

pub record Opening (D : Design) (page answer : List ℕ) : Type 0 where
  pub right : D.right_page page ≡ true
  pub room : D.record_size ≤ length answer
  pub fresh : D.page_summary page ≡ zero_summary

module _ (D : Design) (page answer : List ℕ) where
  pub opening : open_tests D page answer ≡ Ok tt → Opening D page answer
  unfolding open_tests
  opening e =
      let first = both (unless (D.right_page page) Page) _ e in
      let second = both (unless (leb D.record_size (length answer)) Answer) _ first.1 in
      record {
        right = holds (D.right_page page) Page first.0;
        room = leb-true _ _ (holds (leb D.record_size (length answer)) Answer second.0);
        fresh = (same_iff (D.page_summary page) zero_summary).0 (holds (same (D.page_summary page) zero_summary) Fresh second.1);
      }

  pub open_passes : Opening D page answer → open_tests D page answer ≡ Ok tt
  unfolding open_tests
  open_passes o = rw (o.right, le-leb _ _ o.room, (same_iff (D.page_summary page) zero_summary).1 o.fresh)
