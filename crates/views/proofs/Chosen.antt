-- A record that resume looks at, past its tests 1, 3, 4 and 5: whether it is current is what tests 7 and 8 say. Assumes nothing.
use mathlib.Core.Path.{◌≡◌, refl, sym, ◌∙◌}
use mathlib.Core.Bool.{Bool, true, false}
use Prim.Native.Nat.{ℕ}
use mathlib.Core.List.{List}
use lib.ListN.{length}
use lib.Dec.{eqb}
use borrow.Author.Tests.{eq-eqb}
use Rattle.std.specs.Prelude.{Ok}
use Rattle.numbers.specs.Comparing.{same}
use Rattle.numbers.proofs.Testing.{failed, passed}
use Rattle.refusals.specs.declared.Refusal.TheVariants.{Page}
use Rattle.refusals.specs.Tested.{Tested}
use Rattle.records.specs.Form.{Form}
use Rattle.records.specs.Page.{page_size, page_summary, page_key}
use Rattle.records.specs.Record.{state_bytes, summary, authenticator}
use Rattle.records.specs.Tests.{tested}
use Rattle.hmac.specs.declared.Prepared.{Prepared}
use Rattle.hmac.specs.Preparation.{prepared_of}
use Rattle.bindings.specs.Sealing.{own_authenticator}
use Rattle.offers.proofs.Authenticators.{valid_prepared}
use Rattle.answers.specs.Hashing.{valid}
use Rattle.answers.specs.Judging.{unless, and_then, Verdict, judged, resume_verdict}
use Rattle.answers.specs.Answers.{is_good}
use Rattle.answers.specs.Edition.{design}

good_is : (c : Bool) (state : List ℕ) → c ≡ is_good (judged (Ok tt) true c (Verdict.good state))
good_is true state = refl
good_is false state = refl

module _ (f : Form) (page l : List ℕ) where
  -- the tests' own values
  current_by : (a b c : Bool) (t : Tested) → eqb (length page) page_size ≡ a → tested f l ≡ t → valid (design f) page l ≡ b → same (summary f l) (page_summary page) ≡ c
      → is_good (judged (and_then (unless a Page) t) b c (Verdict.good (state_bytes f l))) ≡ is_good (resume_verdict (design f) page l)
  unfolding resume_verdict
  current_by a b c t p q r s = cc

  module _ (size : length page ≡ page_size) (t : Tested) (test : t ≡ tested f l) where
    -- r is what test 7 finds under the page's key
    module _ (past : t ≡ Ok tt) {key : Prepared} (prepared : key ≡ prepared_of (page_key page)) {r : Bool} (seven : r ≡ same (authenticator f l) (own_authenticator f key l)) where
      valid_is : r ≡ valid (design f) page l
      valid_is = valid_prepared f page key prepared l r seven

      pub not_valid : r ≡ false → false ≡ is_good (resume_verdict (design f) page l)
      not_valid fails = current_by true false _ (Ok tt) (eq-eqb (length page) page_size size) (sym test ∙ past) (failed r _ valid_is fails) refl

      pub is_current : r ≡ true → (c : Bool) → c ≡ same (summary f l) (page_summary page) → c ≡ is_good (resume_verdict (design f) page l)
      is_current ok c is =
          good_is c (state_bytes f l) ∙ current_by true true c (Ok tt) (eq-eqb (length page) page_size size) (sym test ∙ past) (passed r _ valid_is ok) (sym is)
