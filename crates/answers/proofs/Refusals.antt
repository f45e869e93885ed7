-- A refusal changes nothing, over any design. The idea: what a call leaves is a function of its verdict, and only the good one has
-- the number 0. Assumes nothing.
use mathlib.Core.Path.{◌≡◌, refl}
use Prim.Native.Nat.{ℕ}
use mathlib.Core.List.{List}
use Rattle.std.specs.Prelude.{Ok, Err}
use Rattle.refusals.specs.Tested.{Tested}
use Rattle.answers.specs.Design.{Design}
use Rattle.answers.specs.Judging.{Verdict, perform_verdict, repeat_verdict, view_verdict}
use Rattle.answers.specs.Hashing.{next_summary}
use Rattle.answers.specs.Answers.{open_tests, opened_by, opened, answered_by, performed, repeated, no_figures, viewed_by, viewed}
use Rattle.answers.specs.Unchanged.{OpenUnchanged, Unchanged, RefusalsChangeNothing}

-- open, by what its tests find
open_stays : (D : Design) (page answer : List ℕ) (t : Tested) → ((opened_by D page answer t).number ≡ 0 → ⊥) → OpenUnchanged page answer (opened_by D page answer t)
open_stays D page answer (Err r) other = record { page_stays = refl; answer_stays = refl }
open_stays D page answer (Ok x) other = absurd (other refl)

-- perform and repeat, by their verdict
stays : (D : Design) (page l request answer after : List ℕ) (v : Verdict) → ((answered_by D page l request answer after v).number ≡ 0 → ⊥)
    → Unchanged page answer (answered_by D page l request answer after v)
stays D page l request answer after (Verdict.early r) other = record { page_stays = refl; answer_stays = refl; no_figure = refl }
stays D page l request answer after Verdict.forged other = record { page_stays = refl; answer_stays = refl; no_figure = refl }
stays D page l request answer after Verdict.stale other = record { page_stays = refl; answer_stays = refl; no_figure = refl }
stays D page l request answer after (Verdict.barred r) other = record { page_stays = refl; answer_stays = refl; no_figure = refl }
stays D page l request answer after (Verdict.good state) other = absurd (other refl)

-- view
shows_nothing : (D : Design) (rack : ℕ) (v : Verdict) → ((viewed_by D rack v).number ≡ 0 → ⊥) → (viewed_by D rack v).figures ≡ no_figures
shows_nothing D rack (Verdict.early r) other = refl
shows_nothing D rack Verdict.forged other = refl
shows_nothing D rack Verdict.stale other = refl
shows_nothing D rack (Verdict.barred r) other = refl
shows_nothing D rack (Verdict.good state) other = absurd (other refl)

pub refusals_change_nothing : (D : Design) → RefusalsChangeNothing D
unfolding opened performed repeated viewed
refusals_change_nothing D =
    record {
      opens = λ page answer. open_stays D page answer (open_tests D page answer);
      performs = λ page l request answer.
          stays D page l request answer (D.with_summary page (next_summary D (D.summary l) request)) (perform_verdict D page l request answer);
      repeats = λ page l request answer. stays D page l request answer page (repeat_verdict D page l request answer);
      views = λ page l rack. shows_nothing D rack (view_verdict D page l rack);
    }
