-- View past test 8: the figures of a state's rack and its total, or 12 where the total does not fit four bytes. Assumes nothing.
use Rattle.std.specs.Prelude.{ℕ, ◌^◌, cond, ltb, Err}
use Rattle.refusals.specs.declared.Refusal.TheVariants.{Total}
use Rattle.racks.specs.Racks.{State}
use Rattle.racks.specs.Figures.{total_stored}
use Rattle.answers.specs.Answers.{Viewed}
use Rattle.answers.specs.Edition.{figures_of}
use Rattle.views.specs.Told.{told_view}

abbrev pub seen_in : State → ℕ → Viewed
seen_in s rack = cond (ltb (total_stored s) (256 ^ 4)) record { number = 0; figures = figures_of s rack } (told_view (Err Total))
