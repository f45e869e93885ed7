-- What the answers of view and resume say: document 01's number and figures for each case. The promises use these. Assumes nothing.
use Rattle.std.specs.Prelude.{Option, Some, None, Result, Ok, Err}
use Rattle.refusals.specs.declared.Refusal.{Refusal}
use Rattle.refusals.specs.Tested.{number_told}
use Rattle.answers.specs.Design.{Figures}
use Rattle.answers.specs.Answers.{Viewed, no_figures, Resumed}
use Rattle.views.specs.declared.Seen.{Seen}
use Rattle.views.specs.declared.Which.{Which}
use Rattle.views.specs.declared.Which.TheVariants.{Ram, Disk}

-- view: the figures, or zeros with a refusal
abbrev pub figures_told : Result Seen Refusal → Figures
figures_told (Ok seen) = record { stored = seen.stored; capacity = seen.capacity; percent = seen.percent; total = seen.total }
figures_told (Err r) = no_figures

abbrev pub told_view : Result Seen Refusal → Viewed
told_view r = record { number = number_told r; figures = figures_told r }

-- resume
abbrev pub told_which : Option Which → Resumed
told_which None = Resumed.neither
told_which (Some Ram) = Resumed.ram
told_which (Some Disk) = Resumed.disk
