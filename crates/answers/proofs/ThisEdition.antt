-- What the answers are like, in this edition: 16 racks, version 1. Assumes nothing.
use mathlib.Core.Path.{◌≡◌}
use Prim.Native.Nat.{ℕ}
use mathlib.Core.List.{List}
use Rattle.records.specs.declared.Form.TheVariants.{Version1}
use Rattle.records.proofs.FormLaws.{fits}
use Rattle.records.specs.Form.{version1}
use Rattle.answers.specs.Edition.{this_edition}
use Rattle.answers.specs.Written.{ReadsBack, AnswersStand}
use Rattle.answers.specs.RepeatIsPerform.{RepeatIsPerform}
use Rattle.answers.specs.Unchanged.{RefusalsChangeNothing, KeyStays}
use Rattle.answers.proofs.Refusals.{refusals_change_nothing}
use Rattle.answers.proofs.ReadsBack.{reads_back}
use Rattle.answers.proofs.Standing.{answers_stand}
use Rattle.answers.proofs.Repeats.{repeat_is_perform}
use Rattle.answers.proofs.Keys.{key_stays}

-- what is written reads back, and is current on the page then left
pub this_reads_back : ReadsBack this_edition
this_reads_back = reads_back version1

pub this_answers_stand : AnswersStand this_edition
this_answers_stand = answers_stand version1 (fits Version1)

-- repeat writes what perform would
pub this_repeat_is_perform : RepeatIsPerform version1
this_repeat_is_perform = repeat_is_perform version1

-- a refusal changes nothing, and no call changes the key
pub this_refusals_change_nothing : RefusalsChangeNothing this_edition
this_refusals_change_nothing = refusals_change_nothing this_edition

pub this_key_stays : KeyStays version1
this_key_stays = key_stays version1

-- different states are hashed as different messages
pub state_messages_apart : (a b : List ℕ) → this_edition.state_message a ≡ this_edition.state_message b → a ≡ b
state_messages_apart a b e = cc
