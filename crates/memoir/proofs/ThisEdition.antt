-- The perform and the repeat that ship are the report's two actions. Assumes nothing.
use Rattle.records.specs.Form.{version1}
use Rattle.memoir.specs.Theorems.{PerformIsAction, RepeatIsAction, AcceptedArePossible, OtherwiseStays, PrivateStateIsEmpty}
use Rattle.memoir.proofs.Performs.{perform_is_action}
use Rattle.memoir.proofs.Repeats.{repeat_is_action}
use Rattle.memoir.proofs.Possibles.{accepted_are_possible}
use Rattle.memoir.proofs.Stays.{otherwise_stays}
use Rattle.memoir.proofs.PrivateStates.{private_state_is_empty}

pub this_perform_is_action : PerformIsAction version1
this_perform_is_action = perform_is_action version1

pub this_repeat_is_action : RepeatIsAction version1
this_repeat_is_action = repeat_is_action version1

pub this_accepted_are_possible : AcceptedArePossible version1
this_accepted_are_possible = accepted_are_possible version1

pub this_otherwise_stays : OtherwiseStays version1
this_otherwise_stays = otherwise_stays version1

pub this_private_state_is_empty : PrivateStateIsEmpty version1
this_private_state_is_empty = private_state_is_empty version1
