-- `good_state` meets its contract: the chunks are the racks of the state, and each is tested. Assumes nothing.
use mathlib.Core.Path.{refl, ◌∙◌}
use mathlib.Core.Bool.{◌&&◌}
use Rattle.std.proofs.Common.{rules}
use Rattle.std.specs.List.{list_all}
use Rattle.std.proofs.lemmas.Iterator.Search.{all_from_yields_List}
use Rattle.std.proofs.lemmas.List.Recursion.{same_from_clauses}
use Rattle.racks.specs.Rule.{good_rack, good_state}
use Rattle.racks.proofs.StateChunks.{YieldsList-from_racks}
use Rattle.racks.proofs.rule.good_state.Goals as goal

pub returns : goal.returns
unfolding good_state
returns c =
    all_from_yields_List good_rack _ _ _ c.all.ensures.ran (YieldsList-from_racks c.args.s.now (cc) (cc)) (λ x b q k. search rules)
    ∙ same_from_clauses (list_all good_rack) good_state (λ r all. good_rack r && all) refl (λ _ _. refl) (λ _ _. refl) _
