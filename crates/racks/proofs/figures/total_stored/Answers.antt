-- `total_stored` meets its contract: the chunks are the racks of the state, and what they store is below 2 ^ 32 for each, so that the
-- sum fits. Assumes nothing.
use mathlib.Core.Path.{◌≡◌, refl, sym, ◌∙◌}
use Prim.Native.Nat.{◌/◌, ◌^◌, ◌<◌}
use native.Mathlib.Omega.{arith}
use lib.ListN.{length}
use Rattle.std.proofs.Common.{rules}
use Rattle.std.specs.List.{sum_by}
use Rattle.std.proofs.lemmas.Iterator.{YieldsList-from_map}
use Rattle.std.proofs.lemmas.Iterator.Consumers.{YieldsList-at, sum_by_from_yields_List, fits_by_from_yields_list}
use Rattle.std.proofs.lemmas.List.Recursion.{is_sum_by}
use Rattle.racks.specs.Racks.{State}
use Rattle.racks.specs.Layout.{rack_size, state_of}
use Rattle.racks.specs.Figures.{total_stored}
use Rattle.racks.proofs.StateChunks.{YieldsList-from_racks, total-state_of-le}
use Rattle.racks.proofs.figures.total_stored.Goals as goal

as_sum : (s : State) → total_stored s ≡ sum_by (λ r. r.stored) s
unfolding total_stored
as_sum s = is_sum_by total_stored (λ r. r.stored) refl (λ _ _. refl) s

pub sum-requires-clause-fits : goal.sum-requires-clause-fits
sum-requires-clause-fits c =
    let s = c.args.s.now in
    let n = length s / rack_size in
    let bound = total-state_of-le n s (λ i. (c.type_inv.s i).fits) (omega arith) in
    let fits : sum_by (λ r. r.stored) (state_of n s) < 2 ^ 64 = omega (arith, as_sum (state_of n s)) in
    fits_by_from_yields_list (λ r. r.stored) (state_of n s) c.map.result (2 ^ 64)
    (YieldsList-from_map _ (λ r. r.stored) (YieldsList-at c.map.ensures.source (YieldsList-from_racks s (cc) (cc))) c.map.ensures.closure (λ x r q k. search rules))
    fits

pub returns : goal.returns
returns c =
    let s = c.args.s.now in
    let n = length s / rack_size in
    sum_by_from_yields_List (λ r. r.stored) (state_of n s) c.map.result c.sum.result c.sum.ensures.ran
    (YieldsList-from_map _ (λ r. r.stored) (YieldsList-at c.map.ensures.source (YieldsList-from_racks s (cc) (cc))) c.map.ensures.closure (λ x r q k. search rules))
    ∙ sym (as_sum (state_of n s))
