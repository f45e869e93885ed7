-- What `test_offer` hands over is of its size and in range, as a request that was read is. Assumes nothing.
use Rattle.std.proofs.Common.{rules}
use native.Mathlib.Omega.{arith}
use Rattle.std.specs.Prelude.{◌≡◌, Some}
use Rattle.requests.specs.Requests.{read_request}
use Rattle.records.specs.Form.{form_of}
use Rattle.requests.proofs.Formed.{read_formed, in_range, formed_form}
use Rattle.offers.proofs.testing.test_offer.Goals as goal

pub invariant_of-result : goal.invariant_of-result
invariant_of-result c =
    let form : c.in_ok-record.record.form ≡ c.args.form = search rules in
    let read : read_request (form_of c.args.form).racks c.args.request.now ≡ Some c.in_ok-asks.asks = grind arith in
    record { sized = (formed_form _ _ (read_formed _ _ _ read).0).size; ranged = rw form (in_range _ _ _ read) }
