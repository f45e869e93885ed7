-- `initial` is H₀, word by word. Assumes nothing.
use Rattle.std.proofs.Common.{refl}
use Rattle.sha256.specs.Computation.{H₀}
use Rattle.sha256.proofs.initial.Goals as goal

pub returns : goal.returns
unfolding H₀
returns c = refl
