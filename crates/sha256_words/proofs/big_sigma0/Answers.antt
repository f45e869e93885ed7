-- `big_sigma0` is Σ₀, from what each rotation ensures. Assumes nothing.
use Rattle.sha256_words.specs.Functions.{Σ₀}
use Rattle.std.proofs.Common.{refl}
use Rattle.sha256_words.proofs.big_sigma0.Goals as goal

pub returns : goal.returns
unfolding Σ₀
returns c = rw (c.rotr.ensures, c.rotr-2.ensures, c.rotr-3.ensures) refl
