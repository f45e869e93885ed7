-- `sigma0` is σ₀, from what each rotation ensures. Assumes nothing.
use Rattle.sha256_words.specs.Words.{SHR}
use Rattle.sha256_words.specs.Functions.{σ₀}
use Rattle.std.proofs.Common.{refl}
use Rattle.sha256_words.proofs.sigma0.Goals as goal

pub returns : goal.returns
unfolding σ₀ SHR
returns c = rw (c.rotr.ensures, c.rotr-2.ensures) refl
