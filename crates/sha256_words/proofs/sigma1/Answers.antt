-- `sigma1` is σ₁, from what each rotation ensures. Assumes nothing.
use Rattle.sha256_words.specs.Words.{SHR}
use Rattle.sha256_words.specs.Functions.{σ₁}
use Rattle.std.proofs.Common.{refl}
use Rattle.sha256_words.proofs.sigma1.Goals as goal

pub returns : goal.returns
unfolding σ₁ SHR
returns c = rw (c.rotr.ensures, c.rotr-2.ensures) refl
