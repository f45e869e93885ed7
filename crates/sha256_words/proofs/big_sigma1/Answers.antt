-- `big_sigma1` is Σ₁, from what each rotation ensures. Assumes nothing.
use Rattle.sha256_words.specs.Functions.{Σ₁}
use Rattle.std.proofs.Common.{refl}
use Rattle.sha256_words.proofs.big_sigma1.Goals as goal

pub returns : goal.returns
unfolding Σ₁
returns c = rw (c.rotr.ensures, c.rotr-2.ensures, c.rotr-3.ensures) refl
