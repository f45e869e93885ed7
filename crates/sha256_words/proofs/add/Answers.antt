-- `add` is the standard's sum modulo 2 ^ 32, which is what the library's wrapping sum ensures. Assumes nothing.
use Rattle.sha256_words.specs.Words.{◌⊞◌}
use Rattle.std.proofs.Common.{refl}
use Rattle.sha256_words.proofs.add.Goals as goal

pub returns : goal.returns
unfolding ◌⊞◌
returns c = refl
