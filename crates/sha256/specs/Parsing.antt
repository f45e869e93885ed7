-- FIPS 180-4, section 5.2.1: the padded message is parsed into N blocks of 512 bits, each of them sixteen words,
-- M_0^(i) to M_15^(i). Blocks are counted from 0 here, so the standard's M^(i + 1) is `block p i`. Assumes nothing.
use Rattle.std.specs.Prelude.{ℕ, zero, suc, ◌+◌, ◌*◌, ◌/◌, List, [], ◌∷◌, ◌++◌, length}
use Rattle.sha256_words.specs.Words.{word_at}

-- the first t words of those that stand in `p` from the byte `at` on
unfoldable pub words : List ℕ → ℕ → ℕ → List ℕ
words p at zero = []
words p at (suc t) = words p at t ++ (word_at p (at + 4 * t) ∷ [])

-- the sixteen words of block i
unfoldable pub block : List ℕ → ℕ → List ℕ
block p i = words p (64 * i) 16

-- N, how many blocks there are
unfoldable pub blocks : List ℕ → ℕ
blocks p = length p / 64
