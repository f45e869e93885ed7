-- What a C caller gets of the hash and of the MAC: 0 and the 32 bytes at the front of its buffer, or 1 and the buffer as it was.
-- Assumes nothing.
use Rattle.std.specs.Prelude.{ℕ, ◌+◌, List, ◌++◌, Bool, cond, length, leb}
use Rattle.numbers.specs.Parts.{over}
use Rattle.sha256.specs.Computation.{sha256}
use Rattle.hmac.specs.Hmac.{hmac}

-- the number returned, and what the buffer holds then
pub record Outcome : Type 0 where
  pub code : ℕ
  pub out : List ℕ

-- nothing is written
abbrev pub refused : List ℕ → Outcome
refused d = record { code = 1; out = d }

-- an answer, where the bounds are met and the buffer has room for it
abbrev pub answered : Bool → List ℕ → List ℕ → Outcome
answered bounds answer d = cond bounds (cond (leb 32 (length d)) (record { code = 0; out = over 0 answer d }) (refused d)) (refused d)

unfoldable pub hash_outcome : List ℕ → List ℕ → List ℕ → List ℕ → Outcome
hash_outcome a b c d = answered (leb (length a + length b + length c) 65536) (sha256 (a ++ b ++ c)) d

unfoldable pub mac_outcome : List ℕ → List ℕ → List ℕ → List ℕ → Outcome
mac_outcome key a b d = cond (leb (length key) 256) (answered (leb (length a + length b) 65472) (hmac key (a ++ b)) d) (refused d)
