-- SHA-256 from the middle of a message on: n blocks have brought the hash value to H, and m is the rest of the message.
-- Not in FIPS 180-4, and used by HMAC, whose pads are one block each. `sha256_after_lem` ties it to the standard's function.
-- Assumes nothing.
use Rattle.std.specs.Prelude.{◌≡◌, ℕ, ◌+◌, ◌*◌, ◌%◌, ◌≤◌, List, ◌++◌, length}
use Rattle.sha256.specs.Padding.{padding}
use Rattle.sha256.specs.Parsing.{blocks}
use Rattle.sha256.specs.Computation.{hashes, digest}

-- the digest: the padding counts the whole message, 64 n bytes and m
unfoldable pub sha256_after : List ℕ → ℕ → List ℕ → List ℕ
sha256_after H n m =
    let p = m ++ padding (64 * n + length m) in
    digest (hashes H p (blocks p)) 8

-- m is what follows whole blocks in a message of len bytes, as many as we hash
pub record Within (m : List ℕ) (len : ℕ) : Type 0 where
  pub bound : len ≤ 65536
  pub rest : length m ≤ len
  pub whole : len % 64 ≡ length m % 64
