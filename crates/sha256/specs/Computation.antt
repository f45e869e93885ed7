-- FIPS 180-4, section 6.2: SHA-256 of a message, from the initial value of 5.3.3 on, block by block. Assumes nothing.
use Rattle.std.specs.Prelude.{ℕ, zero, suc, List, [], ◌∷◌, ◌++◌, get_or}
use Rattle.numbers.specs.Numbers.{bytes_of}
use Rattle.sha256_block.specs.Step.{next_hash}
use Rattle.sha256.specs.Padding.{pad}
use Rattle.sha256.specs.Parsing.{block, blocks}

-- 5.3.3: H^(0)_0 to H^(0)_7, the first 32 bits of the fractional parts of the square roots of the first eight primes
unfoldable pub H₀ : List ℕ
H₀ =
    0x6a09e667 ∷ 0xbb67ae85 ∷ 0x3c6ef372 ∷ 0xa54ff53a ∷ 0x510e527f ∷ 0x9b05688c ∷ 0x1f83d9ab ∷ 0x5be0cd19 ∷ []

-- the hash value after the first i blocks of p, from the value H
unfoldable pub hashes : List ℕ → List ℕ → ℕ → List ℕ
hashes H p zero = H
hashes H p (suc i) = next_hash (hashes H p i) (block p i)

-- the digest, H_0^(N) ‖ .. ‖ H_7^(N), as 32 bytes: the bytes of the first n words
unfoldable pub digest : List ℕ → ℕ → List ℕ
digest H zero = []
digest H (suc n) = digest H n ++ bytes_of 4 (get_or H n 0)

-- 6.2: SHA-256 of a message
unfoldable pub sha256 : List ℕ → List ℕ
sha256 m = digest (hashes H₀ (pad m) (blocks (pad m))) 8
