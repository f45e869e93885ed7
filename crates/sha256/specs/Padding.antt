-- FIPS 180-4, section 5.1.1: padding a message of l bits, here of a whole number of bytes, so l = 8 n.
-- The standard appends the bit 1, then k zero bits, where k is the smallest, non-negative solution to
-- l + 1 + k ≡ 448 mod 512, then l as a 64-bit number. `k` is that solution in closed form: `k_solves` and `k_least` say so in
-- the standard's words. The bit 1 and the first seven of the k zero bits are the byte 0x80; the others are whole bytes, which
-- `k-bytes` says. Assumes nothing.
use Rattle.std.specs.Prelude.{◌≡◌, ℕ, ◌+◌, ◌-◌, ◌*◌, ◌/◌, ◌%◌, ◌≤◌, List, ◌∷◌, ◌++◌, length, replicate}
use Rattle.numbers.specs.Numbers.{bytes_of}
use Rattle.std.proofs.Common.{arith}

-- how many zero bits follow the bit 1 after a message of l bits
unfoldable pub k : ℕ → ℕ
k l = (959 - l % 512) % 512

pub k_solves : (l : ℕ) → (l + 1 + k l) % 512 ≡ 448
unfolding k
k_solves l = omega arith

pub k_least : (l j : ℕ) → (l + 1 + j) % 512 ≡ 448 → k l ≤ j
unfolding k
k_least l j solves = omega arith

pub k-bytes : (n : ℕ) → k (8 * n) ≡ 7 + 8 * (k (8 * n) / 8)
unfolding k
k-bytes n = omega arith

-- what is appended to a message of n bytes: the bit 1, k zero bits, and the length in bits as a 64-bit block, that is in
-- eight bytes, the most significant first (3.1)
unfoldable pub padding : ℕ → List ℕ
padding n = 0x80 ∷ replicate (k (8 * n) / 8) 0 ++ bytes_of 8 (8 * n)

-- the padded message
unfoldable pub pad : List ℕ → List ℕ
unfolding padding
pad m = m ++ padding (length m)
