-- FIPS 198-1, section 4, with the approved hash function H = SHA-256 (FIPS 180-4): the steps of its Table 1, and the whole MAC
-- (no truncation). B is the block size of the hash in bytes, L its output size. Assumes nothing.
use Rattle.std.specs.Prelude.{ℕ, ◌-◌, cond, List, [], ◌∷◌, ◌++◌, length, replicate, eqb, ltb}
use Rattle.std.specs.Int.Bits.{bit_xor}
use Rattle.sha256.specs.Computation.{sha256}

infixl 70 ◌⊕◌
-- section 2.3: B, 64 for SHA-256, and L, 32
abbrev pub B : ℕ
B = 64

abbrev pub L : ℕ
L = 32

-- section 2.3: ipad, the byte x'36' repeated B times, and opad, the byte x'5c' repeated B times
abbrev pub ipad : List ℕ
ipad = replicate B 0x36

abbrev pub opad : List ℕ
opad = replicate B 0x5c

-- section 2.3: the exclusive-or of two strings, byte by byte
unfoldable pub ◌⊕◌ : List ℕ → List ℕ → List ℕ
[] ⊕ m = []
(x ∷ l) ⊕ [] = []
(x ∷ l) ⊕ (y ∷ m) = bit_xor x y ∷ l ⊕ m

-- steps 1 to 3: a key of B bytes is K₀ itself; a longer one is hashed, and B - L zeros appended; to a shorter one zeros are
-- appended up to B bytes
unfoldable pub K₀ : List ℕ → List ℕ
K₀ K =
    cond (eqb (length K) B) K
    (cond (ltb B (length K)) (sha256 K ++ replicate (B - L) 0) (K ++ replicate (B - length K) 0))

-- steps 4 to 9: H((K₀ ⊕ opad) ‖ H((K₀ ⊕ ipad) ‖ text))
unfoldable pub hmac : List ℕ → List ℕ → List ℕ
hmac K text = sha256 (K₀ K ⊕ opad ++ sha256 (K₀ K ⊕ ipad ++ text))
