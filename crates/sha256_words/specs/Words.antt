-- FIPS 180-4, section 3: words of 32 bits and the operations on them. A word is a number below 2 ^ 32, a byte one below
-- 256; bit_and, bit_or and bit_xor are the checker's library's. Assumes nothing.
use Rattle.std.specs.Prelude.{ℕ, ◌+◌, ◌-◌, ◌*◌, ◌/◌, ◌%◌, ◌^◌, List, bit_and, bit_or, bit_xor, slice_index}

infixl 70 ◌⊞◌
infixl 69 ◌⊕◌
infixl 69 ◌∧w◌
infixl 69 ◌∨w◌
-- 3.1, 3 and 4: the word whose four bytes, the most significant first, stand in `s` from `at` on
unfoldable pub word_at : List ℕ → ℕ → ℕ
word_at s at = slice_index s at * 2 ^ 24 + slice_index s (at + 1) * 2 ^ 16 + slice_index s (at + 2) * 2 ^ 8 + slice_index s (at + 3)

-- 3.2, 1: the bitwise AND, OR, XOR and complement
abbrev pub ◌∧w◌ : ℕ → ℕ → ℕ
x ∧w y = bit_and x y

abbrev pub ◌∨w◌ : ℕ → ℕ → ℕ
x ∨w y = bit_or x y

abbrev pub ◌⊕◌ : ℕ → ℕ → ℕ
x ⊕ y = bit_xor x y

abbrev pub ¬w : ℕ → ℕ
¬w x = 2 ^ 32 - 1 - x

-- 3.2, 2: the sum modulo 2 ^ 32
unfoldable pub ◌⊞◌ : ℕ → ℕ → ℕ
x ⊞ y = (x + y) % 2 ^ 32

-- 2.2.2: x << n discards the n leftmost bits and pads n zeros on the right
unfoldable pub SHL : ℕ → ℕ → ℕ
SHL n x = (x * 2 ^ n) % 2 ^ 32

-- 3.2, 3: SHR^n(x) = x >> n
unfoldable pub SHR : ℕ → ℕ → ℕ
SHR n x = x / 2 ^ n

-- 3.2, 4: ROTR^n(x) = (x >> n) ∨ (x << 32 - n), for 0 ≤ n < 32
unfoldable pub ROTR : ℕ → ℕ → ℕ
unfolding SHR SHL
ROTR n x = SHR n x ∨w SHL (32 - n) x
