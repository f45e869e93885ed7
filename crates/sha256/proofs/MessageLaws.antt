-- The padded message read byte by byte and word by word from the pieces that it is made of. Assumes nothing.
use mathlib.Core.Path.{◌≡◌, refl, sym, ap, ◌∙◌}
use Prim.Native.Nat.{ℕ, zero, suc, ◌+◌, ◌-◌, ◌*◌, ◌/◌, ◌%◌, ◌^◌, ◌≤◌, ◌<◌}
use native.Mathlib.Numerals.{add-one}
use native.Mathlib.Nat.{add-zero, lt_of_not-le}
use native.Mathlib.Decide.{dec_le}
use native.Mathlib.Omega.{arith}
use mathlib.Core.List.{List, [], ◌∷◌, ◌++◌}
use lib.ListN.{length, get_or, replicate, length-append, length-replicate, get_or-append, get_or-eq_default, get_or-replicate}
use lib.Seq.{get_or-append-add}
use Rattle.sha256_words.specs.Words.{word_at}
use Rattle.sha256.specs.Padding.{k, padding}
use Rattle.numbers.specs.Numbers.{bytes_of}
use Rattle.sha256.specs.Parsing.{words}
use Rattle.sha256.specs.Continued.{Within}

-- ---- bytes

-- a byte of a list stands in what begins with it
pub byte_front : (x y : List ℕ) (i : ℕ) → i < length x → get_or (x ++ y) i 0 ≡ get_or x i 0
byte_front x y i inside = get_or-append x y 0 i inside

-- a byte of a list stands in what ends with it
pub byte_back : (x y : List ℕ) (i j : ℕ) → j ≡ length x + i → get_or (x ++ y) j 0 ≡ get_or y i 0
byte_back x y i j place = rw place (get_or-append-add x y i 0)

module _ (a b c d : List ℕ) where
  -- how long four lists are
  pub length_4 : length (a ++ b ++ c ++ d) ≡ length a + length b + length c + length d
  length_4 = simp length-append

  -- a byte of the first of four lists
  pub byte_1 : (i : ℕ) → i < length a → get_or (a ++ b ++ c ++ d) i 0 ≡ get_or a i 0
  byte_1 i inside =
      let one : i < length (a ++ b) = simp length-append (omega arith) in
      let two : i < length (a ++ b ++ c) = simp length-append (omega arith) in
      byte_front (a ++ b ++ c) d i two ∙ byte_front (a ++ b) c i one ∙ byte_front a b i inside

  -- of the second
  pub byte_2 : (i j : ℕ) → j ≡ length a + i → i < length b → get_or (a ++ b ++ c ++ d) j 0 ≡ get_or b i 0
  byte_2 i j place inside =
      let one : j < length (a ++ b) = simp length-append (omega arith) in
      let two : j < length (a ++ b ++ c) = simp length-append (omega arith) in
      byte_front (a ++ b ++ c) d j two ∙ byte_front (a ++ b) c j one ∙ byte_back a b i j place

  -- of the third
  pub byte_3 : (i j : ℕ) → j ≡ length a + length b + i → i < length c → get_or (a ++ b ++ c ++ d) j 0 ≡ get_or c i 0
  byte_3 i j place inside =
      let two : j < length (a ++ b ++ c) = simp length-append (omega arith) in
      let back : j ≡ length (a ++ b) + i = simp length-append place in
      byte_front (a ++ b ++ c) d j two ∙ byte_back (a ++ b) c i j back

  -- of the fourth
  pub byte_4 : (i j : ℕ) → j ≡ length a + length b + length c + i → get_or (a ++ b ++ c ++ d) j 0 ≡ get_or d i 0
  byte_4 i j place =
      let back : j ≡ length (a ++ b ++ c) + i = simp length-append place in
      byte_back (a ++ b ++ c) d i j back

-- ---- words

-- words are equal where their four bytes are
pub same-words : (p q : List ℕ) (i j : ℕ) → ((n : ℕ) → n < 4 → get_or p (i + n) 0 ≡ get_or q (j + n) 0) → word_at p i ≡ word_at q j
unfolding word_at
same-words p q i j same =
    let first : get_or p i 0 ≡ get_or q j 0 =
    ap (λ (x : ℕ). get_or p x 0) (sym (add-zero i)) ∙ same 0 (omega arith) ∙ ap (λ (x : ℕ). get_or q x 0) (add-zero j) in
    cc (same 1 (omega arith), same 2 (omega arith), same 3 (omega arith))

module _ (a b c d : List ℕ) where
  -- a word inside the first of four lists
  pub word_1 : (i : ℕ) → i + 4 ≤ length a → word_at (a ++ b ++ c ++ d) i ≡ word_at a i
  word_1 i inside = same-words (a ++ b ++ c ++ d) a i i (λ n h. byte_1 a b c d (i + n) (omega arith))

  -- inside the second
  pub word_2 : (i j : ℕ) → j ≡ length a + i → i + 4 ≤ length b → word_at (a ++ b ++ c ++ d) j ≡ word_at b i
  word_2 i j place inside = same-words (a ++ b ++ c ++ d) b j i (λ n h. byte_2 a b c d (i + n) (j + n) (omega arith) (omega arith))

  -- inside the third
  pub word_3 : (i j : ℕ) → j ≡ length a + length b + i → i + 4 ≤ length c → word_at (a ++ b ++ c ++ d) j ≡ word_at c i
  word_3 i j place inside = same-words (a ++ b ++ c ++ d) c j i (λ n h. byte_3 a b c d (i + n) (j + n) (omega arith) (omega arith))

  -- in the fourth
  pub word_4 : (i j : ℕ) → j ≡ length a + length b + length c + i → word_at (a ++ b ++ c ++ d) j ≡ word_at d i
  word_4 i j place = same-words (a ++ b ++ c ++ d) d j i (λ n h. byte_4 a b c d (i + n) (j + n) (omega arith))

-- ---- the padding

-- how long it is: the padded message is a whole number of blocks, with room for the byte 0x80 and the eight of the length
pub length-padding : (len : ℕ) → length (padding len) ≡ 9 + k (8 * len) / 8
unfolding padding bytes_of
length-padding len = simp (length-append, length-replicate) (omega arith)

-- the zeros are less than a block
pub k_small : (len : ℕ) → k (8 * len) / 8 < 64
unfolding k
k_small len = omega arith

-- and so, behind the rest of a message, the blocks' number
pub length_padded : (len n : ℕ) → len % 64 ≡ n % 64 → n + length (padding len) ≡ 64 * ((n + 72) / 64)
unfolding k
length_padded len n whole = omega (arith, length-padding len)

-- the sizes of three pieces that end a message of len bytes, and of p, which is the pieces with their padding
pub record Sizes (a b c : List ℕ) (len : ℕ) (p : List ℕ) : Type 0 where
  pub bound : len ≤ 65536
  pub rest : length a + length b + length c ≤ len
  pub whole : len % 64 ≡ (length a + length b + length c) % 64
  pub padded : length p ≡ length a + length b + length c + length (padding len)
  pub blocks : length p ≡ 64 * ((length a + length b + length c + 72) / 64)
  pub least : 9 ≤ length (padding len)
  pub most : length (padding len) ≤ 73

pub sizes : (a b c : List ℕ) (len : ℕ) {p : List ℕ} → Within (a ++ b ++ c) len → a ++ b ++ c ++ padding len ≡ p → Sizes a b c len p
sizes a b c len {p} within same =
    let three : length (a ++ b ++ c) ≡ length a + length b + length c = simp length-append in
    let padded : length p ≡ length a + length b + length c + length (padding len) = ap length (sym same) ∙ length_4 a b c (padding len) in
    record {
      bound = within.bound;
      rest = omega arith;
      whole = omega arith;
      padded = padded;
      blocks = padded ∙ length_padded len (length a + length b + length c) (omega arith);
      least = omega (arith, length-padding len);
      most = omega (arith, length-padding len, k_small len);
    }

-- the same, from the pieces' lengths
pub within : (a b c : List ℕ) (len : ℕ) → len ≤ 65536 → length a + length b + length c ≤ len → len % 64 ≡ (length a + length b + length c) % 64 → Within (a ++ b ++ c) len
within a b c len bound rest whole =
    let three : length (a ++ b ++ c) ≡ length a + length b + length c = simp length-append in
    record { bound = bound; rest = omega arith; whole = omega arith }

-- a word's place in the padding, from its place behind the pieces
pub aligned : (len n i : ℕ) → len % 64 ≡ n % 64 → i % 4 ≡ 0 → n ≤ i → (len + (i - n)) % 4 ≡ 0
aligned len n i whole even behind = omega arith

-- between a word that begins in the pieces, or at their end, and the end of the blocks is the length field
pub room : (n p q i : ℕ) → n + p ≡ 64 * q → i % 4 ≡ 0 → i ≤ n → 9 ≤ p → i + 12 ≤ n + p
room n p q i blocks even begins least = omega arith

-- behind the byte 0x80 and before the length field are zeros
pub zero_byte : (len i : ℕ) → 1 ≤ i → i + 8 < length (padding len) → get_or (padding len) i 0 ≡ 0
unfolding padding
zero_byte len zero behind before = absurd (omega arith)
zero_byte len (suc i) behind before =
    let zeros : List ℕ = replicate (k (8 * len) / 8) 0 in
    let short : i < k (8 * len) / 8 = omega (arith, length-padding len) in
    let inside : i < length zeros = simp length-replicate short in
    byte_front zeros (bytes_of 8 (8 * len)) i inside ∙ get_or-replicate (k (8 * len) / 8) i 0 0 short

-- the eight bytes of the length, as two words
length_upper : (x : ℕ) → x < 2 ^ 32 → word_at (bytes_of 8 x) 0 ≡ 0
unfolding word_at bytes_of
length_upper x small = omega arith

-- a number from its remainders by 256
from_bytes : (x a b c r₀ r₁ r₂ : ℕ) → x ≡ a * 256 + r₀ → a ≡ b * 256 + r₁ → b ≡ c * 256 + r₂ → c * 2 ^ 24 + r₂ * 2 ^ 16 + r₁ * 2 ^ 8 + r₀ ≡ x
from_bytes x a b c r₀ r₁ r₂ p q r = omega arith

length_lower : (x : ℕ) → x < 2 ^ 32 → word_at (bytes_of 8 x) 4 ≡ x
unfolding word_at bytes_of
length_lower x small =
    let top : x / 16777216 % 256 ≡ x / 256 / 256 / 256 = omega arith in
    let next : x / 65536 % 256 ≡ x / 256 / 256 % 256 = omega arith in
    let last : x / 1 % 256 ≡ x % 256 = omega arith in
    let whole : x / 256 / 256 / 256 * 2 ^ 24 + x / 256 / 256 % 256 * 2 ^ 16 + x / 256 % 256 * 2 ^ 8 + x % 256 ≡ x =
    from_bytes x (x / 256) (x / 256 / 256) (x / 256 / 256 / 256) (x % 256) (x / 256 % 256) (x / 256 / 256 % 256) (omega arith) (omega arith) (omega arith) in
    cc

-- ---- the padding's words behind the byte 0x80, of a message of len bytes

module _ (len i : ℕ) (bound : len ≤ 65536) (behind : 1 ≤ i) (inside : i + 4 ≤ length (padding len)) (aligned : (len + i) % 4 ≡ 0) where
  -- a word of the length field, j bytes into it
  in_length : (j : ℕ) → i + 8 ≡ length (padding len) + j → word_at (padding len) i ≡ word_at (bytes_of 8 (8 * len)) j
  unfolding padding
  in_length j place =
      let zeros : List ℕ = replicate (k (8 * len) / 8) 0 in
      let long : length zeros ≡ k (8 * len) / 8 = length-replicate (k (8 * len) / 8) 0 in
      same-words (padding len) (bytes_of 8 (8 * len)) i j
      (λ n h. byte_back (128 ∷ zeros) (bytes_of 8 (8 * len)) (j + n) (i + n) (omega (arith, length-padding len)))

  -- the last word is the length in bits
  pub padding-last : len + i + 4 ≡ (len + 72) / 64 * 64 → word_at (padding len) i ≡ 8 * len
  padding-last last = in_length 4 (omega (arith, length_padded len len refl)) ∙ length_lower (8 * len) (omega arith)

  -- a word before the length field is zero
  in_zeros : i + 12 ≤ length (padding len) → word_at (padding len) i ≡ 0
  unfolding word_at
  in_zeros before =
      let none : (n : ℕ) → n < 4 → get_or (padding len) (i + n) 0 ≡ 0 = λ n h. zero_byte len (i + n) (omega arith) (omega arith) in
      let first : get_or (padding len) i 0 ≡ 0 = zero_byte len i behind (omega arith) in
      rw (first, none 1 (omega arith), none 2 (omega arith), none 3 (omega arith)) refl

  -- every other word is zero: before the length field, or its upper word
  pub padding-other : (len + i + 4 ≡ (len + 72) / 64 * 64 → ⊥) → word_at (padding len) i ≡ 0
  padding-other other =
      split (i + 12) (length (padding len)) in_zeros
      (λ late. in_length 0 (omega (arith, length_padded len len refl)) ∙ length_upper (8 * len) (omega arith))
    where
      split : (m n : ℕ) {X : Type 0} → (m ≤ n → X) → (n < m → X) → X
      split m n f g = elim (dec_le m n) [ yes h ↦ f h | no h ↦ g (lt_of_not-le h) ]

-- ---- the words of a block, one more at a time
pub words-suc : (p : List ℕ) (at t : ℕ) → words p at (t + 1) ≡ words p at t ++ (word_at p (at + 4 * t) ∷ [])
unfolding words
words-suc p at t = rw add-one
