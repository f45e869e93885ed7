-- The digest's bytes, written four at a time behind those that stand there, how many they are, and that they are bytes. Assumes nothing.
use Rattle.std.proofs.Common.{◌≡◌, ℕ, zero, suc, ◌+◌, ◌*◌, ◌≤◌, List, ◌++◌, length, take, get_or, refl, ◌∙◌, arith, length-append, add-one}
use native.Mathlib.Nat.{div-one}
use borrow.Rule.Slice.PartMut.{put_mid}
use Rattle.std.specs.Int.{w32, to_be_bytes}
use Rattle.std.proofs.lemmas.Slice.{take-put_mid}
use Rattle.numbers.specs.Numbers.{bytes_of, Bytes}
use Rattle.numbers.proofs.Numbers.{length-bytes_of}
use Rattle.numbers.proofs.Bytes.{bytes-nil, bytes-append, bytes-bytes_of}
use Rattle.sha256.specs.Computation.{digest, sha256}

-- a word's four bytes, as the library gives them
be_bytes : (x : ℕ) → to_be_bytes w32 x ≡ bytes_of 4 x
unfolding bytes_of
be_bytes x = rw (div-one x) refl

-- the bytes of one more word of a hash value
pub word_more : (H l b : List ℕ) (i k : ℕ) → 4 * i ≤ length l → take (4 * i) l ≡ digest H i → b ≡ to_be_bytes w32 (get_or H i 0)
    → take (4 * (i + 1)) (put_mid (4 * i) k l b) ≡ digest H (i + 1)
unfolding digest
word_more H l b i k fits front bytes =
    let four : length b ≡ 4 = rw bytes refl in
    let behind : take (4 * (i + 1)) (put_mid (4 * i) k l b) ≡ take (4 * i) l ++ b = take-put_mid (4 * i) k l b (4 * (i + 1)) (omega arith) fits in
    rw (behind, front, bytes, add-one, be_bytes) refl

-- how long a digest is
pub length-digest : (H : List ℕ) (n : ℕ) → length (digest H n) ≡ 4 * n
unfolding digest
length-digest H zero = refl
length-digest H (suc n) = length-append (digest H n) (bytes_of 4 (get_or H n 0)) ∙ omega (arith, length-digest H n, length-bytes_of 4 (get_or H n 0))

pub length-sha256 : (m : List ℕ) → length (sha256 m) ≡ 32
unfolding sha256
length-sha256 m = length-digest _ 8

-- it is bytes
bytes-digest : (H : List ℕ) (n : ℕ) → Bytes (digest H n)
unfolding digest
bytes-digest H zero = bytes-nil
bytes-digest H (suc n) = bytes-append (digest H n) (bytes_of 4 (get_or H n 0)) (bytes-digest H n) (bytes-bytes_of 4 (get_or H n 0))

pub bytes-sha256 : (m : List ℕ) → Bytes (sha256 m)
unfolding sha256
bytes-sha256 m = bytes-digest _ 8
