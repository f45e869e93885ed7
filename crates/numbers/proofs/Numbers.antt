-- A number and its bytes, at every width: reading back what was written, writing back what was read, and the bounds.
-- The idea: bytes stand for the first, times 256 to the length of the rest, and the rest. Assumes nothing.
use mathlib.Core.Path.{◌≡◌, refl, ap}
use Prim.Native.Nat.{ℕ, zero, suc, ◌+◌, ◌*◌, ◌/◌, ◌%◌, ◌^◌, ◌≤◌, ◌<◌}
use native.Mathlib.Nat.{pow-succ', one-le-pow, mod-eq_of_lt, zero-lt-suc, add-mul, mul_assoc, add_assoc, zero-add, zero-mul}
use native.Mathlib.Omega.{arith}
use mathlib.Core.List.{List, [], ◌∷◌}
use lib.ListN.{length}
use lib.Arith.{mod-mul, digits_lt, digits_div, digits_mod}
use Rattle.numbers.specs.Numbers.{be_from, be, bytes_of, Bytes}
use Rattle.numbers.specs.Parts.{part}
use Rattle.numbers.proofs.Bytes.{bytes-part}
use Rattle.numbers.proofs.Parts.{length_part}

-- a number in w bytes has w of them
pub length-bytes_of : (w x : ℕ) → length (bytes_of w x) ≡ w
unfolding bytes_of
length-bytes_of zero x = refl
length-bytes_of (suc w) x = ap suc (length-bytes_of w x)

-- a power of 256 is not 0
pow_pos : (w : ℕ) → 0 < 256 ^ w
pow_pos w = one-le-pow w 256 (zero-lt-suc 255)

-- a digit moves from the number in front to the bytes behind
digit : (n x p r : ℕ) → (n * 256 + x) * p + r ≡ n * (256 * p) + (x * p + r)
digit n x p r = rw (add-mul, mul_assoc, add_assoc)

-- bytes that follow others that stand for n
pub be_from-be : (n : ℕ) (l : List ℕ) → be_from n l ≡ n * 256 ^ length l + be l
unfolding be
be_from-be n [] = omega arith
be_from-be n (x ∷ l) =
    rw (pow-succ', be_from-be (n * 256 + x) l, be_from-be (0 + x) l, zero-add)
    (digit n x (256 ^ length l) (be l))

-- the first byte counts 256 to the length of the rest
pub be-cons : (x : ℕ) (l : List ℕ) → be (x ∷ l) ≡ x * 256 ^ length l + be l
unfolding be
be-cons x l = rw zero-add (be_from-be x l)

-- w bytes stand for a number below 256 ^ w
pub be-lt : (l : List ℕ) → Bytes l → be l < 256 ^ length l
unfolding be
be-lt [] h = omega arith
be-lt (x ∷ l) h = rw (be-cons x l, pow-succ') (digits_lt (h 0) (be-lt l (λ i. h (suc i))))

-- so does a part of w bytes
pub be-part-lt : (at w : ℕ) (l : List ℕ) → Bytes l → at + w ≤ length l → be (part at w l) < 256 ^ w
be-part-lt at w l bytes fits = rw (length_part at w l fits) at (be-lt (part at w l) (bytes-part at w l bytes))

-- what w bytes keep of a number, behind others that stand for n
be_from-bytes_of : (n w x : ℕ) → be_from n (bytes_of w x) ≡ n * 256 ^ w + x % 256 ^ w
unfolding be_from bytes_of
be_from-bytes_of n zero x = omega arith
be_from-bytes_of n (suc w) x =
    rw (be_from-bytes_of (n * 256 + x / 256 ^ w % 256) w x, pow-succ', mod-mul x (zero-lt-suc 255) (pow_pos w))
    (digit n (x / 256 ^ w % 256) (256 ^ w) (x % 256 ^ w))

-- a number that w bytes hold is read back as it was written
pub be-bytes_of : (w x : ℕ) → x < 256 ^ w → be (bytes_of w x) ≡ x
unfolding be
be-bytes_of w x h = rw (be_from-bytes_of 0 w x, zero-mul, zero-add) (mod-eq_of_lt h)

-- the byte x is found again between the number in front of it and the bytes behind it
found : (n x : ℕ) (l : List ℕ) → x < 256 → Bytes l → be_from (n * 256 + x) l / 256 ^ length l % 256 ≡ x
found n x l h k = rw (be_from-be (n * 256 + x) l, digits_div (n * 256 + x) (be-lt l k)) (digits_mod n h)

-- the bytes are written back, whatever stands in front of them
bytes_of-be_from : (n : ℕ) (l : List ℕ) → Bytes l → bytes_of (length l) (be_from n l) ≡ l
unfolding be_from bytes_of
bytes_of-be_from n [] h = refl
bytes_of-be_from n (x ∷ l) h =
    rw (found n x l (h 0) (λ i. h (suc i)), bytes_of-be_from (n * 256 + x) l (λ i. h (suc i)))

-- w bytes are written back as they were read
pub bytes_of-be : (w : ℕ) (l : List ℕ) → length l ≡ w → Bytes l → bytes_of w (be l) ≡ l
unfolding be
bytes_of-be w l e h = rw (← e) (bytes_of-be_from 0 l h)
