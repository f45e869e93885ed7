-- Lists of bytes stay lists of bytes: joined, cut, laid over one another, and written from a number.
-- The idea: whatever element is asked for, it comes from a list of bytes. Assumes nothing.
use Prim.Native.Nat.{ℕ, zero, suc, ◌+◌, ◌<◌}
use native.Mathlib.Nat.{mod-lt, zero-lt-suc}
use native.Mathlib.Omega.{arith}
use mathlib.Core.List.{List, [], ◌∷◌, ◌++◌}
use lib.ListN.{length, take, drop, replicate}
use lib.Seq.{get_or-drop}
use Rattle.numbers.specs.Numbers.{Bytes, bytes_of}
use Rattle.numbers.specs.Parts.{part, over}

-- no bytes
pub bytes-nil : Bytes []
bytes-nil i = omega arith

-- one byte more in front
pub bytes-cons : (x : ℕ) (l : List ℕ) → x < 256 → Bytes l → Bytes (x ∷ l)
bytes-cons x l h k zero = h
bytes-cons x l h k (suc i) = k i

-- one byte n times
pub bytes-replicate : (n x : ℕ) → x < 256 → Bytes (replicate n x)
bytes-replicate zero x h = bytes-nil
bytes-replicate (suc n) x h = bytes-cons x (replicate n x) h (bytes-replicate n x h)

-- end to end
pub bytes-append : (a b : List ℕ) → Bytes a → Bytes b → Bytes (a ++ b)
bytes-append [] b h k = k
bytes-append (x ∷ a) b h k = bytes-cons x (a ++ b) (h 0) (bytes-append a b (λ i. h (suc i)) k)

-- the first n
pub bytes_take : (n : ℕ) (l : List ℕ) → Bytes l → Bytes (take n l)
bytes_take zero l h = bytes-nil
bytes_take (suc n) [] h = bytes-nil
bytes_take (suc n) (x ∷ l) h = bytes-cons x (take n l) (h 0) (bytes_take n l (λ i. h (suc i)))

-- all but the first n
pub bytes_drop : (n : ℕ) (l : List ℕ) → Bytes l → Bytes (drop n l)
bytes_drop n l h i = rw get_or-drop (h (n + i))

-- a part
pub bytes-part : (at w : ℕ) (l : List ℕ) → Bytes l → Bytes (part at w l)
unfolding part
bytes-part at w l h = bytes_take w (drop at l) (bytes_drop at l h)

-- bytes laid in bytes
pub bytes-over : (at : ℕ) (v d : List ℕ) → Bytes v → Bytes d → Bytes (over at v d)
unfolding over
bytes-over at v d h k =
    bytes-append (take at d ++ v) (drop (at + length v) d)
    (bytes-append (take at d) v (bytes_take at d k) h)
    (bytes_drop (at + length v) d k)

-- a number in w bytes
pub bytes-bytes_of : (w x : ℕ) → Bytes (bytes_of w x)
unfolding bytes_of
bytes-bytes_of zero x = bytes-nil
bytes-bytes_of (suc w) x = bytes-cons _ (bytes_of w x) (mod-lt _ (zero-lt-suc 255)) (bytes-bytes_of w x)
