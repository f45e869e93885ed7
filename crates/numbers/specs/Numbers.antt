-- Numbers in bytes, the most significant byte first: what bytes stand for, and which bytes stand for a number. Both are said
-- once for every width, so that 2, 4 and 8 bytes are instances. A byte is a number below 256. Assumes nothing.
use Rattle.std.specs.Prelude.{ℕ, zero, suc, ◌+◌, ◌*◌, ◌/◌, ◌%◌, ◌^◌, ◌<◌, List, [], ◌∷◌, get_or}

-- the number that bytes stand for when they follow others that stand for n
unfoldable pub be_from : ℕ → List ℕ → ℕ
be_from n [] = n
be_from n (x ∷ l) = be_from (n * 256 + x) l

-- the number that bytes stand for
unfoldable pub be : List ℕ → ℕ
unfolding be_from
be l = be_from 0 l

-- the number x in w bytes
unfoldable pub bytes_of : ℕ → ℕ → List ℕ
bytes_of zero x = []
bytes_of (suc w) x = x / 256 ^ w % 256 ∷ bytes_of w x

-- every element is a byte; behind the end `get_or` says 0, which is one
abbrev pub Bytes : List ℕ → Type 0
Bytes l = (i : ℕ) → get_or l i 0 < 256
