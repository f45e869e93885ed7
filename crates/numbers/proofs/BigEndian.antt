-- The library's bytes of a number, the highest first, are those that `bytes_of` writes and `be` reads.
-- The idea: a number that w bytes hold is read back as it was written. Assumes nothing.
use mathlib.Core.Path.{◌≡◌, refl, sym, ap, ◌∙◌}
use Prim.Native.Nat.{ℕ, zero, suc, ◌/◌, ◌%◌, ◌^◌, ◌<◌}
use native.Mathlib.Nat.{div-one}
use mathlib.Core.List.{List, ◌∷◌}
use lib.ListN.{length}
use Rattle.std.specs.Int.{w16, w32, w64, from_be_bytes, bytes_high_first}
use Rattle.std.proofs.lemmas.Nat.{be_bytes_2, be_bytes_4, be_bytes_8}
use Rattle.numbers.specs.Numbers.{be, bytes_of, Bytes}
use Rattle.numbers.proofs.Numbers.{be-bytes_of}

-- the number x in w bytes
pub written : (w x : ℕ) → bytes_of w x ≡ bytes_high_first w x
unfolding bytes_of
written zero x = refl
written (suc zero) x = rw (div-one x)
written (suc (suc w)) x = ap (λ l. x / 256 ^ suc w % 256 ∷ l) (written (suc w) x)

-- the number whose w bytes are l
whole : (w x : ℕ) (l : List ℕ) → x < 256 ^ w → bytes_high_first w x ≡ l → x ≡ be l
whole w x l h e = sym (be-bytes_of w x h) ∙ ap be (written w x ∙ e)

-- the number x in the bytes l, at each width
pub read_2 : (x : ℕ) (l : List ℕ) → x ≡ from_be_bytes w16 l → x < 2 ^ 16 → length l ≡ 2 → Bytes l → x ≡ be l
read_2 x l e h wide bytes = whole 2 x l h (be_bytes_2 l x wide bytes e)

pub read_4 : (x : ℕ) (l : List ℕ) → x ≡ from_be_bytes w32 l → x < 2 ^ 32 → length l ≡ 4 → Bytes l → x ≡ be l
read_4 x l e h wide bytes = whole 4 x l h (be_bytes_4 l x wide bytes e)

pub read_8 : (x : ℕ) (l : List ℕ) → x ≡ from_be_bytes w64 l → x < 2 ^ 64 → length l ≡ 8 → Bytes l → x ≡ be l
read_8 x l e h wide bytes = whole 8 x l h (be_bytes_8 l x wide bytes e)

-- for the conversions of the number types
pub ruleset conversions = (written, read_2, read_4, read_8)
