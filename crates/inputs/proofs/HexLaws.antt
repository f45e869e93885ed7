-- Laws of bytes as text, in hex. Assumes nothing.
use Rattle.std.proofs.Common.{ℕ, suc, ◌≡◌, refl, ap, ap₂, subst, sym, ◌∙◌, ◌+◌, ◌*◌, ◌/◌, ◌%◌, ◌<◌, ◌≤◌, true, false, List, [], ◌∷◌, ◌++◌, length, take, append-nil, rules}
use native.Mathlib.Omega.{arith}
use mathlib.Core.List.{append_assoc}
use Rattle.std.specs.Bool.{◌==◌}
use Rattle.std.specs.List.{flat_map}
use Rattle.std.specs.Fmt.{digit_glyph}
use Rattle.std.specs.Str.{IsUtf8}
use lib.ListN.{get_or, set, drop, length-append, length-set}
use lib.Seq.{take_all, drop-drop}
use Rattle.std.proofs.Math.Seq.{take-append_seam}
use Rattle.std.proofs.lemmas.Fmt.{hex_byte}
use Rattle.std.proofs.lemmas.Grind.{flat_map-append}
use Rattle.std.proofs.lemmas.List.{drop-set-lt, flat_map_more, take-append-drop, take_more, take_more_set}
use Rattle.std.proofs.lemmas.Str.Ascii.{IsAscii-from_all}
use Rattle.std.proofs.lemmas.Str.{IsUtf8-append, IsUtf8-from_ascii, IsUtf8-nil}
use Rattle.inputs.specs.HexText.{byte_text, hex_text}

-- where there is no byte, the text is the dash
pub dash_of_none : (xs : List ℕ) → true ≡ (length xs == 0) → 45 ∷ [] ≡ hex_text xs
dash_of_none xs none = search (rules, none)

-- the text of a run more, and of all runs
pub text_of_run : (done run rest xs : List ℕ) → done ++ (run ++ rest) ≡ xs → ((done ++ run) ++ rest ≡ xs) × (flat_map byte_text done ++ flat_map byte_text run ≡ flat_map byte_text (done ++ run))
text_of_run done run rest xs all = (append_assoc done run rest ∙ all, sym (flat_map-append byte_text done run))

pub text_of_all : (done rest xs : List ℕ) → length rest ≡ 0 → (length xs == 0) ≡ false → done ++ rest ≡ xs → flat_map byte_text done ≡ hex_text xs
text_of_all done [] xs none some all = rw (← all, append-nil) (search (rules, some))
text_of_all done (x ∷ rest) xs none some all = absurd (omega (arith, none))

-- the text of one byte more
pub text_of_more : (xs : List ℕ) (i : ℕ) → i < length xs → flat_map byte_text (take i xs) ++ byte_text (get_or xs i 0) ≡ flat_map byte_text (take (i + 1) xs)
text_of_more xs i here = search (rules, flat_map_more byte_text [], take_more xs i 0 here)

-- a digit is one of ASCII's
glyph_small : (d : ℕ) → d < 16 → digit_glyph false d < 128
glyph_small d small = grind (arith, small)

one_utf8 : (c : ℕ) → c < 128 → IsUtf8 (c ∷ [])
one_utf8 c small = IsUtf8-from_ascii (c ∷ []) (IsAscii-from_all (c ∷ []) (search (rules, small)))

byte_utf8 : (x : ℕ) → x < 256 → IsUtf8 (byte_text x)
byte_utf8 x small = subst IsUtf8 (sym (hex_byte false x small))
    (IsUtf8-append (digit_glyph false (x / 16) ∷ []) (digit_glyph false (x % 16) ∷ []) (one_utf8 _ (glyph_small _ (omega arith))) (one_utf8 _ (glyph_small _ (omega arith))))

-- the text of bytes is UTF-8
pub text_utf8 : (xs : List ℕ) → ((i : ℕ) → get_or xs i 0 < 256) → IsUtf8 (flat_map byte_text xs)
text_utf8 [] fits = IsUtf8-nil
text_utf8 (x ∷ xs) fits = IsUtf8-append (byte_text x) (flat_map byte_text xs) (byte_utf8 x (fits 0)) (text_utf8 xs (λ i. fits (suc i)))

-- behind the digits of the bytes before i, those of byte i, and nothing else changes
pub laid_more : (xs room old : List ℕ) (i a b : ℕ) → i < length xs → get_or xs i 0 < 256 → 2 * length xs ≤ length old → length room ≡ length old
    → a ≡ digit_glyph false (get_or xs i 0 / 16) → b ≡ digit_glyph false (get_or xs i 0 % 16)
    → (take (2 * i) room ≡ flat_map byte_text (take i xs)) × (drop (2 * i) room ≡ drop (2 * i) old)
    → (take (2 * (i + 1)) (set (set room (2 * i) a) (2 * i + 1) b) ≡ flat_map byte_text (take (i + 1) xs))
    × (drop (2 * (i + 1)) (set (set room (2 * i) a) (2 * i + 1) b) ≡ drop (2 * (i + 1)) old)
laid_more xs room old i a b here fits wide same high low before =
    let places : 2 * (i + 1) ≡ 2 * i + 1 + 1 = omega arith in
    let first = take_more_set room (2 * i) a (omega (arith, same)) in
    let size = length-set room (2 * i) a in
    let second = take_more_set (set room (2 * i) a) (2 * i + 1) b (omega (arith, size, same)) in
    let text = hex_byte false (get_or xs i 0) fits in
    let next = text_of_more xs i here in
    let untouched = drop-set-lt (2 * (i + 1)) (set room (2 * i) a) (2 * i + 1) b (omega arith) ∙ drop-set-lt (2 * (i + 1)) room (2 * i) a (omega arith) in
    let beyond : 2 * (i + 1) ≡ 2 * i + 2 = omega arith in
    let moved = sym (drop-drop 2 (2 * i) room) ∙ ap (drop 2) before.1 ∙ drop-drop 2 (2 * i) old in (
      rw (places, second, first, before.0, high, low, ← next, text) (append_assoc (flat_map byte_text (take i xs)) _ _),
      untouched ∙ rw beyond moved,
    )

-- all bytes in digits, and what lies behind them
pub laid_all : (xs room old : List ℕ) (i : ℕ) → i ≤ length xs → length xs ≤ i
    → (take (2 * i) room ≡ flat_map byte_text (take i xs)) × (drop (2 * i) room ≡ drop (2 * i) old)
    → room ≡ flat_map byte_text xs ++ drop (2 * length xs) old
laid_all xs room old i within all laid =
    let whole : length xs ≡ i = omega (arith, within, all) in
    let text = laid.0 ∙ ap (flat_map byte_text) (take_all i xs all) in
    rw whole (sym (take-append-drop (2 * i) room) ∙ ap₂ ◌++◌ text laid.1)

-- the digits of bytes are two each, and UTF-8
pub length-text : (xs : List ℕ) → ((k : ℕ) → get_or xs k 0 < 256) → length (flat_map byte_text xs) ≡ 2 * length xs
length-text [] fits = refl
length-text (x ∷ xs) fits =
    let front = ap length (hex_byte false x (fits 0)) in
    let rest = length-text xs (λ k. fits (suc k)) in
    length-append (byte_text x) (flat_map byte_text xs) ∙ omega (arith, front, rest)

pub front_text : (xs behind : List ℕ) → ((k : ℕ) → get_or xs k 0 < 256) → take (2 * length xs) (flat_map byte_text xs ++ behind) ≡ flat_map byte_text xs
front_text xs behind fits = rw (← length-text xs fits) (take-append_seam (flat_map byte_text xs) behind)
