-- Parts of lists: a part is read from a place on, laid at a place, or one of the parts that a form is cut into. A form is a list
-- of widths, and its parts follow one another without a gap; by the same list it is cut and its numbers are written. Assumes nothing.
use Rattle.std.specs.Prelude.{ℕ, ◌+◌, List, [], ◌∷◌, ◌++◌, length, take, drop}
use Rattle.numbers.specs.Numbers.{bytes_of}

-- the w elements of l from `at` on
unfoldable pub part : ℕ → ℕ → List ℕ → List ℕ
part at w l = take w (drop at l)

-- d with v laid at `at`
unfoldable pub over : ℕ → List ℕ → List ℕ → List ℕ
over at v d = take at d ++ v ++ drop (at + length v) d

-- how many elements a form of these widths has
abbrev pub size : List ℕ → ℕ
size [] = 0
size (w ∷ ws) = w + size ws

-- the parts of l from `at` on, one for each width
abbrev pub cut_at : ℕ → List ℕ → List ℕ → List (List ℕ)
cut_at at [] l = []
cut_at at (w ∷ ws) l = part at w l ∷ cut_at (at + w) ws l

-- the parts that numbers make, each in its width; where there are fewer numbers than widths, the first parts
abbrev pub fields_of : List ℕ → List ℕ → List (List ℕ)
fields_of [] xs = []
fields_of (w ∷ ws) [] = []
fields_of (w ∷ ws) (x ∷ xs) = bytes_of w x ∷ fields_of ws xs

-- parts end to end
abbrev pub join : List (List ℕ) → List ℕ
join [] = []
join (p ∷ ps) = p ++ join ps
