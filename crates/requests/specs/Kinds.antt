-- Document 01, 'Charge rules': kinds 1 to 4, in the order in which they are described. Assumes nothing.
use Rattle.std.specs.Prelude.{◌≡◌, ℕ, ◌≤◌, Result, MatchResult}
use Rattle.requests.specs.declared.kinds.Kind.{Kind}
use Rattle.requests.specs.declared.kinds.Kind.TheVariants.{Capacity, Charge, Discharge, Move}
use Rattle.requests.specs.declared.kinds.UnknownKind.{UnknownKind}

abbrev pub number_of_kind : Kind → ℕ
number_of_kind Capacity = 1
number_of_kind Charge = 2
number_of_kind Discharge = 3
number_of_kind Move = 4

-- a number is read as the kind that has it, and each number from 1 to 4 is read
abbrev pub Numbered : ℕ → Result Kind UnknownKind → Type 0
Numbered n r = MatchResult r (λ kind. number_of_kind kind ≡ n) (λ _. 1 ≤ n → n ≤ 4 → ⊥)
