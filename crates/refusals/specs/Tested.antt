-- What tests find: nothing against a call, or the first refusal. Assumes nothing.
use Rattle.std.specs.Prelude.{ℕ, Result, Ok, Err}
use Rattle.refusals.specs.declared.Refusal.{Refusal}
use Rattle.refusals.specs.Numbers.{number_of}

abbrev pub Tested : Type 0
Tested = Result (Unit {0}) Refusal

-- some tests hand something over where they pass: f of it, or the refusal
abbrev pub passing : {A B : Type 0} → (A → B) → Result A Refusal → Result B Refusal
passing f (Ok x) = Ok (f x)
passing f (Err r) = Err r

-- what such tests find, without what they hand over
abbrev pub found : {A : Type 0} → Result A Refusal → Tested
found r = passing (λ _. tt) r

-- the number of a call's answer: 0, or the refusal's
abbrev pub number_told : {A : Type 0} → Result A Refusal → ℕ
number_told (Ok x) = 0
number_told (Err r) = number_of r
