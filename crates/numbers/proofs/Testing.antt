-- A test that the code has made, as `if !f(..)` leaves it, and what it says of the test that f's contract names.
-- Assumes nothing.
use mathlib.Core.Path.{◌≡◌, sym, ◌∙◌}
use mathlib.Core.Bool.{Bool, true, false}

pub failed : (r t : Bool) → r ≡ t → r ≡ false → t ≡ false
failed r t e n = sym e ∙ n

pub passed : (r t : Bool) → r ≡ t → r ≡ true → t ≡ true
passed r t e n = sym e ∙ n
