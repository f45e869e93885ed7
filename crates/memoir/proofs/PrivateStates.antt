-- The private state is empty, whatever the variables and the input. Assumes nothing.
use mathlib.Core.Path.{◌≡◌, refl}
use Prim.Native.Nat.{ℕ}
use mathlib.Core.List.{List, []}
use Rattle.records.specs.Form.{Form}
use Rattle.answers.specs.Design.{Served}
use Rattle.answers.specs.Edition.{served_bytes}
use Rattle.memoir.specs.Instance.{result_of}
use Rattle.memoir.specs.Theorems.{PrivateStateIsEmpty}

-- what the service gives anew, carried out or barred
new_is_empty : (f : Form) (public_state input : List ℕ) (s : Served) → (result_of f public_state input s).new_private_state ≡ []
new_is_empty f public_state input (Served.carried state) = refl
new_is_empty f public_state input (Served.barred r) = refl

pub private_state_is_empty : (f : Form) → PrivateStateIsEmpty f
private_state_is_empty f =
    record {
      perform_decrypts = λ vars. refl;
      perform_gives = λ vars input. new_is_empty f _ input (served_bytes f.racks vars.LL1RAM.public_state input);
      repeat_decrypts = λ vars. refl;
      repeat_gives = λ vars input. new_is_empty f _ input (served_bytes f.racks vars.LL1RAM.public_state input);
      inverse = λ key. refl;
    }
