-- The report's constants as document 01 has them, for a form of record: SHA-256, whose tag follows from the kinds of the arguments,
-- HMAC-SHA-256, and the charge rules as the service. The private state is empty: encrypting and decrypting give nothing, and nothing is
-- hashed behind a public state. The report's Service always answers; 01's charge rules may bar a request, and then no action is taken,
-- so that what Service says there does not matter: it keeps the state and gives 0. Assumes nothing.
use Rattle.std.specs.Prelude.{ℕ, List, [], ◌∷◌, ◌++◌}
use Rattle.numbers.specs.Comparing.{same}
use Rattle.sha256.specs.Computation.{sha256}
use Rattle.records.specs.Form.{Form}
use Rattle.bindings.specs.Hashed.{summary_tag, binding_tag, authenticator_of}
use Rattle.answers.specs.Design.{Served}
use Rattle.answers.specs.Edition.{served_bytes, stored_after}
use Rattle.memoir.specs.Primitives.{HashDomain, HashType, InputType, PublicStateType, PrivateStateEncType, ServiceResult, Constants}

-- the bytes of an element of the domain
abbrev pub bytes_in : HashDomain → List ℕ
bytes_in (HashType l) = l
bytes_in (InputType l) = l
bytes_in (PublicStateType l) = l
bytes_in (PrivateStateEncType l) = l

-- 01's tag for two arguments: a state 01, the next summary 02, a binding 03; nothing else is hashed, and a pair of other kinds gets 00
abbrev pub tag_for : Form → HashDomain → HashDomain → ℕ
tag_for f (PublicStateType s) (PrivateStateEncType e) = f.tag
tag_for f (PublicStateType s) (HashType h) = 0x00
tag_for f (PublicStateType s) (InputType i) = 0x00
tag_for f (PublicStateType s) (PublicStateType t) = 0x00
tag_for f (HashType s) (InputType i) = summary_tag
tag_for f (HashType s) (HashType h) = binding_tag
tag_for f (HashType s) (PublicStateType t) = 0x00
tag_for f (HashType s) (PrivateStateEncType e) = 0x00
tag_for f (InputType i) b = 0x00
tag_for f (PrivateStateEncType e) b = 0x00

abbrev pub result_of : Form → List ℕ → List ℕ → Served → ServiceResult
result_of f public_state input (Served.carried state) = record { new_public_state = state; new_private_state = []; output = stored_after f.racks state input }
result_of f public_state input (Served.barred r) = record { new_public_state = public_state; new_private_state = []; output = 0 }

abbrev pub constants : Form → Constants
constants f =
    record {
      Hash = λ a b. sha256 (tag_for f a b ∷ bytes_in a ++ bytes_in b);
      GenerateMAC = λ key bound. authenticator_of key [] bound;
      ValidateMAC = λ key bound mac. same mac (authenticator_of key [] bound);
      SymmetricEncrypt = λ key l. [];
      SymmetricDecrypt = λ key l. [];
      Service = λ public_state private_state input. result_of f public_state input (served_bytes f.racks public_state input);
    }
