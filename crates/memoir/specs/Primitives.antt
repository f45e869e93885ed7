-- The Memoir report, section 2.3, 'Primitives Used by the Low-Level Systems', and of section 2.1 the service. The report's CONSTANTs are
-- the fields of a record; its types are byte lists, and numbers for the output. Its ASSUMEs on the hash and the MAC are not made here:
-- the two actions do not use them, and what the third condition needs of them is stated there, of the run at hand. Assumes nothing.
use Rattle.std.specs.Prelude.{ℕ, Bool, List}

-- 'The domain of the hash function is hashes, inputs, public states, and encrypted private states.'
pub data HashDomain : Type 0 where
  HashType : List ℕ → HashDomain
  InputType : List ℕ → HashDomain
  PublicStateType : List ℕ → HashDomain
  PrivateStateEncType : List ℕ → HashDomain

-- what Service gives: the new states, and the output
pub record ServiceResult : Type 0 where
  pub new_public_state : List ℕ
  pub new_private_state : List ℕ
  pub output : ℕ

-- the CONSTANTs that the two actions use
pub record Constants : Type 0 where
  pub Hash : HashDomain → HashDomain → List ℕ
  pub GenerateMAC : List ℕ → List ℕ → List ℕ
  pub ValidateMAC : List ℕ → List ℕ → List ℕ → Bool
  pub SymmetricEncrypt : List ℕ → List ℕ → List ℕ
  pub SymmetricDecrypt : List ℕ → List ℕ → List ℕ
  pub Service : List ℕ → List ℕ → List ℕ → ServiceResult
