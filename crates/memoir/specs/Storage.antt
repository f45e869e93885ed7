-- The Memoir report, section 2.4: the storage types and the variables of Memoir-Basic. A set of the report is a list here, and the union
-- of a set with one element puts that element in front. Assumes nothing.
use Rattle.std.specs.Prelude.{ℕ, List}

-- 'The disk and RAM are untrusted.'
pub record LL1UntrustedStorageType : Type 0 where
  pub public_state : List ℕ
  pub private_state_enc : List ℕ
  pub history_summary : List ℕ
  pub authenticator : List ℕ

-- 'The NVRAM is trusted.'
pub record LL1TrustedStorageType : Type 0 where
  pub history_summary : List ℕ
  pub symmetric_key : List ℕ

-- LL1Vars
pub record LL1Vars : Type 0 where
  pub LL1AvailableInputs : List (List ℕ)
  pub LL1ObservedOutputs : List ℕ
  pub LL1ObservedAuthenticators : List (List ℕ)
  pub LL1Disk : LL1UntrustedStorageType
  pub LL1RAM : LL1UntrustedStorageType
  pub LL1NVRAM : LL1TrustedStorageType
