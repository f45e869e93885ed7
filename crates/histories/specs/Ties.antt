-- What `did` says of a call, held to what the call's contract says: to its number, and to the record at the front of its buffer. So a
-- reader need not unfold a verdict. Assumes nothing.
use Rattle.std.specs.Prelude.{◌≡◌, true, ℕ, ◌≤◌, ◌<◌, List, [], ◌∷◌, Err}
use Rattle.refusals.specs.declared.Refusal.{Refusal}
use Rattle.refusals.specs.declared.Refusal.TheVariants.{Authenticator, Current}
use Rattle.refusals.specs.Numbers.{number_of}
use Rattle.answers.specs.Design.{Design, Served}
use Rattle.answers.specs.Hashing.{binding_in}
use Rattle.answers.specs.Answers.{opened, performed, repeated, viewed, Resumed, resumed}
use Rattle.answers.specs.Written.{front}
use Rattle.histories.specs.Calls.{opens, performs, repeats, views, resumes}
use Rattle.histories.specs.Did.{did}

-- ---- found valid, taken and moved

-- something is listed just where the number says that it was accepted or refused behind a test
pub record PastTest (test number : ℕ) (x : List ℕ) (listed : List (List ℕ)) : Type 0 where
  pub accepted : number ≡ 0 → listed ≡ x ∷ []
  pub behind : test < number → listed ≡ x ∷ []
  pub before : 0 < number → number ≤ test → listed ≡ []

-- the record that resume hands back
abbrev pub handed_back : Resumed → List ℕ → List ℕ → List (List ℕ)
handed_back Resumed.ram in_ram on_disk = in_ram ∷ []
handed_back Resumed.disk in_ram on_disk = on_disk ∷ []
handed_back Resumed.neither in_ram on_disk = []

-- just where the call is accepted
pub record WhereAccepted (number : ℕ) (x : List ℕ) (listed : List (List ℕ)) : Type 0 where
  pub accepted : number ≡ 0 → listed ≡ x ∷ []
  pub refused : (number ≡ 0 → ⊥) → listed ≡ []

pub record DidByNumber (D : Design) (page : List ℕ) : Type 0 where
  pub perform_found : (l request answer : List ℕ)
      → PastTest (number_of Authenticator) (performed D page l request answer).number l (did D page (performs l request answer)).found
  pub perform_taken : (l request answer : List ℕ)
      → PastTest (number_of Current) (performed D page l request answer).number l (did D page (performs l request answer)).taken
  pub perform_moved : (l request answer : List ℕ)
      → WhereAccepted (performed D page l request answer).number request (did D page (performs l request answer)).moved
  pub repeat_found : (l request answer : List ℕ)
      → PastTest (number_of Authenticator) (repeated D page l request answer).number l (did D page (repeats l request answer)).found
  pub view_found : (l : List ℕ) (rack : ℕ) → PastTest (number_of Authenticator) (viewed D page l rack).number l (did D page (views l rack)).found
  pub view_taken : (l : List ℕ) (rack : ℕ) → PastTest (number_of Current) (viewed D page l rack).number l (did D page (views l rack)).taken
  pub resume_taken : (in_ram on_disk : List ℕ) → (did D page (resumes in_ram on_disk)).taken ≡ handed_back (resumed D page in_ram on_disk) in_ram on_disk

-- what this asks of a design: the tests of a record come before 7, and the charge rules behind 8
pub record NumberLaws (D : Design) : Type 0 where
  pub early : (l : List ℕ) (r : Refusal) → D.tested l ≡ Err r → number_of r < number_of Authenticator
  pub behind : (state request : List ℕ) (r : Refusal) → D.formed request ≡ true → D.served state request ≡ Served.barred r → number_of Current < number_of r

-- ---- answered: an accepted call's binding that counts is that of the record at the front of its buffer

pub record AnswersAreCounted (D : Design) (page : List ℕ) : Type 0 where
  pub by_open : (answer : List ℕ)
      → WhereAccepted (opened D page answer).number (binding_in D (front D (opened D page answer).answer)) (did D page (opens answer)).answered
  pub by_perform : (l request answer : List ℕ)
      → WhereAccepted (performed D page l request answer).number (binding_in D (front D (performed D page l request answer).answer))
      (did D page (performs l request answer)).answered
  pub by_repeat : (l request answer : List ℕ)
      → WhereAccepted (repeated D page l request answer).number (binding_in D (front D (repeated D page l request answer).answer))
      (did D page (repeats l request answer)).answered
