-- That perform and repeat are the report's two actions. The variables are read out of the bytes: the RAM is the record offered, the NVRAM
-- is the page, the request offered is among the available inputs; disk, outputs and authenticators are any. After an accepted call the
-- RAM is the record that was written, the NVRAM is the page then left, and the rack's new stored value is the output; after a refused
-- one every variable is as it was. Assumes nothing.
use Rattle.std.specs.Prelude.{◌≡◌, ℕ, List, [], ◌∷◌, Ok}
use Rattle.numbers.specs.Parts.{part}
use Rattle.records.specs.Form.{Form}
use Rattle.records.specs.Page.{page_summary, page_key}
use Rattle.records.specs.Record.{record_size, state_bytes, summary, authenticator}
use Rattle.answers.specs.Design.{Served}
use Rattle.answers.specs.Judging.{offered}
use Rattle.answers.specs.Answers.{Performed}
use Rattle.answers.specs.Edition.{design, served_bytes}
use Rattle.memoir.specs.Storage.{LL1UntrustedStorageType, LL1TrustedStorageType, LL1Vars}

-- a record, and a page, as the report's storage
abbrev pub storage_in : Form → List ℕ → LL1UntrustedStorageType
storage_in f l = record { public_state = state_bytes f l; private_state_enc = []; history_summary = summary f l; authenticator = authenticator f l }

abbrev pub trusted_in : List ℕ → LL1TrustedStorageType
trusted_in page = record { history_summary = page_summary page; symmetric_key = page_key page }

-- the variables when a record is offered with a page; the rest is v's
abbrev pub offering : Form → List ℕ → List ℕ → LL1Vars → LL1Vars
offering f page l v =
    record {
      LL1AvailableInputs = v.LL1AvailableInputs;
      LL1ObservedOutputs = v.LL1ObservedOutputs;
      LL1ObservedAuthenticators = v.LL1ObservedAuthenticators;
      LL1Disk = v.LL1Disk;
      LL1RAM = storage_in f l;
      LL1NVRAM = trusted_in page;
    }

-- the record at the front of an answer buffer
abbrev pub written : Form → List ℕ → List ℕ
written f answer = part 0 (record_size f) answer

-- the variables after an accepted call that left this page and this answer and returned this figure
abbrev pub accepted : Form → Performed → LL1Vars → LL1Vars
accepted f p v =
    record {
      LL1AvailableInputs = v.LL1AvailableInputs;
      LL1ObservedOutputs = p.stored ∷ v.LL1ObservedOutputs;
      LL1ObservedAuthenticators = authenticator f (written f p.answer) ∷ v.LL1ObservedAuthenticators;
      LL1Disk = v.LL1Disk;
      LL1RAM = storage_in f (written f p.answer);
      LL1NVRAM = trusted_in p.page;
    }

-- a call that let tests 1 to 6 pass, on a request that the charge rules can carry out
pub record Possible (f : Form) (page l request answer : List ℕ) : Type 0 where
  pub passed : offered (design f) page l request answer ≡ Ok tt
  pub state : List ℕ
  pub carries : served_bytes f.racks (state_bytes f l) request ≡ Served.carried state
