-- Document 01, 'Strength of the contracts': 'These versions have to be turned away'. A version of a call is any function of what the
-- call is lent; it meets the contract if it gives what the definition gives on all that buffers can hold. That none of these meets it is
-- not for want of accepted calls: there are some for every key and every summary. Assumes nothing.
use Rattle.std.specs.Prelude.{◌≡◌, ℕ, ◌^◌, ◌<◌, List, length}
use Rattle.numbers.specs.Numbers.{Bytes}
use Rattle.racks.specs.Edition.{racks}
use Rattle.records.specs.Form.{version1}
use Rattle.records.specs.Page.{page_key, zero_summary}
use Rattle.records.specs.Record.{summary}
use Rattle.answers.specs.Hashing.{bound_record}
use Rattle.answers.specs.Answers.{Outcome, opened, Performed, Viewed, viewed, Resumed, resumed}
use Rattle.answers.specs.Edition.{this_edition}
use Rattle.answers.specs.Written.{front}

-- ---- what a call is lent

-- what a buffer of u8 holds: fewer than 2 ^ 63 bytes. A contract speaks of nothing else, and neither do the versions.
pub record Buffer (l : List ℕ) : Type 0 where
  pub bytes : Bytes l
  pub size : length l < 2 ^ 63

-- the four that perform and repeat are lent: page, record, request and answer buffer
abbrev pub Buffers : List ℕ → List ℕ → List ℕ → List ℕ → Type 0
Buffers page l request answer = Buffer page × Buffer l × Buffer request × Buffer answer

-- ---- versions of perform and of repeat

abbrev pub Version : Type 0
Version = List ℕ → List ℕ → List ℕ → List ℕ → Performed

abbrev pub Meets : Version → Version → Type 0
Meets call f = (page l request answer : List ℕ) → Buffers page l request answer → f page l request answer ≡ call page l request answer

-- one that refuses everything
abbrev pub RefusesAll : Version → Type 0
RefusesAll f = (page l request answer : List ℕ) → Buffers page l request answer → (f page l request answer).number ≡ 0 → ⊥

-- one that answers every call with the first record
abbrev pub AnswersFirst : Version → Type 0
AnswersFirst f =
    (page l request answer : List ℕ) → Buffers page l request answer → (f page l request answer).number ≡ 0
    → front this_edition (f page l request answer).answer ≡ bound_record this_edition page zero_summary this_edition.first_bytes

-- one that writes nothing: it leaves the answer buffer, whatever it does to the page
abbrev pub WritesNothing : Version → Type 0
WritesNothing f = (page l request answer : List ℕ) → Buffers page l request answer → (f page l request answer).answer ≡ answer

-- one that copies the offered record
abbrev pub Copies : Version → Type 0
Copies f =
    (page l request answer : List ℕ) → Buffers page l request answer → (f page l request answer).number ≡ 0
    → front this_edition (f page l request answer).answer ≡ l

-- one that does as it likes, properly too, on the page `once`, and on every other page only copies the offered record
abbrev pub CopiesLater : List ℕ → Version → Type 0
CopiesLater once f =
    (page l request answer : List ℕ) → Buffers page l request answer → (page ≡ once → ⊥) → (f page l request answer).number ≡ 0
    → front this_edition (f page l request answer).answer ≡ l

-- none of them meets the call's contract
pub record TurnedAway (call : Version) : Type 0 where
  pub refuses_all : (f : Version) → RefusesAll f → Meets call f → ⊥
  pub answers_first : (f : Version) → AnswersFirst f → Meets call f → ⊥
  pub writes_nothing : (f : Version) → WritesNothing f → Meets call f → ⊥
  pub copies : (f : Version) → Copies f → Meets call f → ⊥
  pub copies_later : (once : List ℕ) (f : Version) → CopiesLater once f → Meets call f → ⊥

-- ---- the other calls

abbrev pub OpenVersion : Type 0
OpenVersion = List ℕ → List ℕ → Outcome

abbrev pub MeetsOpen : OpenVersion → Type 0
MeetsOpen f = (page answer : List ℕ) → Buffer page × Buffer answer → f page answer ≡ opened this_edition page answer

-- the rack is a u32
abbrev pub ViewVersion : Type 0
ViewVersion = List ℕ → List ℕ → ℕ → Viewed

abbrev pub MeetsView : ViewVersion → Type 0
MeetsView f = (page l : List ℕ) (rack : ℕ) → Buffer page × Buffer l × (rack < 2 ^ 32) → f page l rack ≡ viewed this_edition page l rack

abbrev pub ResumeVersion : Type 0
ResumeVersion = List ℕ → List ℕ → List ℕ → Resumed

abbrev pub MeetsResume : ResumeVersion → Type 0
MeetsResume f =
    (page in_ram on_disk : List ℕ) → Buffer page × Buffer in_ram × Buffer on_disk → f page in_ram on_disk ≡ resumed this_edition page in_ram on_disk

-- an open that refuses everything, or writes nothing, a view that refuses everything, a resume that always hands back the empty part
pub record OthersTurnedAway : Type 0 where
  pub open_refuses : (f : OpenVersion) → ((page answer : List ℕ) → Buffer page × Buffer answer → (f page answer).number ≡ 0 → ⊥) → MeetsOpen f → ⊥
  pub open_silent : (f : OpenVersion) → ((page answer : List ℕ) → Buffer page × Buffer answer → (f page answer).answer ≡ answer) → MeetsOpen f → ⊥
  pub view_refuses : (f : ViewVersion)
      → ((page l : List ℕ) (rack : ℕ) → Buffer page × Buffer l × (rack < 2 ^ 32) → (f page l rack).number ≡ 0 → ⊥) → MeetsView f → ⊥
  pub resume_empty : (f : ResumeVersion)
      → ((page in_ram on_disk : List ℕ) → Buffer page × Buffer in_ram × Buffer on_disk → f page in_ram on_disk ≡ Resumed.neither) → MeetsResume f → ⊥

-- ---- accepted calls, on a page with a key, with a record of a summary

pub record AcceptedOpen (key : List ℕ) : Type 0 where
  pub page : List ℕ
  pub answer : List ℕ
  pub buffers : Buffer page × Buffer answer
  pub key_is : page_key page ≡ key
  pub accepted : (opened this_edition page answer).number ≡ 0

pub record AcceptedCall (call : Version) (key record_summary : List ℕ) : Type 0 where
  pub page : List ℕ
  pub offered : List ℕ
  pub request : List ℕ
  pub answer : List ℕ
  pub buffers : Buffers page offered request answer
  pub key_is : page_key page ≡ key
  pub summary_is : summary version1 offered ≡ record_summary
  pub accepted : (call page offered request answer).number ≡ 0

-- a record that view shows at every rack, and that resume hands back, whatever stands on the disk
pub record AcceptedLook (key record_summary : List ℕ) : Type 0 where
  pub page : List ℕ
  pub offered : List ℕ
  pub buffers : Buffer page × Buffer offered
  pub key_is : page_key page ≡ key
  pub summary_is : summary version1 offered ≡ record_summary
  pub shown : (rack : ℕ) → rack < racks → (viewed this_edition page offered rack).number ≡ 0
  pub handed_back : (on_disk : List ℕ) → resumed this_edition page offered on_disk ≡ Resumed.ram
