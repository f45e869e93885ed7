-- A run of three calls of the keeper that ships, with SHA-256, HMAC-SHA-256, 16 racks and records of 451 bytes: open, a perform that
-- sets the capacity of rack 3 to 100, and a view. What the calls answered and did is computed; the authenticators and the summary are
-- 32 bytes each, written out. Assumes nothing.
use Rattle.std.specs.Prelude.{◌≡◌, ℕ, List, [], ◌∷◌, ◌++◌, replicate, Ok}
use Rattle.std.proofs.Math.Path.{refl, ap}
use Rattle.std.proofs.Common.{◌∙◌}
use Rattle.numbers.specs.Numbers.{be_from, be, bytes_of}
use Rattle.numbers.specs.Parts.{part, over}
use Rattle.numbers.specs.Comparing.{same}
use Rattle.refusals.specs.Tested.{Tested}
use Rattle.racks.specs.Racks.{first_state}
use Rattle.racks.specs.Layout.{rack_of, bytes_of_rack, state_of, bytes_of_state}
use Rattle.racks.specs.Rule.{good_rack, good_state}
use Rattle.racks.specs.Figures.{percent, total_stored}
use Rattle.requests.specs.Layout.{bytes_of_request}
use Rattle.requests.specs.Formed.{right_form, right_other, right_amount, well_formed}
use Rattle.requests.specs.Requests.{request_by, request_of, read_request}
use Rattle.rules.specs.Rules.{over_capacity, over_stored, over_limit, ruling, carry_out}
use Rattle.rules.specs.Replay.{book}
use Rattle.records.specs.Page.{zero_summary}
use Rattle.records.specs.Record.{record_of, right_size, right_version, right_state}
use Rattle.records.specs.Tests.{tested}
use Rattle.sha256_words.specs.Words.{word_at, ◌⊞◌, SHL, SHR, ROTR}
use Rattle.sha256_words.specs.Functions.{Ch, Maj, Σ₀, Σ₁, σ₀, σ₁}
use Rattle.sha256_block.specs.Constants.{K}
use Rattle.sha256_block.specs.Schedule.{next_word, schedule, W}
use Rattle.sha256_block.specs.Step.{T₁, T₂, round, round_at, rounds, add_to, next_hash}
use Rattle.sha256.specs.Padding.{k, padding, pad}
use Rattle.sha256.specs.Parsing.{words, block, blocks}
use Rattle.sha256.specs.Computation.{H₀, hashes, digest, sha256}
use Rattle.hmac.specs.Hmac.{◌⊕◌, K₀, hmac}
use Rattle.bindings.specs.Hashed.{authenticator_of}
use Rattle.answers.specs.Design.{Design}
use Rattle.answers.specs.Hashing.{next_summary, binding_of}
use Rattle.answers.specs.Rows.{Origin}
use Rattle.answers.specs.Judging.{Verdict, good, perform_verdict, view_verdict}
use Rattle.answers.specs.Answers.{open_tests, opened_by, opened, answered_by, performed, viewed_by, viewed}
use Rattle.answers.specs.Edition.{served_bytes, stored_after, this_edition}
use Rattle.histories.specs.Calls.{opens, performs, views}
use Rattle.histories.specs.Did.{bound_messages, record_messages, answer_messages, open_did, perform_did}
use Rattle.histories.specs.Runs.{whole, Run, moved_by, in_run, answered_before, moved_before}

-- ---- what the run is made of

-- capacity 100 for rack 3
abbrev pub a : List ℕ
a = bytes_of_request 1 3 0 100

abbrev pub state_0 : List ℕ
state_0 = replicate 384 0

abbrev pub state_a : List ℕ
state_a = replicate 72 0 ++ bytes_of 4 100 ++ replicate 308 0

-- the summary after it
abbrev pub summary_a : List ℕ
summary_a =
    0xe3 ∷ 0x0f ∷ 0xf4 ∷ 0x0d ∷ 0xc6 ∷ 0x93 ∷ 0x04 ∷ 0x63 ∷ 0x45 ∷ 0x01 ∷ 0x26 ∷ 0xf3 ∷ 0x4f ∷ 0x17 ∷ 0xa6 ∷ 0xfd
    ∷ 0x8d ∷ 0xa7 ∷ 0x68 ∷ 0x2b ∷ 0x10 ∷ 0x42 ∷ 0xc0 ∷ 0x1f ∷ 0xd7 ∷ 0x71 ∷ 0xac ∷ 0x50 ∷ 0x04 ∷ 0x23 ∷ 0x99 ∷ 0x62
    ∷ []

-- the state hashes and the bindings
abbrev pub hash_0 : List ℕ
hash_0 =
    0xae ∷ 0xcb ∷ 0x7d ∷ 0x4e ∷ 0x5d ∷ 0x02 ∷ 0x9c ∷ 0x8a ∷ 0x81 ∷ 0x30 ∷ 0xf2 ∷ 0x66 ∷ 0xf1 ∷ 0xf1 ∷ 0x3c ∷ 0xbf
    ∷ 0x35 ∷ 0xbd ∷ 0x68 ∷ 0x25 ∷ 0x7a ∷ 0xfb ∷ 0x70 ∷ 0x52 ∷ 0x1d ∷ 0xf7 ∷ 0xad ∷ 0x63 ∷ 0xc3 ∷ 0xbf ∷ 0xb8 ∷ 0xe6
    ∷ []

abbrev pub hash-a : List ℕ
hash-a =
    0x73 ∷ 0x49 ∷ 0x79 ∷ 0x26 ∷ 0x9f ∷ 0xee ∷ 0x53 ∷ 0x10 ∷ 0xc7 ∷ 0x41 ∷ 0x09 ∷ 0x24 ∷ 0xec ∷ 0x71 ∷ 0x48 ∷ 0x57
    ∷ 0xc7 ∷ 0x88 ∷ 0x8b ∷ 0xfa ∷ 0xbe ∷ 0xb2 ∷ 0xc1 ∷ 0x4d ∷ 0xce ∷ 0xd6 ∷ 0xbe ∷ 0x73 ∷ 0xbb ∷ 0x7e ∷ 0x56 ∷ 0xd2
    ∷ []

abbrev pub binding_0 : List ℕ
binding_0 =
    0x6e ∷ 0x12 ∷ 0x37 ∷ 0x79 ∷ 0x62 ∷ 0xc6 ∷ 0x0e ∷ 0xff ∷ 0x36 ∷ 0xf3 ∷ 0x92 ∷ 0xa4 ∷ 0xda ∷ 0xc0 ∷ 0x0e ∷ 0x51
    ∷ 0xab ∷ 0xc2 ∷ 0x84 ∷ 0x8f ∷ 0x9a ∷ 0xc8 ∷ 0xd7 ∷ 0xa5 ∷ 0x45 ∷ 0x1d ∷ 0x65 ∷ 0x8e ∷ 0x78 ∷ 0x03 ∷ 0x33 ∷ 0x15
    ∷ []

abbrev pub binding-a : List ℕ
binding-a =
    0x91 ∷ 0x91 ∷ 0x45 ∷ 0x40 ∷ 0xf0 ∷ 0x87 ∷ 0x12 ∷ 0xcc ∷ 0x9b ∷ 0x8d ∷ 0xa3 ∷ 0xce ∷ 0x51 ∷ 0x28 ∷ 0x89 ∷ 0x30
    ∷ 0x09 ∷ 0x86 ∷ 0x7b ∷ 0xf8 ∷ 0x66 ∷ 0xc9 ∷ 0xc4 ∷ 0x2d ∷ 0xf2 ∷ 0x96 ∷ 0xc8 ∷ 0xb7 ∷ 0x3d ∷ 0x7c ∷ 0xaa ∷ 0x5b
    ∷ []

-- the authenticators, under a key of 32 bytes 07
abbrev pub key : List ℕ
key = replicate 32 7

abbrev pub authenticator_0 : List ℕ
authenticator_0 =
    0x54 ∷ 0x02 ∷ 0x39 ∷ 0xb8 ∷ 0x57 ∷ 0xd8 ∷ 0x4b ∷ 0xb7 ∷ 0x5f ∷ 0x53 ∷ 0x54 ∷ 0x2a ∷ 0x88 ∷ 0x2b ∷ 0xd9 ∷ 0x3e
    ∷ 0x7b ∷ 0x72 ∷ 0x85 ∷ 0x8a ∷ 0x5c ∷ 0x57 ∷ 0xc4 ∷ 0xb7 ∷ 0xde ∷ 0x6c ∷ 0x3c ∷ 0x6d ∷ 0xc7 ∷ 0x29 ∷ 0x5a ∷ 0x59
    ∷ []

abbrev pub authenticator_a : List ℕ
authenticator_a =
    0x68 ∷ 0x8a ∷ 0x36 ∷ 0x72 ∷ 0x00 ∷ 0x19 ∷ 0x2e ∷ 0x57 ∷ 0x4e ∷ 0xa1 ∷ 0xa3 ∷ 0x31 ∷ 0x8d ∷ 0xe3 ∷ 0xb8 ∷ 0xd2
    ∷ 0xe5 ∷ 0xb2 ∷ 0xa3 ∷ 0x2a ∷ 0x72 ∷ 0x0c ∷ 0x60 ∷ 0x96 ∷ 0x7a ∷ 0x32 ∷ 0x36 ∷ 0x44 ∷ 0x33 ∷ 0x63 ∷ 0xc3 ∷ 0x10
    ∷ []

-- the records, the fresh page and a buffer
abbrev pub record_0 : List ℕ
record_0 = 0x01 ∷ 0xC1 ∷ 0x01 ∷ state_0 ++ zero_summary ++ authenticator_0

abbrev pub record_a : List ℕ
record_a = 0x01 ∷ 0xC1 ∷ 0x01 ∷ state_a ++ summary_a ++ authenticator_a

abbrev pub fresh : List ℕ
fresh = zero_summary ++ key

abbrev pub room : List ℕ
room = replicate 451 0

-- ---- what is computed by

-- to unfold this is to unfold all but the hash
unfoldable pub computing : Unit {0}
unfolding zero_summary open_tests opened performed viewed perform_verdict view_verdict same part over be_from be bytes_of tested right_size right_version right_state good_state good_rack state_of rack_of bytes_of_rack bytes_of_state bytes_of_request first_state percent total_stored right_form right_other right_amount well_formed request_by request_of read_request over_capacity over_stored over_limit ruling carry_out book served_bytes stored_after record_of
computing = tt

-- and this the hash and the MAC
unfoldable pub hashing : Unit {0}
unfolding computing word_at ◌⊞◌ SHL SHR ROTR Ch Maj Σ₀ Σ₁ σ₀ σ₁ K H₀ k padding pad words block blocks next_word schedule W T₁ T₂ round round_at rounds add_to next_hash hashes digest sha256 ◌⊕◌ K₀ hmac authenticator_of
hashing = tt

-- the messages, in document 01's words
abbrev pub stating : List ℕ → List ℕ
stating state = 0x01 ∷ state

abbrev pub moving : List ℕ → List ℕ → List ℕ
moving summary request = 0x02 ∷ summary ++ request

abbrev pub joining : List ℕ → List ℕ → List ℕ
joining summary hash = 0x03 ∷ summary ++ hash

-- ---- the five hashes

pub state_0_is : sha256 (stating state_0) ≡ hash_0
unfolding hashing
state_0_is = refl

pub state_a_is : sha256 (stating state_a) ≡ hash-a
unfolding hashing
state_a_is = refl

pub summary_is_lem : sha256 (moving zero_summary a) ≡ summary_a
unfolding hashing
summary_is_lem = refl

pub binding_0_is : sha256 (joining zero_summary hash_0) ≡ binding_0
unfolding hashing
binding_0_is = refl

pub binding-a_is : sha256 (joining summary_a hash-a) ≡ binding-a
unfolding hashing
binding-a_is = refl

-- ---- the three calls

pub open_passes : open_tests this_edition fresh room ≡ Ok tt
unfolding computing
open_passes = refl

pub perform_is : perform_verdict this_edition fresh record_0 a room ≡ good state_a
unfolding hashing
perform_is = refl

pub view_is : view_verdict this_edition (summary_a ++ key) record_a 3 ≡ good state_a
unfolding hashing
view_is = refl

-- ---- what the run did

-- a run of an open, a perform and a view, each accepted, over any design: its lists
abbrev pub steps : List ℕ → List ℕ → List ℕ → List ℕ → ℕ → Run
steps room l request m rack = whole (views m rack) ∷ whole (performs l request room) ∷ whole (opens room) ∷ []

pub record RunDid (D : Design) (fresh : List ℕ) (run : Run) (messages findings records bindings requests : List (List ℕ)) : Type 0 where
  pub hashes : in_run (λ d. d.hashed) D fresh run ≡ messages
  pub finds : in_run (λ d. d.found) D fresh run ≡ findings
  pub takes : in_run (λ d. d.taken) D fresh run ≡ records
  pub answers : answered_before D fresh run ≡ bindings
  pub moves : moved_before D fresh run ≡ requests

module _ (D : Design) (fresh room l request m after state shown : List ℕ) (rack : ℕ) (one : open_tests D fresh room ≡ Ok tt)
    (two : perform_verdict D fresh l request room ≡ good state) (page : D.with_summary fresh (next_summary D (D.summary l) request) ≡ after)
    (three : view_verdict D after m rack ≡ good shown) where
  pub page_1 : (open_did D (opened D fresh room).page (open_tests D fresh room)).page ≡ fresh
  unfolding opened
  page_1 = rw one refl

  pub page_2 : (perform_did D (performed D fresh l request room).page l request (perform_verdict D fresh l request room)).page ≡ after
  unfolding performed
  page_2 = rw two page

  did : RunDid D fresh (steps room l request m rack)
      (record_messages D m ++ (record_messages D l ++ answer_messages D (Origin.from l) (request ∷ []) state) ++ bound_messages D zero_summary D.first_bytes)
      (m ∷ l ∷ []) (m ∷ l ∷ [])
      (binding_of D (next_summary D (D.summary l) request) state ∷ binding_of D zero_summary D.first_bytes ∷ []) (request ∷ [])
  did =
      record {
        hashes = rw (page_1, page_2, three, two, one) refl;
        finds = rw (page_1, page_2, three, two, one) refl;
        takes = rw (page_1, page_2, three, two, one) refl;
        answers = rw (page_1, page_2, three, two, one) refl;
        moves = rw (page_1, page_2, moved_by, three, two, one) refl;
      }

  accepted : ((opened D fresh room).number ≡ 0) × ((performed D fresh l request room).number ≡ 0)
      × (viewed D after m rack ≡ record { number = 0; figures = D.figures shown rack })
  unfolding opened performed viewed
  accepted = (
    ap (λ (t : Tested). (opened_by D fresh room t).number) one,
    ap (λ (v : Verdict). (answered_by D fresh l request room (D.with_summary fresh (next_summary D (D.summary l) request)) v).number) two,
    ap (viewed_by D rack) three,
  )

-- the page after the perform
pub page_is : over 0 (sha256 (moving zero_summary a)) fresh ≡ summary_a ++ key
unfolding computing
page_is = ap (λ (next : List ℕ). over 0 next fresh) summary_is_lem

abbrev pub run : Run
run = steps room record_0 a record_a 3

-- of the view, of the perform and of the open
abbrev pub messages : List (List ℕ)
messages =
    stating state_a ∷ joining summary_a hash-a
    ∷ stating state_0 ∷ joining zero_summary hash_0 ∷ moving zero_summary a ∷ stating state_a ∷ joining summary_a hash-a
    ∷ stating state_0 ∷ joining zero_summary hash_0
    ∷ []

-- messages, findings, records taken, bindings answered and requests that moved the page
pub the_run_did : RunDid this_edition fresh run messages (record_a ∷ record_0 ∷ []) (record_a ∷ record_0 ∷ []) (binding-a ∷ binding_0 ∷ []) (a ∷ [])
unfolding computing
the_run_did =
    let d : RunDid this_edition fresh run
    (stating state_a ∷ joining summary_a (sha256 (stating state_a))
    ∷ stating state_0 ∷ joining zero_summary (sha256 (stating state_0)) ∷ moving zero_summary a ∷ stating state_a ∷ joining (sha256 (moving zero_summary a)) (sha256 (stating state_a))
    ∷ stating state_0 ∷ joining zero_summary (sha256 (stating state_0))
    ∷ [])
    (record_a ∷ record_0 ∷ []) (record_a ∷ record_0 ∷ [])
    (sha256 (joining (sha256 (moving zero_summary a)) (sha256 (stating state_a))) ∷ sha256 (joining zero_summary (sha256 (stating state_0))) ∷ []) (a ∷ []) =
    did this_edition fresh room record_0 a record_a (summary_a ++ key) state_a state_a 3 open_passes perform_is page_is view_is in
    record {
      hashes = d.hashes ∙ rw (state_a_is, state_0_is, summary_is_lem) refl;
      finds = d.finds;
      takes = d.takes;
      answers = d.answers ∙ rw (state_a_is, state_0_is, summary_is_lem, binding-a_is, binding_0_is) refl;
      moves = d.moves;
    }

-- what they answered: 0, and the figures of rack 3
pub numbers_are : ((opened this_edition fresh room).number ≡ 0) × ((performed this_edition fresh record_0 a room).number ≡ 0)
    × (viewed this_edition (summary_a ++ key) record_a 3 ≡ record { number = 0; figures = record { stored = 0; capacity = 100; percent = 0; total = 0 } })
unfolding computing
numbers_are = accepted this_edition fresh room record_0 a record_a (summary_a ++ key) state_a state_a 3 open_passes perform_is page_is view_is
