-- A keeper that can be computed, for the run that is written out in `Witness`: one rack, and stand-ins for the hash and the MAC; the hash
-- does collide, though not among the messages of that run. And what the run is made of: requests, summaries, states and records. A history
-- is named by its requests: `ab` is what comes of request a and then request b. Assumes nothing.
use Rattle.std.specs.Prelude.{◌≡◌, refl, false, ℕ, ◌+◌, ◌*◌, List, [], ◌∷◌, ◌++◌, replicate, drop}
use Rattle.numbers.specs.Numbers.{be_from, be, bytes_of}
use Rattle.numbers.specs.Parts.{part, over}
use Rattle.numbers.specs.Comparing.{same}
use Rattle.racks.specs.Racks.{first_state}
use Rattle.racks.specs.Layout.{rack_of, bytes_of_rack, state_of, bytes_of_state}
use Rattle.racks.specs.Rule.{good_rack, good_state}
use Rattle.racks.specs.Figures.{percent, total_stored}
use Rattle.requests.specs.Layout.{bytes_of_request}
use Rattle.requests.specs.Formed.{right_form, right_other, right_amount, well_formed}
use Rattle.requests.specs.Requests.{request_by, request_of, read_request}
use Rattle.rules.specs.Rules.{over_capacity, over_stored, over_limit, ruling, carry_out}
use Rattle.rules.specs.Replay.{book}
use Rattle.records.specs.Form.{Form}
use Rattle.records.specs.Page.{zero_summary, page_key}
use Rattle.records.specs.Record.{record_of, right_size, right_version, right_state}
use Rattle.records.specs.Tests.{tested}
use Rattle.answers.specs.Design.{Design}
use Rattle.answers.specs.Judging.{perform_verdict, repeat_verdict, view_verdict, resume_verdict}
use Rattle.answers.specs.Answers.{open_tests, opened, performed, repeated, viewed, resumed}
use Rattle.answers.specs.Edition.{served_bytes, stored_after, design}

-- ---- a stand-in for the hash

abbrev mixed : ℕ → List ℕ → ℕ
mixed n [] = n
mixed n (x ∷ m) = mixed (n * 31 + x) m

-- 32 bytes, of which four depend on the message
unfoldable pub toy_hash : List ℕ → List ℕ
toy_hash m = bytes_of 4 (mixed 0 m) ++ replicate 28 1

-- it collides: from the fresh page's summary a charge of 31 and a charge of 256 lead to one next summary
abbrev charge_of : ℕ → List ℕ
charge_of amount = 0x02 ∷ zero_summary ++ bytes_of_request 2 0 0 amount

pub toy_collides : (toy_hash (charge_of 31) ≡ toy_hash (charge_of 256)) × (same (charge_of 31) (charge_of 256) ≡ false)
unfolding toy_hash bytes_of bytes_of_request zero_summary same
toy_collides = (refl, refl)

-- a form of one rack
abbrev pub one_rack : Form
one_rack = record { racks = 1; version = 1; tag = 0x01 }

-- this edition's design at that form, with the stand-in for the hash and for the MAC
abbrev pub toy : Design
toy =
    let D = design one_rack in
    record {
      hash = toy_hash;
      state_message = D.state_message;
      right_page = D.right_page;
      page_summary = D.page_summary;
      with_summary = D.with_summary;
      mac = λ page bound. toy_hash (page_key page ++ bound);
      record_size = D.record_size;
      tested = D.tested;
      state_bytes = D.state_bytes;
      summary = D.summary;
      authenticator = D.authenticator;
      record_of = D.record_of;
      formed = D.formed;
      first_bytes = D.first_bytes;
      served = D.served;
      stored_after = D.stored_after;
      racks = D.racks;
      figures = D.figures;
    }

-- ---- what is hashed

-- the message of a state; of a summary moved on by a request; and of the binding of a state to a summary
abbrev pub stating : List ℕ → List ℕ
stating state = 0x01 ∷ state

abbrev pub moving : List ℕ → List ℕ → List ℕ
moving summary request = 0x02 ∷ summary ++ request

abbrev pub binding : List ℕ → List ℕ → List ℕ
binding summary state = 0x03 ∷ summary ++ toy_hash (stating state)

-- a binding
abbrev pub bound : List ℕ → List ℕ → List ℕ
bound summary state = toy_hash (binding summary state)

-- ---- what the run is made of

-- the requests: capacity 100; charge 60; charge 30; discharge 20; charge 500, which is more than the rack holds
abbrev pub a : List ℕ
a = bytes_of_request 1 0 0 100

abbrev pub b : List ℕ
b = bytes_of_request 2 0 0 60

abbrev pub c : List ℕ
c = bytes_of_request 2 0 0 30

abbrev pub d : List ℕ
d = bytes_of_request 3 0 0 20

abbrev pub e : List ℕ
e = bytes_of_request 2 0 0 500

-- the summaries: of the fresh page, and after requests
abbrev pub summary_0 : List ℕ
summary_0 = zero_summary

abbrev pub summary_a : List ℕ
summary_a = toy_hash (moving summary_0 a)

abbrev pub summary_ab : List ℕ
summary_ab = toy_hash (moving summary_a b)

abbrev pub summary_ac : List ℕ
summary_ac = toy_hash (moving summary_a c)

abbrev pub summary_acd : List ℕ
summary_acd = toy_hash (moving summary_ac d)

abbrev pub summary_acdb : List ℕ
summary_acdb = toy_hash (moving summary_acd b)

-- the states: of one rack, by its capacity, stored, taken in and given out
abbrev pub rack_by : ℕ → ℕ → ℕ → ℕ → List ℕ
rack_by capacity stored taken given = bytes_of 4 capacity ++ bytes_of 4 stored ++ bytes_of 8 taken ++ bytes_of 8 given

abbrev pub state_0 : List ℕ
state_0 = rack_by 0 0 0 0

abbrev pub state_a : List ℕ
state_a = rack_by 100 0 0 0

abbrev pub state_ab : List ℕ
state_ab = rack_by 100 60 60 0

abbrev pub state_ac : List ℕ
state_ac = rack_by 100 30 30 0

abbrev pub state_acd : List ℕ
state_acd = rack_by 100 10 30 20

abbrev pub state_acdb : List ℕ
state_acdb = rack_by 100 70 90 20

-- the page's key, the fresh page, the page after requests, and a buffer for an answer: of 91 bytes, which is what a record of one rack takes
abbrev pub key : List ℕ
key = replicate 32 7

abbrev pub fresh : List ℕ
fresh = summary_0 ++ key

abbrev pub page_a : List ℕ
page_a = summary_a ++ key

abbrev pub page_ac : List ℕ
page_ac = summary_ac ++ key

abbrev pub page_acd : List ℕ
page_acd = summary_acd ++ key

abbrev pub page_acdb : List ℕ
page_acdb = summary_acdb ++ key

abbrev pub room : List ℕ
room = replicate 91 0

-- the records: length, version, state, summary, and the authenticator under the key
abbrev record_by : List ℕ → List ℕ → List ℕ → List ℕ
record_by summary state authenticator = 0 ∷ 89 ∷ 1 ∷ state ++ summary ++ authenticator

abbrev pub answer_of : List ℕ → List ℕ → List ℕ
answer_of summary state = record_by summary state (toy_hash (key ++ bound summary state))

abbrev pub record_0 : List ℕ
record_0 = answer_of summary_0 state_0

abbrev pub record_a : List ℕ
record_a = answer_of summary_a state_a

abbrev pub record_ab : List ℕ
record_ab = answer_of summary_ab state_ab

abbrev pub record_ac : List ℕ
record_ac = answer_of summary_ac state_ac

abbrev pub record_acd : List ℕ
record_acd = answer_of summary_acd state_acd

abbrev pub record_acdb : List ℕ
record_acdb = answer_of summary_acdb state_acdb

-- the site computer's own: a state that was not reached, under the page's summary, with an invented authenticator; and one byte too few
abbrev pub record_forged : List ℕ
record_forged = record_by summary_acd state_ab (replicate 32 9)

abbrev pub record_short : List ℕ
record_short = drop 1 record_acd

-- the two messages of each
abbrev messages_of : List ℕ → List ℕ → List (List ℕ)
messages_of summary state = stating state ∷ binding summary state ∷ []

abbrev pub of_0 : List (List ℕ)
of_0 = messages_of summary_0 state_0

abbrev pub of_a : List (List ℕ)
of_a = messages_of summary_a state_a

abbrev pub of_ab : List (List ℕ)
of_ab = messages_of summary_ab state_ab

abbrev pub of_ac : List (List ℕ)
of_ac = messages_of summary_ac state_ac

abbrev pub of_acd : List (List ℕ)
of_acd = messages_of summary_acd state_acd

abbrev pub of_acdb : List (List ℕ)
of_acdb = messages_of summary_acdb state_acdb

abbrev pub of_forged : List (List ℕ)
of_forged = messages_of summary_acd state_ab

-- ---- computing

-- to unfold this is to unfold all definitions that the calls are computed by
unfoldable pub computing : Unit {0}
unfolding toy_hash zero_summary open_tests opened performed repeated viewed resumed perform_verdict repeat_verdict view_verdict resume_verdict same part over be_from be bytes_of tested right_size right_version right_state good_state good_rack state_of rack_of bytes_of_rack bytes_of_state bytes_of_request first_state percent total_stored right_form right_other right_amount well_formed request_by request_of read_request over_capacity over_stored over_limit ruling carry_out book served_bytes stored_after record_of
computing = tt
