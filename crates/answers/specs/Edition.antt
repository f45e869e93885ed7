-- The design that ships: SHA-256, HMAC-SHA-256, pages of 64 bytes, records of a form, requests of version 1 and the charge rules.
-- Nothing stands before the binding in the MAC. Assumes nothing.
use Rattle.std.specs.Prelude.{ℕ, List, [], length, eqb}
use Rattle.numbers.specs.Parts.{over}
use Rattle.racks.specs.Racks.{State, rack_at, first_state}
use Rattle.racks.specs.Layout.{state_of, bytes_of_state}
use Rattle.racks.specs.Figures.{percent, total_stored}
use Rattle.requests.specs.Formed.{well_formed}
use Rattle.requests.specs.Requests.{request_of, rack_of_request}
use Rattle.rules.specs.Replay.{Booked, book}
use Rattle.records.specs.Form.{Form, version1}
use Rattle.records.specs.Page.{page_size, page_summary, page_key}
use Rattle.records.specs.Record.{record_size, state_bytes, summary, authenticator, record_of}
use Rattle.records.specs.Tests.{tested}
use Rattle.sha256.specs.Computation.{sha256}
use Rattle.bindings.specs.Hashed.{state_message, authenticator_of}
use Rattle.answers.specs.Design.{Design, Served, Figures}

-- the charge rules on a state's bytes
abbrev pub in_bytes : Booked → Served
in_bytes (Booked.booked s) = Served.carried (bytes_of_state s)
in_bytes (Booked.refused r) = Served.barred r

unfoldable pub served_bytes : ℕ → List ℕ → List ℕ → Served
served_bytes n state request = in_bytes (book n (state_of n state) request)

-- what is stored, in a state, in the rack that a request names; for a move in the one that gives
unfoldable pub stored_after : ℕ → List ℕ → List ℕ → ℕ
stored_after n state request = (rack_at (state_of n state) (rack_of_request (request_of request))).stored

-- view's figures: those of a rack, and the total over all racks
abbrev pub figures_of : State → ℕ → Figures
figures_of s i =
    record { stored = (rack_at s i).stored; capacity = (rack_at s i).capacity; percent = percent (rack_at s i); total = total_stored s }

abbrev pub design : Form → Design
design f =
    record {
      hash = sha256;
      state_message = state_message f;
      right_page = λ page. eqb (length page) page_size;
      page_summary = page_summary;
      with_summary = λ page s. over 0 s page;
      mac = λ page bound. authenticator_of (page_key page) [] bound;
      record_size = record_size f;
      tested = tested f;
      state_bytes = state_bytes f;
      summary = summary f;
      authenticator = authenticator f;
      record_of = record_of f;
      formed = well_formed f.racks;
      first_bytes = bytes_of_state (first_state f.racks);
      served = served_bytes f.racks;
      stored_after = stored_after f.racks;
      racks = f.racks;
      figures = λ state rack. figures_of (state_of f.racks state) rack;
    }

abbrev pub this_edition : Design
this_edition = design version1
