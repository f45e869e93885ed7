-- What the accepted calls are lent is what buffers of u8 hold. The idea: a digest is bytes, and so is what is joined of bytes.
-- Assumes nothing.
use mathlib.Core.Path.{◌≡◌}
use Prim.Native.Nat.{ℕ, ◌<◌}
use native.Mathlib.Omega.{arith}
use mathlib.Core.List.{List, []}
use lib.ListN.{length, replicate, length-replicate}
use lib.Dec.{lit<}
use Rattle.numbers.specs.Numbers.{Bytes}
use Rattle.numbers.proofs.Bytes.{bytes-replicate}
use Rattle.racks.specs.Racks.{State}
use Rattle.racks.specs.Layout.{bytes_of_state}
use Rattle.racks.proofs.StateBytes.{bytes-bytes_of_state}
use Rattle.requests.proofs.Written.{length-written, bytes-written}
use Rattle.sha256.proofs.DigestLaws.{bytes-sha256}
use Rattle.hmac.specs.Hmac.{hmac}
use Rattle.bindings.specs.Hashed.{authenticator_of}
use Rattle.records.specs.Form.{version1}
use Rattle.records.specs.Page.{hash_size, page_of}
use Rattle.records.specs.Record.{state_size, record_size}
use Rattle.records.proofs.PageBytes.{length_page, bytes_page}
use Rattle.records.proofs.RecordBytes.{bytes_record}
use Rattle.answers.specs.Hashing.{bound_record}
use Rattle.answers.specs.Edition.{this_edition}
use Rattle.answers.specs.Strength.{Buffer}
use Rattle.answers.proofs.Records.{length-bound}
use Rattle.answers.proofs.Witnesses.{asked}

-- an answer buffer of one byte, with just the room that is needed
pub answer_buffer : (x : ℕ) → x < 256 → Buffer (replicate (record_size version1) x)
answer_buffer x byte = record { bytes = bytes-replicate (record_size version1) x byte; size = omega (arith, length-replicate (record_size version1) x) }

-- the request
pub asked_buffer : Buffer asked
asked_buffer = record { bytes = bytes-written 1 0 0 5; size = rw (length-written 1 0 0 5) (lit< tt) }

bytes-mac : (key bound : List ℕ) → Bytes (authenticator_of key [] bound)
unfolding authenticator_of hmac
bytes-mac key bound = bytes-sha256 _

module _ (s : List ℕ) (wide : length s ≡ hash_size) (bytes : Bytes s) where
  -- a page
  pub page_buffer : (key : List ℕ) → length key ≡ hash_size → Bytes key → Buffer (page_of s key)
  page_buffer key k b = record { bytes = bytes_page s key bytes b; size = omega (arith, length_page s key wide k) }

  -- a state bound to a summary
  pub bound-buffer : (page : List ℕ) (state : State) → length (bytes_of_state state) ≡ state_size version1
      → Buffer (bound_record this_edition page s (bytes_of_state state))
  bound-buffer page state size =
      record {
        bytes = bytes_record version1 (bytes_of_state state) s _ (bytes-bytes_of_state state) bytes (bytes-mac _ _);
        size = rw (length-bound version1 page s (bytes_of_state state) wide size) (lit< tt);
      }
