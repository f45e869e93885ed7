-- A summary and an authenticator take 32 bytes, and a prepared key gives the authenticator. Assumes nothing.
use mathlib.Core.Path.{◌≡◌}
use Prim.Native.Nat.{ℕ}
use mathlib.Core.List.{List, ◌++◌}
use lib.ListN.{length}
use Rattle.sha256.specs.Continued.{sha256_after}
use Rattle.sha256.proofs.DigestLaws.{length-digest, length-sha256}
use Rattle.hmac.specs.Hmac.{hmac}
use Rattle.hmac.specs.declared.Prepared.{Prepared}
use Rattle.hmac.specs.Preparation.{prepared_of, mac_of}
use Rattle.hmac.proofs.Macs.{mac_prepared}
use Rattle.bindings.specs.Hashed.{summary_message, next_summary, authenticator_of}

pub length-next_summary : (summary request : List ℕ) → length (next_summary summary request) ≡ 32
unfolding next_summary
length-next_summary summary request = length-sha256 (summary_message summary request)

pub length-mac : (key : Prepared) (text : List ℕ) → length (mac_of key text) ≡ 32
unfolding mac_of sha256_after
length-mac key text = length-digest _ 8

pub length_authenticator : (key prefix bound : List ℕ) → length (authenticator_of key prefix bound) ≡ 32
unfolding authenticator_of hmac
length_authenticator key prefix bound = length-sha256 _

pub authenticator_prepared : (key prefix bound : List ℕ) → mac_of (prepared_of key) (prefix ++ bound) ≡ authenticator_of key prefix bound
unfolding authenticator_of
authenticator_prepared key prefix bound = mac_prepared key (prefix ++ bound)
