-- What a key comes to: the hash values after the block K₀ ⊕ ipad and after the block K₀ ⊕ opad, from which the MAC of any
-- message is worked out. `mac_prepared` in proofs/ says that this gives FIPS 198-1's MAC. Assumes nothing.
use Rattle.std.specs.Prelude.{ℕ, List}
use Rattle.sha256_block.specs.Step.{next_hash}
use Rattle.sha256.specs.Parsing.{block}
use Rattle.sha256.specs.Computation.{H₀}
use Rattle.sha256.specs.Continued.{sha256_after}
use Rattle.hmac.specs.declared.Prepared.{Prepared}
use Rattle.hmac.specs.Hmac.{K₀, ipad, opad, ◌⊕◌}

-- the hash value after one block
unfoldable pub after_block : List ℕ → List ℕ
after_block l = next_hash H₀ (block l 0)

-- a prepared key from its two halves
abbrev pub halves : List ℕ → List ℕ → Prepared
halves inner outer = record { inner = inner; outer = outer }

unfoldable pub prepared_of : List ℕ → Prepared
prepared_of K = halves (after_block (K₀ K ⊕ ipad)) (after_block (K₀ K ⊕ opad))

-- the MAC of a message: both hashes go on behind one block
unfoldable pub mac_of : Prepared → List ℕ → List ℕ
mac_of k text = sha256_after k.outer 1 (sha256_after k.inner 1 text)
