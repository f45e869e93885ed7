-- `next_hash` adds the working variables to the hash value. The invariant: the first i words are sums, and the others the
-- working variables. Assumes nothing.
use Rattle.std.proofs.Common.{◌≡◌, ℕ, ◌<◌, ◌≤◌, length, get_or}
use Rattle.sha256_words.specs.Words.{◌⊞◌}
use Rattle.sha256_block.proofs.next_hash.Given as goal

abbrev pub invariant-loop-i : goal.invariant-loop-i
invariant-loop-i l =
    (length l.next ≡ 8) × ((k : ℕ) → k < l.i → get_or l.next k 0 ≡ get_or l.initial.next k 0 ⊞ get_or l.h k 0)
    × ((k : ℕ) → l.i ≤ k → get_or l.next k 0 ≡ get_or l.initial.next k 0)
