-- `after_pad` hashes the key's block under a pad. The invariant: the key's first i bytes are XORed, and the rest is the pad. Assumes nothing.
use Rattle.std.proofs.Common.{◌≡◌, ℕ, ◌<◌, ◌≤◌, length, get_or, bit_xor}
use Rattle.hmac.proofs.after_pad.Given as goal

abbrev pub invariant-loop-i : goal.invariant-loop-i
invariant-loop-i l =
    (length l.block ≡ 64) × ((k : ℕ) → k < l.i → get_or l.block k 0 ≡ bit_xor (get_or l.key k 0) l.pad)
    × ((k : ℕ) → l.i ≤ k → k < 64 → get_or l.block k 0 ≡ l.pad)
