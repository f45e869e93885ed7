-- `after_pad` hashes the key's block under a pad. The invariant: the key's first i bytes are XORed, and the rest is the pad. Assumes nothing.
use Rattle.std.proofs.Common.{refl, ap₂, ◌∙◌, List, ℕ, arith}
use lib.ListN.{get_or-replicate}
use Rattle.hmac.proofs.Pads.{key_block}
use Rattle.sha256_block.specs.Step.{next_hash}
use Rattle.sha256.specs.Parsing.{block}
use Rattle.hmac.specs.Preparation.{after_block}
use Rattle.hmac.proofs.after_pad.Goals as goal

pub loop-i-init : goal.loop-i-init
loop-i-init c = (refl, λ k h. absurd (omega arith), λ k h i. get_or-replicate 64 k c.args.pad 0 i)

pub returns : goal.returns
unfolding after_block
returns c =
    let at = c.loop-i in
    let made = key_block c.args.key.now at.block 64 c.args.pad c.requires at.invariant.0 (λ k h. at.invariant.1 k (omega arith)) (λ k h. at.invariant.2 k (omega arith)) in
    c.absorb.ensures ∙ ap₂ (λ (h l : List ℕ). next_hash h (block l 0)) c.initial.ensures made
