-- `word_at` is a word of the padded message: in one piece, in the padding, or across a seam, where the padding's length field is
-- out of reach. Assumes nothing.
use Rattle.std.proofs.Common.{◌≤◌, ◌+◌, ◌-◌, length, sym, ◌∙◌, arith}
use Rattle.sha256.specs.Padding.{padding}
use Rattle.sha256.proofs.MessageLaws.{sizes, word_1, word_2, word_3, word_4}
use Rattle.sha256.proofs.message.Message.word_at.Goals as goal
use Rattle.sha256.proofs.message.Message.word_at.Goals.{then-a-k+else-i-b+then-b-i+else-j-c+else-c-j, then-a-k+else-i-b+else-b-i, else-a-k}

pub overflow_add-k : goal.overflow_add-k
overflow_add-k c =
    let s = c.self.inside in
    let z = sizes s.a.now s.b.now s.c.now s.len c.self.invariant c.self.view_is in
    omega arith

pub returns-then-k-a : goal.returns-then-k-a
returns-then-k-a c =
    let s = c.self.inside in
    rw (← c.self.view_is) (c.word.ensures ∙ sym (word_1 s.a.now s.b.now s.c.now (padding s.len) c.args.k c.if-k-a.true))

pub overflow_add-i : goal.overflow_add-i
overflow_add-i c =
    let s = c.self.inside in
    let z = sizes s.a.now s.b.now s.c.now s.len c.self.invariant c.self.view_is in
    omega arith

pub returns-then-i-b : goal.returns-then-i-b
returns-then-i-b c =
    let s = c.self.inside in
    rw (← c.self.view_is)
    (c.word-then-i-b.ensures ∙ sym (word_2 s.a.now s.b.now s.c.now (padding s.len) (c.args.k - length s.a.now) c.args.k (omega arith) c.if-i-b.true))

pub overflow_add-j : goal.overflow_add-j
overflow_add-j c =
    let s = c.self.inside in
    let z = sizes s.a.now s.b.now s.c.now s.len c.self.invariant c.self.view_is in
    omega arith

pub returns-then-j-c : goal.returns-then-j-c
returns-then-j-c c =
    let s = c.self.inside in
    rw (← c.self.view_is)
    (c.word-then-j-c.ensures ∙ sym (word_3 s.a.now s.b.now s.c.now (padding s.len) (c.args.k - length s.a.now - length s.b.now) c.args.k (omega arith) c.if-j-c.true))

pub returns-then-c-j : goal.returns-then-c-j
returns-then-c-j c =
    let s = c.self.inside in
    rw (← c.self.view_is)
    (c.padding_word.ensures ∙ sym (word_4 s.a.now s.b.now s.c.now (padding s.len) (c.args.k - length s.a.now - length s.b.now - length s.c.now) c.args.k (omega arith)))

pub mixed_word-requires : goal.mixed_word-requires
mixed_word-requires c =
    let s = c.self.inside in
    let z = sizes s.a.now s.b.now s.c.now s.len c.self.invariant c.self.view_is in
    let near : c.args.k ≤ length s.a.now + length s.b.now + length s.c.now =
    elim c.if-a-k.branch [ then-a-k+else-i-b+then-b-i+else-j-c+else-c-j w ↦ omega arith | then-a-k+else-i-b+else-b-i w ↦ omega arith | else-a-k w ↦ omega arith ] in
    record { k_bound = omega arith; k_in_bounds = omega arith }
