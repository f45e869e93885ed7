-- `padding_word` is the last word of the padding, which holds the length, or one of the zeros before it. Assumes nothing.
use mathlib.Core.Path.{sym}
use native.Mathlib.Omega.{arith}
use Rattle.sha256.proofs.MessageLaws.{length-padding, k_small, padding-last, padding-other}
use Rattle.sha256.proofs.message.padding_word.Goals as goal

pub overflow_add-len : goal.overflow_add-len
overflow_add-len c = omega (arith, length-padding c.args.len, k_small c.args.len)

pub overflow_add-len-2 : goal.overflow_add-len-2
overflow_add-len-2 c = omega (arith, length-padding c.args.len, k_small c.args.len)

pub returns-then-len-i : goal.returns-then-len-i
returns-then-len-i c = sym (padding-last c.args.len c.args.i c.requires.len_bound c.requires.le_i.0 c.requires.le_i.1 c.requires.i_value c.if-len-i.true)

pub returns-else-len-i : goal.returns-else-len-i
returns-else-len-i c = sym (padding-other c.args.len c.args.i c.requires.len_bound c.requires.le_i.0 c.requires.le_i.1 c.requires.i_value c.if-len-i.false)
