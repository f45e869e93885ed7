-- `within` compares a sum by differences, since the sum itself might not fit. Assumes nothing.
use Prim.Native.Nat.{◌+◌}
use native.Mathlib.Omega.{arith}
use mathlib.Core.Path.{sym}
use borrow.Author.Tests.{lt-leb}
use Rattle.hash_c.proofs.Outcomes.{by_differences}
use Rattle.hash_c.proofs.within.Goals as goal

pub returns-then-most-a : goal.returns-then-most-a
returns-then-most-a c = let s = c.args in sym (lt-leb (s.a + s.b + s.c) s.most (omega arith))

pub returns-then-most-a-2 : goal.returns-then-most-a-2
returns-then-most-a-2 c = let s = c.args in sym (lt-leb (s.a + s.b + s.c) s.most (omega arith))

pub returns : goal.returns
returns c = let s = c.args in by_differences s.a s.b s.c s.most c.if-most-a.false c.if-most-a-2.false
