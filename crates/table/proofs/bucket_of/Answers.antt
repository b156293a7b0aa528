use Rattle.table.specs.Table.{bucket_of}
use Rattle.base.specs.Base.{pick}
use borrow.Author.Tests.{lt-ltb, le-ltb}
use native.Mathlib.Omega.{arith}
use Rattle.table.proofs.bucket_of.Goals as goal

pub returns-then-x-lt8589934592 : goal.returns-then-x-lt8589934592
unfolding bucket_of pick
returns-then-x-lt8589934592 c = record { is = rw (lt-ltb _ _ c.if-x-lt8589934592.true) (omega arith); below = omega arith }

pub returns : goal.returns
unfolding bucket_of pick
returns c = record { is = rw (le-ltb _ _ c.if-x-lt8589934592.false) (omega arith); below = omega arith }
