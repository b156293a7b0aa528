use native.Mathlib.Omega.{arith}
use Rattle.mover.proofs.moved_count.Goals as goal

pub returns-then-second : goal.returns-then-second
returns-then-second c = rw c.if-second.true (omega (arith, c.ops.ensures, c.txs.ensures))

pub returns : goal.returns
returns c = rw c.if-second.false (omega (arith, c.ops.ensures, c.txs.ensures))
