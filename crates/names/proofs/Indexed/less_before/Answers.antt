use native.Mathlib.Omega.{arith}
use Rattle.names.proofs.Halving.{half_above, half_below}
use Rattle.names.proofs.Indexed.less_before.Goals as goal

pub loop-low-preserved-then-key_of-key : goal.loop-low-preserved-then-key_of-key
loop-low-preserved-then-key_of-key c =
    half_above c.args.self.now.lawful c.loop-low.invariant (omega arith) (omega arith) (rw c.key_of.ensures at c.if-key_of-key.true)

pub loop-low-preserved : goal.loop-low-preserved
loop-low-preserved c =
    half_below c.args.self.now.lawful c.loop-low.invariant (omega arith) (omega arith) (rw c.key_of.ensures at c.if-key_of-key.false)
