use Rattle.bits.proofs.Alone.{alone_in, alone_out}
use Rattle.bits.proofs.own_bit.Goals as goal

pub returns-then-a-half : goal.returns-then-a-half
returns-then-a-half c = alone_in _ _ c.if-a-half.true

pub returns-else-a-half : goal.returns-else-a-half
returns-else-a-half c = alone_out _ _ c.if-a-half.false
