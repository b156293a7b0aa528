use Rattle.bits.proofs.Tables.{bit_set}
use Rattle.bits.proofs.set_bit.Goals as goal

pub returns : goal.returns
returns c = bit_set c.args.t.now c.args.a c.args.b c.requires.0 c.requires.1 c.requires.2
