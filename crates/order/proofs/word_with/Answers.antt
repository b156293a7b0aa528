use Rattle.order.proofs.Sets.{given_own}
use Rattle.order.proofs.word_with.Goals as goal

pub returns : goal.returns
returns c = given_own c.args.u c.own_bit.ensures
