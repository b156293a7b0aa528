use Rattle.sifting.specs.Lists.{is_in}
use Rattle.sifting.proofs.JudgedListed.has.Goals as goal

pub returns : goal.returns
unfolding is_in
returns c = c.bit.ensures
