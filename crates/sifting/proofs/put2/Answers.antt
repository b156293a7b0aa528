use Rattle.base.proofs.Fill.{two}
use Rattle.sifting.proofs.put2.Goals as goal

pub returns : goal.returns
returns c = two _ _ _ _ c.requires
