use Rattle.sifting.proofs.Sifted.{kept-all, lost_one}
use Rattle.sifting.proofs.drop_unless.Goals as goal

pub returns-then-led : goal.returns-then-led
returns-then-led c = kept-all _ _ c.if-led.true

pub returns-else-led : goal.returns-else-led
returns-else-led c = lost_one _ _ c.if-led.false c.requires c.without.ensures
