use Rattle.bits.proofs.Words.{minus_not}
use Rattle.bits.proofs.without.Goals as goal

pub returns : goal.returns
returns c = minus_not c.args.m c.args.p c.ranges.m.fits c.ranges.p.fits
