use Rattle.bits.proofs.Largest.{greatest_between}
use Rattle.bits.proofs.greatest.Goals as goal

pub returns : goal.returns
returns c = let e = c.ilog2.ensures in greatest_between c.args.w _ e.bound e.power_le e.next_power_gt
