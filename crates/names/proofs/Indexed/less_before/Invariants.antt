use Prim.Native.Nat.{◌-◌}
use Rattle.names.proofs.Halving.{Halving}
use Rattle.names.proofs.Indexed.less_before.Given as goal

-- what is left stands from low to before high
abbrev pub invariant-loop-low : goal.invariant-loop-low
invariant-loop-low l = Halving l.self.s.now l.self.at.now l.key l.low l.high

abbrev pub decreases-loop-low : goal.decreases-loop-low
decreases-loop-low l = l.high - l.low
