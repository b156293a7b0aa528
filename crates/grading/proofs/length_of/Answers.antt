use native.Mathlib.Omega.{arith}
use Rattle.grading.proofs.Spots.{none-long, spot_long}
use Rattle.grading.proofs.length_of.Goals as goal

pub returns-then-m-eq0 : goal.returns-then-m-eq0
returns-then-m-eq0 c = none-long _ _ c.if-m-eq0.true

pub returns : goal.returns
returns c = spot_long _ _ (omega arith) c.spot_of.ensures
