use native.Mathlib.Omega.{arith}
use Rattle.order.proofs.Sets.{covers_is}
use Rattle.order.proofs.covers.Goals as goal

pub returns : goal.returns
returns c = covers_is c.args.u c.args.v (omega arith) (omega arith)
