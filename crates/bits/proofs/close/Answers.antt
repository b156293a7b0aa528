use mathlib.Core.Path.{◌≡◌}
use native.Mathlib.Omega.{arith}
use Rattle.bits.proofs.Passes.{passed_start, passed_step}
use Rattle.bits.proofs.close.Goals as goal

pub loop-k-init : goal.loop-k-init
loop-k-init c = passed_start c.requires

pub loop-k-preserved : goal.loop-k-preserved
loop-k-preserved c =
    let l = c.loop-k in
    passed_step l.k (omega arith) l.invariant c.pass.ensures

pub returns : goal.returns
returns c =
    let e : c.loop-k.k ≡ c.args.n = omega (arith, c.loop-k.invariant.upto) in
    rw e at c.loop-k.invariant.holds
