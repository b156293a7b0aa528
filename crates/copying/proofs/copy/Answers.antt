use mathlib.Core.Path.{◌≡◌}
use native.Mathlib.Omega.{arith}
use Rattle.base.proofs.Fill.{appended-none, appended-length}
use Rattle.copying.proofs.Copying.{front_more}
use Rattle.copying.proofs.copy.Goals as goal

pub loop-i-init : goal.loop-i-init
loop-i-init c = appended-none _ 0 (omega arith)

pub bounds-from-i : goal.bounds-from-i
bounds-from-i c = omega (arith, c.requires.0)

pub bounds-to-i : goal.bounds-to-i
bounds-to-i c = omega (arith, c.requires.1, appended-length c.loop-i.invariant)

pub loop-i-preserved : goal.loop-i-preserved
loop-i-preserved c =
    let l = c.loop-i in
    front_more _ l.i (omega (arith, c.requires.0)) (omega (arith, c.requires.1, appended-length l.invariant)) l.invariant

pub returns : goal.returns
returns c = let e : c.loop-i.i ≡ c.args.n = omega arith in rw e at c.loop-i.invariant
