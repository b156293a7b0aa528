use Prim.Native.Nat.{◌+◌}
use mathlib.Core.Path.{◌≡◌}
use native.Mathlib.Omega.{arith}
use Rattle.putting.proofs.Putting.{spell_step, spell_end}
use Rattle.putting.proofs.put_number.Goals as goal

pub loop-to-preserved : goal.loop-to-preserved
loop-to-preserved c = spell_step _ _ _ _ _ c.loop-to.invariant c.loop-to-test.true c.requires

pub returns : goal.returns
returns c =
    let e : c.loop-to.to ≡ c.args.at + c.args.width = omega arith in
    rw e at (spell_end _ _ _ _ _ c.loop-to.invariant c.loop-to-test.false)
