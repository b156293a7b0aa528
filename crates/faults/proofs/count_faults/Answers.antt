use mathlib.Core.Path.{ap, sym}
use Prim.Native.Nat.{◌+◌}
use lib.ListN.{length}
use native.Mathlib.Omega.{arith}
use Rattle.base.proofs.Searches.{listed_end}
use Rattle.faults.proofs.Faults.{below_more, below_most, below_all}
use Rattle.faults.proofs.count_faults.Goals as goal

pub loop-i-init : goal.loop-i-init
loop-i-init c = (omega arith, sym (ap length (listed_end _ 1 1 (omega arith))))

pub overflow_add-found : goal.overflow_add-found
overflow_add-found c =
    let n = c.ops-i-end.ensures in
    omega (
      arith,
      c.requires.settled.held.most,
      below_most _ _ (c.loop-i.i + 1) (below_more _ _ c.loop-i.i (omega arith) c.loop-i.invariant.1 c.code_at.ensures c.from-found.ensures),
    )

pub loop-i-preserved : goal.loop-i-preserved
loop-i-preserved c =
    let n = c.ops-i-end.ensures in (omega arith, below_more _ _ c.loop-i.i (omega arith) c.loop-i.invariant.1 c.code_at.ensures c.from-found.ensures)

pub returns : goal.returns
returns c =
    let n = c.ops-i-end.ensures in (
      below_all _ _ (omega arith) c.loop-i.invariant.1,
      omega (arith, c.requires.settled.held.most, below_most _ _ c.loop-i.i c.loop-i.invariant.1),
    )

-- after the last operation
pub returns-2 : goal.returns-2
returns-2 c =
    let n = c.ops-i-end.ensures in
    let more = below_more _ _ c.loop-i.i (omega arith) c.loop-i.invariant.1 c.code_at.ensures c.from-found.ensures in
    (below_all _ _ (omega arith) more, omega (arith, c.requires.settled.held.most, below_most _ _ (c.loop-i.i + 1) more))
