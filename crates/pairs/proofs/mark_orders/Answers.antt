use mathlib.Core.Path.{◌≡◌}
use native.Mathlib.Omega.{arith}
use Rattle.rules.specs.History.{size}
use Rattle.table.specs.Table.{history_of}
use Rattle.pairs.proofs.Pairs.{orders_start}
use Rattle.pairs.proofs.mark_orders.Goals as goal

pub loop-b-init : goal.loop-b-init
loop-b-init c = (omega arith, orders_start _ c.requires.2)

pub returns : goal.returns
returns c =
    let e : c.loop-b.b ≡ size (history_of c.args.h.now) = omega (arith, c.txs-b-end.ensures) in
    rw e at c.loop-b.invariant.1
