use mathlib.Core.Path.{◌≡◌, sym, ◌∙◌}
use native.Mathlib.Omega.{arith}
use Prim.Native.Nat.{◌+◌}
use Rattle.rules.specs.History.{size}
use Rattle.table.specs.Table.{history_of}
use Rattle.order.proofs.Sets.{gather_start, gather_hit, gather_miss}
use Rattle.forcing.proofs.members.Goals as goal
use Rattle.forcing.proofs.members.Goals.{then-is_committed, else-is_committed}

pub loop-t-init : goal.loop-t-init
loop-t-init c = gather_start _ c.none-w.ensures

pub loop-t-preserved : goal.loop-t-preserved
loop-t-preserved c =
    elim c.if-is_committed.branch [
      | then-is_committed w ↦ rw w.w-is (gather_hit _ _ c.loop-t.invariant (sym c.is_committed.ensures ∙ w.if-is_committed.true) w.with-w.ensures)
      | else-is_committed w ↦ rw w.w-is (gather_miss _ _ c.loop-t.invariant (sym c.is_committed.ensures ∙ w.if-is_committed.false))
    ]

pub returns-after-is_committed : goal.returns-after-is_committed
returns-after-is_committed c =
    let last : c.loop-t.t + 1 ≡ size (history_of c.args.h.now) = omega (arith, c.txs-t-end.ensures) in
    rw (← last)
    (elim c.if-is_committed.branch [
      | then-is_committed w ↦ rw w.w-is (gather_hit _ _ c.loop-t.invariant (sym c.is_committed.ensures ∙ w.if-is_committed.true) w.with-w.ensures)
      | else-is_committed w ↦ rw w.w-is (gather_miss _ _ c.loop-t.invariant (sym c.is_committed.ensures ∙ w.if-is_committed.false))
    ])
