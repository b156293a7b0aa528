use Rattle.std.proofs.Common.{arith}
use Rattle.blocks.proofs.Blocks.{leaving_start, leaving_room, leaving_step, leaving_end, txs_all, txs_top, txs_room, txs_none}
use Rattle.blocks.proofs.put_txs.Goals as goal

pub loop-t-init : goal.loop-t-init
loop-t-init c =
    (omega (arith, c.txs-t.ensures), rw (c.txs-t.ensures, ← txs_all _) (leaving_start c.requires.3))

pub put_tx-from-requires : goal.put_tx-from-requires
put_tx-from-requires c =
    let t = c.loop-t-test.true in
    let p = c.requires in (
      record { held = p.0; from = t; to = c.loop-t.invariant.0 },
      p.1,
      p.2 _ t c.loop-t.invariant.0,
      txs_room _ t (leaving_room c.loop-t.invariant.1 p.3),
    )

pub loop-t-preserved : goal.loop-t-preserved
loop-t-preserved c =
    (omega (arith, c.loop-t.invariant.0), leaving_step c.loop-t.invariant.1 _ (txs_top _ _ c.loop-t-test.true) c.put_tx-from.ensures)

pub returns : goal.returns
returns c = leaving_end c.loop-t.invariant.1 (txs_none _ _ (omega arith))
