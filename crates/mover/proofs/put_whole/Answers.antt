use Rattle.mover.proofs.Whole.{end_room, blocks_room, preamble-room, whole-put}
use Rattle.mover.proofs.put_whole.Goals as goal

pub put_before-from-requires : goal.put_before-from-requires
put_before-from-requires c =
    let p = c.requires in
    end_room _ _ c.form_of-form.ensures c.txs-txs.ensures p.2

pub put_txs-from-requires : goal.put_txs-from-requires
put_txs-from-requires c =
    let p = c.requires in
    (p.0, p.1.reads, p.1.none_open, blocks_room _ _ c.form_of-form.ensures c.txs-txs.ensures p.2 c.put_before-from.ensures)

pub put_preamble-requires : goal.put_preamble-requires
put_preamble-requires c =
    let p = c.requires in
    preamble-room _ _ c.form_of-form.ensures c.txs-txs.ensures p.2 c.put_before-from.ensures c.put_txs-from.ensures

pub returns : goal.returns
returns c =
    whole-put _ _ c.form_of-form.ensures c.txs-txs.ensures c.put_before-from.ensures c.put_txs-from.ensures c.put_preamble.ensures
