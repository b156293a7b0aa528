use native.Mathlib.Omega.{arith}
use Rattle.writing.proofs.Filling.{too_short, filled}
use Rattle.lister.proofs.Call.{steps-room, steps-put}
use Rattle.lister.proofs.list_history.Goals as goal

pub returns-then-out-n : goal.returns-then-out-n
returns-then-out-n c =
    let p = c.requires in
    rw c.at.ensures (too_short _ (omega (arith, c.ops.ensures, c.txs.ensures, p.1.long)) (omega (arith, c.if-out-n.true)))

pub overflow_cast-count : goal.overflow_cast-count
overflow_cast-count c =
    let p = c.requires in
    omega (arith, c.ops.ensures, c.txs.ensures, p.0.few, p.0.most)

pub put_txs-requires : goal.put_txs-requires
put_txs-requires c =
    let p = c.requires in
    (p.0, p.1.reads, p.1.none_open, steps-room p.1 (omega (arith, c.ops.ensures, c.txs.ensures)) (omega arith) (omega (arith, c.if-out-n.false)))

pub returns : goal.returns
returns c =
    let p = c.requires in
    filled _ (steps-put p.1 (omega (arith, c.ops.ensures, c.txs.ensures)) (omega arith) c.put_txs.ensures)
