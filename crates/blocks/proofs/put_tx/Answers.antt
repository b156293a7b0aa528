use Rattle.std.proofs.Common.{arith}
use Rattle.table.proofs.Words.{session_small, status_small}
use Rattle.blocks.proofs.Blocks.{close_room, ops_room, open_room, tx-put}
use Rattle.blocks.proofs.put_tx.Goals as goal

pub overflow_cast-status : goal.overflow_cast-status
overflow_cast-status c = omega (arith, c.status_of-status.ensures, status_small _ _ c.requires.0)

pub overflow_cast-session : goal.overflow_cast-session
overflow_cast-session c = omega (arith, c.session_of-session.ensures, session_small _ _ c.requires.0)

pub put_before-from-requires : goal.put_before-from-requires
put_before-from-requires c =
    let p = c.requires in
    close_room _ _ p.2 c.session_of-session.ensures c.status_of-status.ensures p.3

pub put_ops-from-requires : goal.put_ops-from-requires
put_ops-from-requires c =
    let p = c.requires in
    (p.0, p.1, c.session_of-session.ensures, ops_room _ _ p.2 c.session_of-session.ensures c.status_of-status.ensures p.3 c.put_before-from.ensures)

pub put_before-requires : goal.put_before-requires
put_before-requires c =
    let p = c.requires in
    open_room _ _ p.2 c.session_of-session.ensures c.status_of-status.ensures p.3 c.put_before-from.ensures c.put_ops-from.ensures

pub returns : goal.returns
returns c =
    let p = c.requires in
    tx-put _ _ p.2 c.session_of-session.ensures c.status_of-status.ensures c.put_before-from.ensures c.put_ops-from.ensures c.put_before.ensures
