use native.Mathlib.Omega.{arith}
use Rattle.base.proofs.Fill.{appended-length}
use Rattle.appends.proofs.Answering.{writes_count, both_count, both_sheets, writes_put, both_put, lists_put}
use Rattle.appends.proofs.Below.{writes_under}
use Rattle.appends.proofs.put_lists.Goals as goal

pub put_over-requires : goal.put_over-requires
put_over-requires c =
    let p = c.requires in (
      both_sheets p.0.graded.settled.held _ c.txs-n.ensures p.0.ties.room p.0.both,
      omega
          (arith, p.2, both_count p.0.graded.settled.held _ c.txs-n.ensures p.0.both),
    )

pub list_over-requires : goal.list_over-requires
list_over-requires c =
    let p = c.requires in
    (writes_under p.0.graded.settled.held _ c.txs-n.ensures p.0.ties, p.0.both.lists.room)

pub put_over-requires-2 : goal.put_over-requires-2
put_over-requires-2 c =
    let p = c.requires in (
      record { pairs = c.list_over.ensures.under; writes_room = p.0.ties.room; reads_room = p.0.both.reads.room; light = omega arith },
      omega (
        arith,
        p.2,
        p.0.number,
        appended-length c.put_over.ensures,
        writes_count p.0.graded.settled.held _ c.txs-n.ensures
            p.0.ties c.list_over.ensures,
      ),
    )

pub returns : goal.returns
returns c =
    let p = c.requires in
    lists_put _ _ p.0.number c.put_faults-n.ensures (both_put p.0.graded.settled.held _ c.txs-n.ensures p.0.ties p.0.both
    c.put_over.ensures) (writes_put p.0.graded.settled.held _ c.txs-n.ensures p.0.ties _ c.list_over.ensures
    c.put_over-2.ensures)
