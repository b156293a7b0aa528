use native.Mathlib.Omega.{arith}
use Rattle.order.proofs.Sets.{plus_words}
use Rattle.order.proofs.Steps.{byte_left, falls-by_one, order-again, order-step, order_end}
use Rattle.order.proofs.+order.Goals as goal

pub bounds-out-at : goal.bounds-out-at
bounds-out-at t c = byte_left c.requires c.next-a.ensures c.if-a-n.true

pub order-requires : goal.order-requires
order-requires t c =
    let e = c.if-a-n.true in
    let f = falls-by_one c.requires c.next-a.ensures e in (
      omega arith,
      order-again c.requires c.next-a.ensures e (plus_words _ _ _ c.word_with-lo.ensures c.word_with-hi.ensures),
    )

pub returns-then-a-n : goal.returns-then-a-n
returns-then-a-n t c = order-step c.requires c.next-a.ensures c.if-a-n.true c.order.ensures

pub returns-else-a-n : goal.returns-else-a-n
returns-else-a-n t c = order_end c.requires c.next-a.ensures c.if-a-n.false
