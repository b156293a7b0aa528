use Rattle.order.proofs.Smallest.{first-low, first_high, first-none}
use Rattle.order.proofs.next.Goals as goal

pub returns-then-a-n : goal.returns-then-a-n
returns-then-a-n c =
    first-low _ c.without.ensures _ _ c.requires c.next_of-a.ensures c.if-a-n.true

pub returns-then-b-n : goal.returns-then-b-n
returns-then-b-n c =
    first_high _ c.without.ensures _ _ c.requires c.next_of-a.ensures c.if-a-n.false c.without-2.ensures c.next_of-b.ensures c.if-b-n.true

pub returns : goal.returns
returns c =
    first-none _ c.without.ensures _ _ c.requires c.next_of-a.ensures c.if-a-n.false c.without-2.ensures c.next_of-b.ensures c.if-b-n.false
