use Rattle.rivals.proofs.Rivals.{remains_start, remains_end}
use Rattle.rivals.proofs.Sight.mark_rivals_of.Goals as goal

pub loop-i-init : goal.loop-i-init
loop-i-init c =
    remains_start c.requires.2.held c.requires.0.from c.requires.0.to (c.foregoing-before.ensures _ _ _ c.requires.0 c.requires.2) c.own_bit.ensures c.own_bit-2.ensures
    c.without.ensures c.without-2.ensures c.requires.1 c.last_op-i.ensures

pub loop-i-preserved : goal.loop-i-preserved
loop-i-preserved c = c.mark_read-left.ensures.goes _ _ c.prev_op-i.ensures c.loop-i.invariant

pub returns : goal.returns
returns c = remains_end c.loop-i.invariant c.loop-i-test.false
