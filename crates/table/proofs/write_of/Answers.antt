use Rattle.table.proofs.Walks.{walk_start, walk_hit, walk_miss, walk_end, walk_has}
use native.Mathlib.Omega.{arith}
use mathlib.Core.Path.{sym, ◌∙◌}
use Rattle.table.proofs.write_of.Goals as goal

pub head_of-i-requires : goal.head_of-i-requires
head_of-i-requires c = (c.requires, c.bucket_of.ensures.below)

pub loop-i-init : goal.loop-i-init
loop-i-init c = walk_start _ _ _ _ (c.head_of-i.ensures.is ∙ rw c.bucket_of.ensures.is)

pub writes_value-requires : goal.writes_value-requires
writes_value-requires c = walk_has _ _ _ _ c.requires c.loop-i.invariant (omega arith)

pub returns-then-writes_value : goal.returns-then-writes_value
returns-then-writes_value c =
    let l = c.loop-i in
    record { is = sym (walk_hit _ _ _ l.invariant (sym c.writes_value.ensures ∙ c.if-writes_value.true)); below = omega (arith, l.invariant.within) }

pub link_of-i-requires : goal.link_of-i-requires
link_of-i-requires c = walk_has _ _ _ _ c.requires c.loop-i.invariant (omega arith)

pub loop-i-smaller : goal.loop-i-smaller
loop-i-smaller c = c.link_of-i.ensures.below

pub loop-i-preserved : goal.loop-i-preserved
loop-i-preserved c =
    walk_miss _ _ _ c.loop-i.invariant _ (omega arith) (sym c.writes_value.ensures ∙ c.if-writes_value.false) c.link_of-i.ensures.is

pub returns : goal.returns
returns c = record { is = sym (walk_end _ _ _ c.loop-i.invariant c.loop-i-test.false); below = omega arith }
