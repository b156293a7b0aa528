use native.Mathlib.Omega.{arith}
use Rattle.names_rules.proofs.Walking.{lawful_short}
use Rattle.names_rules.proofs.Loops.{indexing_first, indexing_fit, indexing_room, indexing_more, indexing_end}
use Rattle.names.proofs.fill_index.Goals as goal

pub loop-from-init : goal.loop-from-init
loop-from-init c = let p = c.requires in indexing_first _ _ p.0 p.1

pub overflow_cast-at : goal.overflow_cast-at
overflow_cast-at c = omega (arith, c.loop-from-test.true, lawful_short _ c.requires.0)

pub bounds-at-n : goal.bounds-at-n
bounds-at-n c = indexing_room c.loop-from.invariant c.loop-from-test.true

pub next_at-from-requires : goal.next_at-from-requires
next_at-from-requires c = let f = indexing_fit c.loop-from.invariant c.loop-from-test.true in omega (arith, f.least, f.room)

pub loop-from-preserved : goal.loop-from-preserved
loop-from-preserved c =
    indexing_more c.loop-from.invariant c.loop-from-test.true c.next_at-from.ensures

pub returns : goal.returns
returns c = indexing_end c.loop-from.invariant c.loop-from-test.false
