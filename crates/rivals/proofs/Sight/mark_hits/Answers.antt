use mathlib.Core.Path.{refl}
use native.Mathlib.Omega.{arith}
use Rattle.table.proofs.Chain.{chain_prev, chain_has}
use Rattle.pairs.proofs.Marking.{cell_on, mark_start, mark_end}
use Rattle.pairs.proofs.Pairs.{byte_source, byte_row}
use Rattle.rivals.specs.Rivals.{hit_bit, hit_bits}
use Rattle.rivals.proofs.Rivals.{marks_start, marks_next, marks_less, marks_on, marks_external, marks_fits}
use Rattle.rivals.proofs.Sight.mark_hits.Goals as goal

pub loop-i-init : goal.loop-i-init
unfolding hit_bits
loop-i-init c = marks_start _ _ _ _ c.requires.1.to c.next_hit-i.ensures (mark_start _ _ _ c.requires.0)

pub overflow_sub-self : goal.overflow_sub-self
overflow_sub-self c =
    let p = c.args.self.now.ready in
    let m = c.loop-i.invariant in
    let l = c.loop-i-test.true in
    omega (arith, byte_source p (chain_has p.settled.held (marks_on m) l) (marks_external m l))

pub set_bit-requires : goal.set_bit-requires
set_bit-requires c =
    let m = c.loop-i.invariant in
    let l = c.loop-i-test.true in
    (m.rest.room, byte_row c.args.self.now.ready (chain_has c.args.self.now.ready.settled.held (marks_on m) l) (marks_external m l), omega (arith, c.requires.2, c.args.self.now.ready.settled.held.few))

pub next_hit-i-requires-in-loop-i : goal.next_hit-i-requires-in-loop-i
next_hit-i-requires-in-loop-i c =
    let o = chain_prev (marks_on c.loop-i.invariant) c.loop-i-test.true c.prev_op.ensures in
    (c.set_bit.ensures.room, o, c.requires.2)

pub loop-i-smaller : goal.loop-i-smaller
loop-i-smaller c = marks_less _ _ _ _ _ c.next_hit-i-in-loop-i.ensures c.prev_op.ensures.below

pub loop-i-preserved : goal.loop-i-preserved
unfolding hit_bit
loop-i-preserved c =
    let p = c.args.self.now.ready in
    let m = c.loop-i.invariant in
    let l = c.loop-i-test.true in
    let e = byte_source p (chain_has p.settled.held (marks_on m) l) (marks_external m l) in
    let b = c.set_bit.ensures in
    marks_next _ _ _ _ m l (cell_on _ _ _ _ _ (marks_fits m l) (omega (arith, e)) refl b) c.prev_op.ensures c.next_hit-i-in-loop-i.ensures

pub returns : goal.returns
returns c = mark_end _ (omega arith) c.loop-i.invariant.rest
