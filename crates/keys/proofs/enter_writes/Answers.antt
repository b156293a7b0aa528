use native.Mathlib.Omega.{arith}
use Rattle.pairs.proofs.Marking.{mark_end, mark_up}
use Rattle.keys.proofs.Keys.{writers_start, writers_parted}
use Rattle.keys.proofs.enter_writes.Goals as goal

pub loop-i-init : goal.loop-i-init
loop-i-init c = let p = c.requires in writers_start p.0 p.2

pub enter_write-requires : goal.enter_write-requires
enter_write-requires c =
    let p = c.requires in
    (record { held = p.0; from = c.loop-i.auto.i; to = omega arith }, p.1, writers_parted p.0 c.loop-i.auto.i c.loop-i.invariant)

pub loop-i-preserved : goal.loop-i-preserved
loop-i-preserved c =
    mark_up _ _ (omega arith) c.loop-i.invariant c.enter_write.ensures

pub returns : goal.returns
returns c = mark_end _ (omega arith) c.loop-i.invariant

pub returns-2 : goal.returns-2
returns-2 c = mark_end _ (omega arith) (mark_up _ _ (omega arith) c.loop-i.invariant c.enter_write.ensures)
