use Rattle.appends_rules.specs.Appends.{values_at}
use Rattle.table.specs.Table.{history_of}
use Rattle.elements.proofs.Scanning.{Scanning}
use Rattle.elements.proofs.scan.Given as goal

abbrev pub invariant-loop-q : goal.invariant-loop-q
invariant-loop-q l = Scanning (history_of l.h) l.x (values_at l.s l.p) l.i l.initial.k l.k l.again l.undone l.q
