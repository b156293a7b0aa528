use Rattle.base.specs.Base.{listed}
use Rattle.show.proofs.Laws.{Putting}
use Rattle.entries.specs.Entries.{entry_line, list_text}
use Rattle.entries.proofs.put_entries.Given as goal

-- the lines from entry i on are left
abbrev pub invariant-loop-i : goal.invariant-loop-i
invariant-loop-i l = Putting l.initial.out l.at (list_text l.lines l.list l.n) l.out l.to (listed l.i l.n (entry_line l.lines l.list))
