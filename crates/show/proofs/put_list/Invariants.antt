use lib.ListN.{drop}
use Rattle.text.specs.Lines.{fields}
use Rattle.show.proofs.Laws.{Putting}
use Rattle.show.proofs.put_list.Given as goal

-- the fields from the index on are left, and the line's end
abbrev pub invariant-loop-b : goal.invariant-loop-b
invariant-loop-b l = Putting l.initial.out l.at (fields l.list) l.out l.to (fields (drop l.b-index l.list))
