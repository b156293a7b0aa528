use lib.ListN.{drop}
use Rattle.text.specs.Lines.{fields}
use Rattle.show.proofs.Laws.{Putting}
use Rattle.show.proofs.put_numbers.Given as goal

-- the fields from the index on are left, and the line's end
abbrev pub invariant-loop-n : goal.invariant-loop-n
invariant-loop-n l = Putting l.initial.out l.at (fields l.numbers) l.out l.to (fields (drop l.n-index l.numbers))
