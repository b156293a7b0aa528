use lib.ListN.{drop}
use Rattle.show.proofs.Laws.{Putting}
use Rattle.show.proofs.put_word.Given as goal

-- the bytes from the index on are left
abbrev pub invariant-loop-b : goal.invariant-loop-b
invariant-loop-b l = Putting l.initial.out l.at l.word l.out l.to (drop l.b-index l.word)
