use Rattle.table.specs.Table.{history_of}
use Rattle.bits.proofs.Tables.{Rewritten}
use Rattle.pairs.specs.Pairs.{prior_of}
use Rattle.pairs.proofs.fill_priors.Given as goal

abbrev pub invariant-loop-b : goal.invariant-loop-b
invariant-loop-b l = Rewritten (prior_of (history_of l.h)) l.initial.p l.p l.b
