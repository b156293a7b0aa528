use Rattle.bits.proofs.Tables.{Rewritten, word_of}
use Rattle.bits.proofs.copy.Given as goal

abbrev pub invariant-loop-i : goal.invariant-loop-i
invariant-loop-i l = Rewritten (word_of l.from) l.initial.to l.to l.i
