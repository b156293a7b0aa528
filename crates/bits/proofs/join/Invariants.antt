use Rattle.bits.proofs.Tables.{Rewritten, either_word}
use Rattle.bits.proofs.join.Given as goal

abbrev pub invariant-loop-i : goal.invariant-loop-i
invariant-loop-i l = Rewritten (either_word l.initial.to l.from) l.initial.to l.to l.i
