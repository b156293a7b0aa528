use Rattle.claims_text.proofs.Words.{Denoting}
use Rattle.claims_text.proofs.denote.Given as goal

abbrev pub invariant-loop-b : goal.invariant-loop-b
invariant-loop-b l = Denoting l.word l.n l.b-index
