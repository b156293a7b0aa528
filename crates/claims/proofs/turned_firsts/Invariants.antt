use Rattle.claims.specs.Seats.{Earlier, TurnedFirsts}
use Rattle.claims.proofs.turned_firsts.Given as goal

-- p: those before place i; w: those that have to stand before one of these, and do not
abbrev pub invariant-loop-entry : goal.invariant-loop-entry
invariant-loop-entry l = Earlier l.o l.entry-index l.p × TurnedFirsts l.f l.o l.entry-index l.w
