use Rattle.claims.specs.Seats.{Earlier}
use Rattle.claims.proofs.Seats.{Clear}
use Rattle.claims.proofs.has_members.Given as goal

-- p: those before place i, among which is no stray one
abbrev pub invariant-loop-entry : goal.invariant-loop-entry
invariant-loop-entry l = Earlier l.o l.entry-index l.p × Clear l.m l.o l.entry-index
