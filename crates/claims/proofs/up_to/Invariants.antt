use Prim.Native.Nat.{◌<◌, ◌≤◌}
use lib.ListN.{length}
use Rattle.theory.specs.Order.{place}
use Rattle.claims.specs.Seats.{Earlier}
use Rattle.claims.proofs.up_to.Given as goal

-- p: those before place i, at which a stands, or later
abbrev pub invariant-loop-entry : goal.invariant-loop-entry
invariant-loop-entry l = (place l.a l.o < length l.o → l.entry-index ≤ place l.a l.o) × Earlier l.o l.entry-index l.p
