use native.Mathlib.Omega.{arith}
use Rattle.causal.proofs.Given.{fresh, fresh_vectors}
use Rattle.vectors_calls.proofs.Looking.{told_cycle, told-latest}
use Rattle.vectors_calls.proofs.latest_in.Goals as goal

pub go_by-width-requires : goal.go_by-width-requires
go_by-width-requires c = (c.requires, fresh, fresh_vectors)

pub returns-then-width-eq0 : goal.returns-then-width-eq0
returns-then-width-eq0 c = told_cycle _ c.go_by-width.ensures.1 _ _ c.if-width-eq0.true

pub returns : goal.returns
returns c = told-latest _ c.go_by-width.ensures.1 _ _ (omega (arith, c.if-width-eq0.false)) c.entry_for.ensures
