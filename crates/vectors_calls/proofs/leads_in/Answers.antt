use native.Mathlib.Omega.{arith}
use Rattle.causal.proofs.Given.{fresh, fresh_vectors}
use Rattle.vectors_calls.proofs.Looking.{said-table, said_vectors}
use Rattle.vectors_calls.proofs.leads_in.Goals as goal

pub go_by-width-requires : goal.go_by-width-requires
go_by-width-requires c = (c.requires, fresh, fresh_vectors)

pub returns-then-width-eq0 : goal.returns-then-width-eq0
returns-then-width-eq0 c = said-table _ c.go_by-width.ensures.1 _ _ c.if-width-eq0.true c.is_led-led.ensures

pub returns : goal.returns
returns c = said_vectors _ c.go_by-width.ensures.1 _ _ (omega (arith, c.if-width-eq0.false)) c.is_led-led.ensures
