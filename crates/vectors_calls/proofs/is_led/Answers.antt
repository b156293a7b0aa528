use mathlib.Core.Bool.{not}
use mathlib.Core.Path.{ap, ◌∙◌}
use borrow.Author.Tests.{eq-eqb}
use native.Mathlib.Omega.{arith}
use Rattle.causal.proofs.Known.{used_none}
use Rattle.vectors_calls.proofs.Looking.{led_first, led_second, led_itself, led_table, names_given, led_vectors}
use Rattle.vectors_calls.proofs.is_led.Goals as goal
use Rattle.vectors_calls.proofs.is_led.Goals.{then-last-a-via-then-last-a, then-last-a-via-else-last-a+then-last-b}

pub returns-then-last-a : goal.returns-then-last-a
returns-then-last-a c =
    elim c.then-last-a.branch [
      | then-last-a-via-then-last-a w ↦ led_first _ _ _ c.txs-last.ensures w.if-last-a.true
      | then-last-a-via-else-last-a+then-last-b w ↦ led_second _ _ _ c.txs-last.ensures w.if-last-b.true
    ]

pub returns-then-width-eq0 : goal.returns-then-width-eq0
returns-then-width-eq0 c =
    let p = c.requires in
    led_table p.0.held p.1 c.txs-last.ensures c.if-last-a.false c.if-last-b.false c.if-width-eq0.true c.bit.ensures

pub returns-else-a-b : goal.returns-else-a-b
returns-else-a-b c =
    let q = led_itself _ _ _ (used_none c.requires.1 (omega (arith, c.if-width-eq0.false))) c.if-a-b.false in
    ap not (eq-eqb _ _ c.if-a-b.false) ∙ q

pub names-requires : goal.names-requires
names-requires c =
    let p = c.requires in
    names_given p.0.held p.1 c.txs-last.ensures c.if-last-a.false c.if-last-b.false (omega (arith, c.if-width-eq0.false))

pub returns-then-a-b : goal.returns-then-a-b
returns-then-a-b c =
    let p = c.requires in
    led_vectors p.0.held p.1 c.txs-last.ensures c.if-last-a.false c.if-last-b.false (omega (arith, c.if-width-eq0.false)) c.if-a-b.true
    c.names.ensures
