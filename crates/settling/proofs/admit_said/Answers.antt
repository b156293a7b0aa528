use mathlib.Core.Path.{ap, ◌∙◌}
use native.Mathlib.Omega.{arith}
use Rattle.rules.specs.History.{History, tx_count}
use Rattle.settling.proofs.Queues.{remarked_none}
use Rattle.settling.proofs.Begins.{begun_start, begins-then, begun_end}
use Rattle.settling.proofs.admit_said.Goals as goal

pub loop-t-init : goal.loop-t-init
loop-t-init c =
    let q = c.new-q.ensures in
    (omega arith, record { remarked = remarked_none; begun = rw q.1 (begun_start c.requires q.0) }, q.2)

pub returns : goal.returns
returns c =
    let v = c.loop-t.invariant in
    (begun_end (omega (arith, v.0, c.txs-t-end.ensures, ap (λ (x : History). tx_count x) v.1.remarked.same)) v.1.begun, v.1.remarked, v.2)

pub returns-2 : goal.returns-2
returns-2 c =
    let v = c.loop-t.invariant in
    let a = c.admit_if_said.ensures in
    let b = begins-then v.1 a.0 in
    (begun_end (omega (arith, c.txs-t-end.ensures, ap (λ (x : History). tx_count x) b.remarked.same)) b.begun, b.remarked, a.1 ∙ v.2)
