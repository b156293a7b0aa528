use Prim.Native.Nat.{◌+◌}
use mathlib.Core.Path.{sym, ◌∙◌}
use native.Mathlib.Omega.{arith}
use Rattle.base.proofs.Searches.{first_hit, first_miss, first_end}
use Rattle.sifting.proofs.Findings.{kind_says}
use Rattle.sifting.proofs.first_finding.Goals as goal

pub returns-then-is_kind : goal.returns-then-is_kind
returns-then-is_kind c =
    let o = c.ops-n.ensures in
    sym
    (c.loop-i.invariant
    ∙ first_hit _ _ c.loop-i.i _ (omega arith)
    (sym (kind_says c.requires.judged c.loop-i.i (omega arith) (omega arith)) ∙ sym c.is_kind.ensures ∙ c.if-is_kind.true))

pub loop-i-preserved : goal.loop-i-preserved
loop-i-preserved c =
    let o = c.ops-n.ensures in
    c.loop-i.invariant
    ∙ first_miss _ _ c.loop-i.i _ (omega arith)
    (sym (kind_says c.requires.judged c.loop-i.i (omega arith) (omega arith)) ∙ sym c.is_kind.ensures ∙ c.if-is_kind.false)

pub returns : goal.returns
returns c = let o = c.ops-n.ensures in sym (c.loop-i.invariant ∙ first_end _ _ c.loop-i.i _ (omega arith))

-- after the last operation
pub returns-else-is_kind : goal.returns-else-is_kind
returns-else-is_kind c =
    let o = c.ops-n.ensures in
    sym
    (c.loop-i.invariant
    ∙ first_miss _ _ c.loop-i.i _ (omega arith)
    (sym (kind_says c.requires.judged c.loop-i.i (omega arith) (omega arith)) ∙ sym c.is_kind.ensures ∙ c.if-is_kind.false)
    ∙ first_end _ _ (c.loop-i.i + 1) _ (omega arith))
