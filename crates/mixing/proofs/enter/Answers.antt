use Rattle.mixing.proofs.Growing.{entered-first, entered_later}
use native.Mathlib.Omega.{arith}
use mathlib.Core.Path.{sym, ◌∙◌}
use Rattle.mixing.proofs.enter.Goals as goal

pub returns-then-j-eq0 : goal.returns-then-j-eq0
returns-then-j-eq0 c =
    let p = c.requires in
    entered-first _ _ p.1 (omega (arith, p.0.to, p.0.held.most)) (sym c.find-j.ensures.is ∙ c.if-j-eq0.true)
    (rw (← c.key_of-x.ensures, ← c.bucket.ensures.is) c.chain.ensures)

pub returns : goal.returns
returns c =
    let f = c.find-j.ensures in
    entered_later _ _ c.requires.1 f.is f.below c.if-j-eq0.false
    (rw (← c.key_of.ensures, ← c.key_of-x.ensures) c.is_other.ensures)
