use Rattle.judging.proofs.Order.{accept_short, accept_fits}
use borrow.Author.Rules.{rules}
use Rattle.judging.proofs.accept.Goals as goal

pub returns-then-out-n : goal.returns-then-out-n
returns-then-out-n c =
    λ h level x. rw c.at.ensures (accept_short x _ c.if-out-n.true)

pub returns : goal.returns
returns c =
    λ h level x. accept_fits x _ c.if-out-n.false c.copy.ensures
