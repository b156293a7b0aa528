use borrow.Author.Rules.{rules}
use Rattle.steps.proofs.is_full.Goals as goal

pub returns : goal.returns
returns c =
    rw c.ops.ensures
