use borrow.Author.Rules.{rules}
use Rattle.steps.proofs.take.Goals as goal

pub returns : goal.returns
returns c = rw (← c.current-t.ensures.is) c.take_in.ensures
