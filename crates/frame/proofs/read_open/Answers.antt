use borrow.Author.Rules.{rules}
use Rattle.frame.proofs.read_open.Goals as goal

pub returns : goal.returns
returns c = rw c.u16_at-session.ensures
