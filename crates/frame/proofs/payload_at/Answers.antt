use borrow.Author.Rules.{rules}
use Rattle.frame.proofs.payload_at.Goals as goal

pub returns : goal.returns
returns c = rw (← c.u16_at.ensures)
