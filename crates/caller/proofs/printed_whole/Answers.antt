use mathlib.Core.Path.{sym}
use borrow.Author.Rules.{rules}
use Rattle.demands.proofs.Printed.{prints_iff}
use Rattle.caller.proofs.printed_whole.Goals as goal

pub returns : goal.returns
returns c = (prints_iff _ _).0 (sym c.answer_text.ensures.0)
