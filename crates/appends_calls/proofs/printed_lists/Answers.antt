use Rattle.appends_calls.proofs.Printed.{lists_printed_iff}
use mathlib.Core.Path.{sym}
use Rattle.appends_calls.proofs.printed_lists.Goals as goal

pub returns : goal.returns
returns c = (lists_printed_iff _ _).0 (sym c.lists_text.ensures.0)
