use mathlib.Core.Path.{sym}
use Rattle.shelf.proofs.Printed.{notes_printed_iff}
use Rattle.shelf.proofs.printed_notes.Goals as goal

pub returns : goal.returns
returns c = (notes_printed_iff _ _).0 (sym c.notes_text.ensures.0)
