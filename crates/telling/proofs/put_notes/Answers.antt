use native.Mathlib.Omega.{arith}
use Rattle.text.proofs.Lines.{notes_length}
use Rattle.telling.proofs.Fronts.{bad_fronts, good_fronts}
use Rattle.telling.proofs.put_notes.Goals as goal

pub put_notes-requires : goal.put_notes-requires
put_notes-requires c =
    record { bound = omega (arith, notes_length c.in-Ok.notes (omega arith)) }

pub returns-in-Err : goal.returns-in-Err
returns-in-Err c = bad_fronts c.in-Err.is

pub returns-in-Ok : goal.returns-in-Ok
returns-in-Ok c = good_fronts c.in-Ok.is (omega arith) c.requires c.put_notes.ensures
