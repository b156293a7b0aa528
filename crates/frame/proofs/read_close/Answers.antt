use native.Mathlib.Omega.{arith}
use Rattle.frame.proofs.Frames.{one_byte}
use borrow.Author.Rules.{rules}
use Rattle.frame.proofs.read_close.Goals as goal

pub overflow_cast-result : goal.overflow_cast-result
overflow_cast-result c = omega (arith, c.shared_slice_known-2-1.given c.fields_from-from.result)

pub returns : goal.returns
returns c =
    rw (c.session_in.ensures, one_byte c.args.p.now c.fields_from-from.result, c.fields_from-from.ensures)
