use mathlib.Core.Path.{sym}
use lib.Seq.{length-take-le}
use Rattle.rewriting.proofs.Call.{first-serial}
use Rattle.rewriting.proofs.write_front.Goals as goal

pub slice_bounds-write_trace-end : goal.slice_bounds-write_trace-end
slice_bounds-write_trace-end c = sym (length-take-le _ _ c.requires.1)

pub returns : goal.returns
returns c =
    first-serial _ _ _ c.u32_at-serial.ensures c.write_trace.ensures
