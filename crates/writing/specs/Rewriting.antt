-- Document 02, request One: "a trace without notes, read and written again, gives its own bytes".
use Rattle.std.specs.Prelude.{ℕ, List, take}
use Rattle.base.specs.Base.{pick, joined}
use Rattle.rules.specs.Records.{serial_at, is_second}
use Rattle.rules.specs.Reading.{Reading, refused, read, reading}
use Rattle.writing.specs.Filling.{Fill, fill_of, refusing}
use Rattle.writing.specs.Steps.{step_bytes}
use Rattle.writing.specs.Writing.{written}
use Rattle.writing.specs.Listing.{history_steps, stepped}

-- what came of the steps of the trace s is written again with the trace's first serial, or its refusal handed on
unfoldable pub again : List ℕ → Fill → List ℕ → Fill
again s x out = pick x.answer.is_refused (fill_of x.answer out) (written (take x.answer.length x.buffer) (serial_at s 0) out)

-- the trace s, a lent buffer for its steps that holds x, and one for the trace that holds `out`
unfoldable pub rewritten : List ℕ → List ℕ → List ℕ → Fill
rewritten s x out = again s (stepped s x) out

-- .. where the steps have room; a trace of edition 2 has none
unfoldable pub rewritten_read : List ℕ → Reading → List ℕ → Fill
rewritten_read s (refused n p) out = fill_of (refusing n p) out
rewritten_read s (read h notes) out = pick (is_second s) (fill_of (refusing 6 0) out) (written (joined step_bytes (history_steps h)) (serial_at s 0) out)

unfoldable pub rewritten_whole : List ℕ → List ℕ → Fill
rewritten_whole s out = rewritten_read s (reading s) out
