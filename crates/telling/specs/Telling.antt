-- What the programs print that write traces, of a whole input and as one text: no buffer has to do with it. docs/FORMAT.md has them in two tables, "standard
-- input", "standard output" and "standard error", whose words are quoted here. A text is the list of its bytes.
use Rattle.std.specs.Prelude.{ℕ, Bool, List, [], ltb, length, drop}
use Rattle.base.specs.Base.{pick, joined}
use Rattle.rules.specs.Numbers.{le}
use Rattle.rules.specs.History.{empty}
use Rattle.rules.specs.Records.{serial_at, is_second}
use Rattle.rules.specs.Reading.{Reading, refused, read, reading}
use Rattle.text.specs.Lines.{refused_line, notes_line}
use Rattle.writing.specs.Filling.{Work, refusal, content}
use Rattle.writing.specs.Steps.{step_bytes, steps_in}
use Rattle.writing.specs.Writing.{follow, wrote}
use Rattle.writing.specs.Listing.{history_steps}
use Rattle.moving.specs.Moving.{moved_read}

-- "the trace .., or `refused NO PLACE` and a line end"
unfoldable pub work_text : Work → List ℕ
work_text (refusal n p) = refused_line n p
work_text (content l) = l

-- .. of the steps s and the starting serial n
unfoldable pub made_text : List ℕ → ℕ → List ℕ
made_text s n = work_text (wrote n (steps_in s) (follow empty 1 (steps_in s)))

-- `writer`: "the starting serial, 4 bytes little-endian, then the steps". "An input of `writer` with fewer than four bytes has no serial: `refused 3 0`."
unfoldable pub given_text : List ℕ → List ℕ
given_text g = pick (ltb (length g) 4) (refused_line 3 0) (made_text (drop 4 g) (le 4 g 0))

-- `rewrite`: "the trace written again", of its steps, with its first serial. A trace of edition 2 has none: it is refused "with 6 at place 0"
unfoldable pub again_text : List ℕ → Reading → List ℕ
again_text s (refused n p) = refused_line n p
again_text s (read h notes) = pick (is_second s) (refused_line 6 0) (made_text (joined step_bytes (history_steps h)) (serial_at s 0))

unfoldable pub rewritten_text : List ℕ → List ℕ
rewritten_text s = again_text s (reading s)

-- `to_edition_2` and `to_edition_1`: "the trace in edition 2", "the trace in edition 1"
unfoldable pub moved_text : Bool → List ℕ → List ℕ
moved_text second s = work_text (moved_read second s (reading s))

-- `to_edition_2`, on standard error: "`notes N` and a line end, unless it is refused"
unfoldable pub tallied_text : Reading → List ℕ
tallied_text (refused n p) = []
tallied_text (read h notes) = notes_line notes

unfoldable pub notes_text : List ℕ → List ℕ
notes_text s = tallied_text (reading s)
