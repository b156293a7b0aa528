-- Document 02, request Six: "The move to edition 2 now also answers how many notes the trace had."
use Rattle.std.specs.Prelude.{ℕ, ◌≤◌, ◌≡◌, true, List, length, Result, Ok, Err}
use Rattle.base.specs.Base.{pick}
use Rattle.rules.specs.Refusals.{cause_no}
use Rattle.rules.specs.Reading.{reading, notes_of}
use Rattle.rules.specs.declared.Refusal.{Refusal}
use Rattle.writing.specs.Filling.{Filled, refusing, answering, said, Fill, fill_of}
use Rattle.moving.specs.Moving.{moved_to}
use Rattle.moving.specs.declared.Output.{Output}

-- an answer and what the buffer then holds, as of any call that fills one, and the number of notes, 0 on refusal
pub record TalliedFill : Type 0 where
  pub fill : Fill
  pub notes : ℕ

-- the answer
abbrev pub Tallied : Type 0
Tallied = Result Output Refusal

-- what each case of it says, in the documents' numbers, where the buffer then holds b
unfoldable pub tallied_fill : Tallied → List ℕ → TalliedFill
tallied_fill (Err r) b = record { fill = fill_of (refusing (cause_no r.cause) r.place) b; notes = 0 }
tallied_fill (Ok t) b = record { fill = fill_of (answering t.length) b; notes = t.notes }

-- .. without the notes
unfoldable pub filled_of : Tallied → Filled
filled_of (Err r) = Err r
filled_of (Ok t) = Ok t.length

-- n notes, told with what was filled and not with a refusal
unfoldable pub with_notes : Fill → ℕ → TalliedFill
with_notes x n = record { fill = x; notes = pick x.answer.is_refused 0 n }

-- the trace s, moved to edition 2, and a lent buffer that holds `out`
unfoldable pub moved_to_second : List ℕ → List ℕ → TalliedFill
moved_to_second s out = with_notes (moved_to true s out) (notes_of (reading s))

-- the answer r, which made b of the buffer, is x; the length that it says lies within the buffer
pub record GivesTallied (r : Tallied) (b : List ℕ) (x : TalliedFill) : Type 0 where
  pub is : tallied_fill r b ≡ x
  pub within : (said (filled_of r)).length ≤ length b
