-- What the programs print that move traces, in the documents' own terms: docs/FORMAT.md, "standard output" and "standard error".
use Rattle.std.specs.Prelude.{ℕ, Bool, List, []}
use Rattle.demand1.specs.Rows.{Refuses, HasHistory}
use Rattle.rules.specs.History.{History}
use Rattle.text.specs.Lines.{notes_line}
use Rattle.noteless.specs.Texts.{NoteCount}
use Rattle.moved.specs.Moved.{ComesOut, MoveDeclines}
use Rattle.telling.specs.Printed.{PrintedBy}

-- `to_edition_2` and `to_edition_1`: "the trace in edition 2", "the trace in edition 1". There is room for the 32,768 bytes that a trace may have
abbrev pub MovedPrinted : Bool → List ℕ → List ℕ → Type 0
MovedPrinted second s = PrintedBy (MoveDeclines second s 32768) (ComesOut second s)

-- `to_edition_2`, on standard error: "`notes N` and a line end, unless it is refused"
pub data NotesPrinted (s : List ℕ) : List ℕ → Type 0 where
  on_reading : {h : History} {n : ℕ} → HasHistory s h → NoteCount s n → NotesPrinted s (notes_line n)
  on_refusal : {n p : ℕ} → Refuses s n p → NotesPrinted s []
