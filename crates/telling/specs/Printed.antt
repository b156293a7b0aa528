-- What the programs print that write traces, in the documents' own terms, apart from the functions that compute: docs/FORMAT.md, "standard output". How the line
-- of a refusal is spelt is `text/specs/Lines.antt`.
use Rattle.std.specs.Prelude.{ℕ, List}
use Rattle.text.specs.Lines.{refused_line}
use Rattle.written.specs.Writes.{TraceOf}
use Rattle.written.specs.Rewrites.{WholeDeclines, WrittenAgain}
use Rattle.written.specs.Given.{given_serial, given_steps, GivenDeclines}

-- "the trace .., or `refused NO PLACE` and a line end": it is refused exactly where D says so, and the trace that else comes out is what P says
pub data PrintedBy (D : ℕ → ℕ → Type 0) (P : List ℕ → Type 0) : List ℕ → Type 0 where
  the_refusal : {n p : ℕ} → D n p → PrintedBy D P (refused_line n p)
  the_trace : {b : List ℕ} → ((n p : ℕ) → D n p → ⊥) → P b → PrintedBy D P b

-- `writer`, of "the starting serial, 4 bytes little-endian, then the steps": "the trace". There is room for the 32,768 bytes that a trace may have
abbrev pub GivenPrinted : List ℕ → List ℕ → Type 0
GivenPrinted g = PrintedBy (GivenDeclines g 32768) (TraceOf (given_steps g) (given_serial g))

-- `rewrite`, of a trace: "the trace written again"
abbrev pub AgainPrinted : List ℕ → List ℕ → Type 0
AgainPrinted s = PrintedBy (WholeDeclines s 32768) (WrittenAgain s)
