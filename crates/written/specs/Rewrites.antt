-- Document 02, request One: a trace "read and written again": when it is refused, what comes out, and what is promised of it.
use Rattle.std.specs.Prelude.{ℕ, ◌<◌, ◌≤◌, ◌≡◌, true, false, List, length}
use Rattle.rules.specs.History.{History}
use Rattle.rules.specs.Records.{is_second}
use Rattle.demand1.specs.Rows.{serial, Refuses, ReadInto, HasHistory}
use Rattle.writing.specs.Filling.{Filled}
use Rattle.written.specs.Declined.{trace_length, steps_length, ListDeclines}
use Rattle.written.specs.Fills.{FilledWith, Fills}
use Rattle.written.specs.Writes.{TraceOf}
use Rattle.written.specs.Lists.{StepsOf}

-- writing the trace s again, with a buffer of x bytes for its steps and one of o bytes for what is written, is refused with this number and place
pub data RewriteDeclines (s : List ℕ) (x o : ℕ) : ℕ → ℕ → Type 0 where
  -- it is not turned into steps: 2 to 11 or 17 for the trace, 6 at 0 for edition 2, then 16 with the steps' bytes
  steps_declined : {n p : ℕ} → ListDeclines s x n p → RewriteDeclines s x o n p
  -- "16, output buffer too short, place the bytes needed, after all others": the steps have room, and the trace has none
  output_short : {h : History} → is_second s ≡ false → HasHistory s h → steps_length h ≤ x → o < trace_length h → RewriteDeclines s x o 16 (trace_length h)

-- the same where no buffer is lent for the steps
pub data WholeDeclines (s : List ℕ) (o : ℕ) : ℕ → ℕ → Type 0 where
  not_read : {n at : ℕ} → Refuses s n at → WholeDeclines s o n at
  is_second_lem : {h : History} → is_second s ≡ true → HasHistory s h → WholeDeclines s o 6 0
  too_short : {h : History} → is_second s ≡ false → HasHistory s h → o < trace_length h → WholeDeclines s o 16 (trace_length h)

-- b is the trace s written again
pub record WrittenAgain (s b : List ℕ) : Type 0 where
  -- it is the trace of its steps, with its first serial and the successors of that
  pub steps : List ℕ
  pub its_steps : StepsOf s steps
  pub their_trace : TraceOf steps (serial s 0) b
  -- it is read into the same history, and has no notes
  pub history : History
  pub reads : HasHistory s history
  pub reads_back : ReadInto b history 0
  -- "a trace without notes, read and written again, gives its own bytes"
  pub own : (h : History) → ReadInto s h 0 → b ≡ s

-- what became (X) of the buffer for the steps, which held x: nothing where the trace is not turned into steps; else these stand there, whether or not there
-- was room for the trace that is written of them
pub record StepsLeft (s x X : List ℕ) : Type 0 where
  pub unchanged : (n p : ℕ) → ListDeclines s (length x) n p → X ≡ x
  pub listed : (h : History) → is_second s ≡ false → HasHistory s h → steps_length h ≤ length x → FilledWith (StepsOf s) x X (steps_length h)

-- what is promised of writing the trace s again, with buffers that held x and o
pub record RewritesTrace (s x o : List ℕ) (r : Filled) (X B : List ℕ) : Type 0 where
  pub again : Fills (RewriteDeclines s (length x) (length o)) (WrittenAgain s) o r B
  pub steps : StepsLeft s x X

-- .. where no buffer is lent for the steps
abbrev pub RewritesWhole : List ℕ → List ℕ → Filled → List ℕ → Type 0
RewritesWhole s o = Fills (WholeDeclines s (length o)) (WrittenAgain s) o
