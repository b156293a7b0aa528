-- Document 02, request One: when the two calls refuse, whole, in the document's own terms.
use Rattle.std.specs.Prelude.{ℕ, ◌+◌, ◌*◌, ◌<◌, ◌≡◌, true, false, List}
use Rattle.rules.specs.History.{History, tx_count, op_count}
use Rattle.rules.specs.Records.{is_second}
use Rattle.demand1.specs.Rows.{Check, number_of, FirstFailing, Inside, Refuses, HasHistory}
use Rattle.written.specs.Steps.{HasStep, NoStep, StepFails, Comes}

-- the bytes of a trace without notes: an open has 10, a read or a write 20, a close 9, the end 10
abbrev pub trace_length : History → ℕ
trace_length h = 19 * tx_count h + 20 * op_count h + 10

-- writing the steps s, with a buffer of o bytes, is refused with this number and place
pub data WriteDeclines (s : List ℕ) (o : ℕ) : ℕ → ℕ → Type 0 where
  -- "Bad steps get 01's numbers 6 (any other kind) to 10 in 01's order, the step's number, from 1, as place"
  bad_step : {k : ℕ} {h : History} {c : Check} → Comes s k h → HasStep s k → FirstFailing (StepFails s k h) c → WriteDeclines s o (number_of c) (k + 1)
  -- "a sequence that ends inside a transaction gets 7 with the number of steps plus one"
  ends_inside : {k : ℕ} {h : History} → Comes s k h → NoStep s k → Inside h → WriteDeclines s o 7 (k + 1)
  -- "16, output buffer too short, place the bytes needed, after all others"
  trace_short : {k : ℕ} {h : History} → Comes s k h → NoStep s k → (Inside h → ⊥) → o < trace_length h → WriteDeclines s o 16 (trace_length h)

-- the bytes of a trace's steps: an open and a close a transaction, and one step an operation
abbrev pub steps_length : History → ℕ
steps_length h = 16 * (2 * tx_count h + op_count h)

-- turning the trace s into steps, with a buffer of o bytes, is refused with this number and place: "2 to 11, then 16 for its length"
pub data ListDeclines (s : List ℕ) (o : ℕ) : ℕ → ℕ → Type 0 where
  trace_refused : {n at : ℕ} → Refuses s n at → ListDeclines s o n at
  -- "request One's writer and its promises stay with that edition", the first: of edition 2 the record that it begins with is no step
  second_edition : {h : History} → is_second s ≡ true → HasHistory s h → ListDeclines s o 6 0
  steps_short : {h : History} → is_second s ≡ false → HasHistory s h → o < steps_length h → ListDeclines s o 16 (steps_length h)
