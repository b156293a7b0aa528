-- Document 02, request One: "a trace without notes, read and written again": a trace turned into steps.
use Rattle.std.specs.Prelude.{ℕ, ◌+◌, Bool, List, [], ◌∷◌, ◌++◌, eqb}
use Rattle.base.specs.Base.{pick, listed, joined}
use Rattle.rules.specs.History.{History, Op, tx, op, op_count, size, is_open}
use Rattle.rules.specs.Records.{is_second}
use Rattle.rules.specs.Reading.{Reading, refused, read, reading}
use Rattle.rules.specs.declared.Event.{Event}
use Rattle.rules.specs.declared.Event.TheVariants.{Open, Read, Write, Close}
use Rattle.writing.specs.Filling.{Work, refusal, content, Fill, into}
use Rattle.writing.specs.Steps.{step_bytes}

-- operation o as a step
unfoldable pub op_step : Op → Event
op_step o = pick o.is_write (Write o.key o.value) (Read o.key o.value)

-- operation i as a step, if it is one of t's
unfoldable pub op_step_of : History → ℕ → ℕ → List Event
op_step_of h t i = pick (eqb (op h i).tx t) (op_step (op h i) ∷ []) []

-- transaction t as steps: its open, its operations in order, and its close, unless it is open still
unfoldable pub close_step : History → ℕ → List Event
close_step h t = pick (is_open h t) [] (Close (tx h t).status ∷ [])

unfoldable pub tx_steps : History → ℕ → List Event
tx_steps h t = Open (tx h t).session ∷ (listed 1 (op_count h + 1) (op_step_of h t) ++ close_step h t)

-- a history as steps: its transactions in order of opening
unfoldable pub history_steps : History → List Event
history_steps h = listed 1 (size h) (tx_steps h)

-- "2 to 11, then 16": a trace's notes are left out. "Any other trace is edition 1; request One's writer and its promises stay with that edition": a trace of
-- edition 2 has no steps, which are of kinds 1 to 4 as edition 1 has them. Once it is read, it is refused for the kind 16 record that it begins with
unfoldable pub steps_read : Bool → Reading → Work
steps_read second (refused n p) = refusal n p
steps_read second (read h notes) = pick second (refusal 6 0) (content (joined step_bytes (history_steps h)))

-- the trace s and a lent buffer that holds `out`
unfoldable pub stepped : List ℕ → List ℕ → Fill
stepped s out = into (steps_read (is_second s) (reading s)) out
