-- A record for each step: what is left to put, and that there is room for it.
use Rattle.std.proofs.Common.{◌≡◌, ℕ, ◌+◌, ◌*◌, ◌%◌, ◌^◌, ◌<◌, ◌≤◌, List, [], ◌∷◌, ◌++◌, length, ap, ◌∙◌, arith}
use Rattle.base.proofs.Fill.{Appended, Room, room_from, room_in, room-first, Forth, forth_start, forth_room, forth_step, forth_last}
use Rattle.rules.specs.History.{History, tx_count}
use Rattle.rules.specs.Traces.{record_of}
use Rattle.rules.specs.declared.Event.{Event}
use Rattle.rules.specs.declared.Event.TheVariants.{End}
use Rattle.writing.specs.Steps.{step_count, step_at, steps_from, steps_in}
use Rattle.writing.specs.Writing.{item_of, records_of, trace_of}
use Rattle.writing.proofs.Lengths.{records_first, records_one}
use Rattle.writing.proofs.Steps.{steps-step, steps_end}

-- a loop that puts the trace of the steps s, from serial n on, whose history is g: it has come to step k and to `at` in the buffer, and its next serial is m
pub record Writing (o s : List ℕ) (n : ℕ) (g : History) (b : List ℕ) (m at k : ℕ) : Type 0 where
  pub forth : Forth o 0 (trace_of n (steps_in s) g) b at (trace_of m (steps_from s k) g)

pub writing_start : (o s : List ℕ) (n : ℕ) (g : History) → Writing o s n g o n 0 0
writing_start o s n g = record { forth = forth_start (trace_of n (steps_in s) g) (omega arith) }

module _ {o s : List ℕ} {n : ℕ} {g : History} {b : List ℕ} {m at k : ℕ} (x : Writing o s n g b m at k) where
  left_room : length (trace_of n (steps_in s) g) ≤ length o → Room b at (length o) (trace_of m (steps_from s k) g)
  left_room h = forth_room x.forth (room_from (trace_of n (steps_in s) g) (omega (arith, h)))

  -- the next step's record
  module _ (l : k < step_count s) where
    next_left : trace_of m (steps_from s k) g ≡ record_of m (item_of (step_at s (16 * k))) ++ trace_of ((m + 1) % 2 ^ 32) (steps_from s (k + 1)) g
    next_left = ap (λ (es : List Event). records_of m (es ++ (End (tx_count g) ∷ []))) (steps-step s k l) ∙ records_first m (step_at s (16 * k)) _

    pub writing_room : length (trace_of n (steps_in s) g) ≤ length o → at + length (record_of m (item_of (step_at s (16 * k)))) ≤ length b
    writing_room h = room_in (room-first (record_of m (item_of (step_at s (16 * k)))) _ (rw next_left at (left_room h)))

    pub writing_step : {c : List ℕ} {r : ℕ} → Appended b at c r (record_of m (item_of (step_at s (16 * k)))) → Writing o s n g c ((m + 1) % 2 ^ 32) r (k + 1)
    writing_step y = record { forth = forth_step x.forth _ next_left y }

  -- the end record
  module _ (l : step_count s ≤ k) where
    end_left : trace_of m (steps_from s k) g ≡ record_of m (item_of (End (tx_count g)))
    end_left = ap (λ (es : List Event). records_of m (es ++ (End (tx_count g) ∷ []))) (steps_end s k l) ∙ records_one m (End (tx_count g))

    pub end_room : length (trace_of n (steps_in s) g) ≤ length o → at + length (record_of m (item_of (End (tx_count g)))) ≤ length b
    end_room h = room_in (rw end_left at (left_room h))

    pub writing_end : {c : List ℕ} {r : ℕ} → Appended b at c r (record_of m (item_of (End (tx_count g)))) → Appended o 0 c r (trace_of n (steps_in s) g)
    writing_end y = forth_last x.forth (rw end_left y)
