-- One record: what the loop keeps, and how it goes on.
use Rattle.std.specs.Prelude.{◌≡◌, ℕ, Bool, not, List, ◌++◌, length, nat_lt, Result, Ok, Err}
use Rattle.base.specs.Base.{pick, first_fit}
use Rattle.rules.specs.History.{History, is_single}
use Rattle.rules.specs.Records.{next_at, next_serial, is_second, session_at, event_at, written_key, Sound, frame_rows}
use Rattle.rules.specs.Reading.{State, step_rows, entered, is_end, notes_behind, met_in}
use Rattle.rules.specs.declared.Event.{Event}
use Rattle.table.specs.Table.{history_of, Held}
use Rattle.steps.specs.Steps.{put}
use Rattle.rules.specs.Refusals.{Declined, declined, told}
use Rattle.rules.specs.declared.Refusal.{Refusal}
use Rattle.trace.specs.declared.Turn.{Turn}
use Rattle.trace.specs.declared.Turn.TheVariants.{More, Over}

-- what is known before the record at `at`
abbrev pub state_at : ℕ → ℕ → History → ℕ → State
state_at at serial h notes = record { at = at; serial = serial; history = h; notes = notes }

-- the open transaction that it meets
abbrev pub met_at : List ℕ → ℕ → History → ℕ
met_at s at h = met_in (is_second s) h (session_at s at) (event_at s at)

-- the number of the first row, 3 to 10, that refuses it
unfoldable pub no_at : List ℕ → ℕ → ℕ → History → ℕ
no_at s at serial h = first_fit (frame_rows (is_second s) s at serial ++ step_rows h (met_at s at h) (event_at s at))

-- an event is an append or a list read
unfoldable pub is_of_lists : Event → Bool
is_of_lists e = not (is_single (written_key e))

-- the reading is over behind the end record, and the next byte would be the one at `at`
unfoldable pub finish : List ℕ → ℕ → ℕ → Result Turn Declined
finish s at notes = pick (nat_lt at (length s)) (Err (declined 11 at)) (Ok (Over notes))

-- where there were so many notes before it
unfoldable pub turn : List ℕ → ℕ → ℕ → ℕ → History → Result Turn Declined
turn s at serial notes h =
    pick (nat_lt 0 (no_at s at serial h)) (Err (declined (no_at s at serial h) at))
    (pick (is_end (event_at s at)) (finish s (next_at s at) notes)
    (Ok (More (next_at s at) (next_serial s at) (notes_behind notes (event_at s at)) (is_of_lists (event_at s at)))))

-- what it makes of the table g, and of the history in it
unfoldable pub put_at : List ℕ → ℕ → ℕ → List ℕ → List ℕ
put_at s at serial g = pick (nat_lt 0 (no_at s at serial (history_of g))) g (put g (met_at s at (history_of g)) (event_at s at))

unfoldable pub entered_at : List ℕ → ℕ → ℕ → History → History
entered_at s at serial h = pick (nat_lt 0 (no_at s at serial h)) h (entered h (met_at s at h) (event_at s at))

-- the answer r to the record at `at`, which made g2 of the table g
pub record Turned (r : Result Turn Refusal) (g2 g s : List ℕ) (at serial notes : ℕ) : Type 0 where
  pub is : told r ≡ turn s at serial notes (history_of g)
  pub words : g2 ≡ put_at s at serial g
  pub history : history_of g2 ≡ entered_at s at serial (history_of g)
  pub held : Held g2
  -- where it goes on, the event is sound
  pub sound : (after follow count : ℕ) (lists : Bool) → r ≡ Ok (More after follow count lists) → Sound at (event_at s at)
