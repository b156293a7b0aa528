-- Document 01's reading as it stood before there was another edition. What neither edition changed is named: a record's fields, rows 7 to 10 over an open
-- transaction, what an event enters.
use Rattle.std.specs.Prelude.{ℕ, zero, suc, ◌+◌, Bool, false, List, [], ◌∷◌, length, get_or, ltb}
use Rattle.base.specs.Base.{◌or◌, pick, Row, row, first_fit}
use Rattle.rules.specs.History.{current}
use Rattle.rules.specs.Records.{len_at, kind_at, payload_at, next_at, next_serial, event_of, breaks}
use Rattle.rules.specs.Reading.{State, begin, step_rows, entered, is_end, notes_behind, Reading, refused, finished}
use Rattle.rules.specs.Outcome.{Outcome, outcome, declining, judged_read, is_level}
use Rattle.rules.specs.declared.Event.{Event}

-- ── the table of records ──

-- its column "length": the least and the greatest of kinds 1 to 6
abbrev first_lows : List ℕ
first_lows = 0 ∷ 8 ∷ 18 ∷ 18 ∷ 7 ∷ 8 ∷ 6 ∷ []

abbrev first_highs : List ℕ
first_highs = 0 ∷ 8 ∷ 18 ∷ 18 ∷ 7 ∷ 8 ∷ 70 ∷ []

-- row 6: "unknown kind"
unfoldable pub first_unknown : ℕ → Bool
first_unknown kind = ltb kind 1 or ltb 6 kind

-- row 4: "length .. not this kind's"
unfoldable pub first_misfit : ℕ → ℕ → Bool
first_misfit kind len = ltb len (get_or first_lows kind 0) or ltb (get_or first_highs kind 0) len

-- its columns "kind" and "payload", of the record that a state has come to: `event_of false` is document 01's table, wherever the record stands
abbrev pub first_event : List ℕ → State → Event
first_event s st = event_of false st.at (kind_at s st.at) (payload_at s st.at)

-- ── reading ──

-- "Within a record: length field present (3), length at least 6 (4), bytes present (3), then 5, 6, length for its kind (4), 7, 8, 9, 10"; "Transactions do
-- not overlap in the trace", so that rows 7 to 10 go by the one that is open
unfoldable pub first_rows : List ℕ → State → List Row
first_rows s st =
    row (ltb (length s) (st.at + 2)) 3
    ∷ row (ltb (len_at s st.at) 6) 4
    ∷ row (ltb (length s) (next_at s st.at)) 3
    ∷ row (breaks s st.at st.serial) 5
    ∷ row (first_unknown (kind_at s st.at)) 6
    ∷ row (first_misfit (kind_at s st.at) (len_at s st.at)) 4
    ∷ step_rows st.history (current st.history) (first_event s st)

-- the number of the first row that refuses the record; 0 where none does
unfoldable pub first_no : List ℕ → State → ℕ
first_no s st = first_fit (first_rows s st)

-- the state behind it
unfoldable pub first_after : List ℕ → State → State
first_after s st =
    record {
      at = next_at s st.at;
      serial = next_serial s st.at;
      history = entered st.history (current st.history) (first_event s st);
      notes = notes_behind st.notes (first_event s st);
    }

-- "record by record"; "After the end record, 11"
unfoldable pub first_walk : ℕ → List ℕ → State → Reading
first_walk zero s st = refused 3 st.at
first_walk (suc f) s st =
    pick (ltb 0 (first_no s st)) (refused (first_no s st) st.at)
    (pick (is_end (first_event s st)) (finished s (first_after s st)) (first_walk f s (first_after s st)))

-- row 2: "the trace is longer than 32,768 bytes", place 32,768; then the records
unfoldable pub first_reading : List ℕ → Reading
first_reading s = pick (ltb 32768 (length s)) (refused 2 32768) (first_walk (length s + 1) s begin)

-- ── what was made of it ──

-- "Order: 1, 2, then record by record."
unfoldable pub first_judged : List ℕ → ℕ → List ℕ → List ℕ → List ℕ → Outcome
first_judged s level fs ps os = pick (is_level level) (judged_read (first_reading s) level fs ps os) (outcome (declining 1 0) fs ps os)
