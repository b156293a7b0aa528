-- Document 01, "When the judge declines", rows 2 to 11: how a trace is read, record by record, into a history. Document 02, "overlapping transactions": in
-- either edition; "notes go": of the notes only their number is kept; "lists instead of single values": row 17.
use Rattle.std.specs.Prelude.{ℕ, zero, suc, ◌+◌, Bool, true, false, not, List, [], ◌∷◌, ◌++◌, length, ltb, leb, eqb}
use Rattle.base.specs.Base.{pick, Row, row, first_fit}
use Rattle.rules.specs.History.{History, tx_count, op_count, empty, opened, closed, with_op, current, open_of, any_open, write_of, mixes_key}
use Rattle.rules.specs.Records.{next_at, next_serial, is_second, session_at, event_at, frame_rows}
use Rattle.rules.specs.declared.Event.{Event}
use Rattle.rules.specs.declared.Event.TheVariants.{Open, Read, Write, Close, End, Note, Other}

-- ── what an event does to a history, where t is the open transaction that it meets, 0 where there is none ──

-- row 7: "open inside a transaction; read, write or close outside one; end inside one"
unfoldable pub misplaced : ℕ → Event → Bool
misplaced t (Open s) = ltb 0 t
misplaced t (Read x v) = eqb t 0
misplaced t (Write x v) = eqb t 0
misplaced t (Close c) = eqb t 0
misplaced t (End n) = ltb 0 t
misplaced t Note = false
misplaced t Other = false

-- row 8: "written value 0; status above 1; end number wrong", and of the status: "8 now begins at status 3"; of lists "8 for number 33 and up or an appended
-- 0", both being held as a write of 0
unfoldable pub unlawful : History → Event → Bool
unlawful h (Open s) = false
unlawful h (Read x v) = false
unlawful h (Write x v) = eqb v 0
unlawful h (Close c) = ltb 2 c
unlawful h (End n) = not (eqb n (tx_count h))
unlawful h Note = false
unlawful h Other = false

-- row 9: "128th open, or 1,025th operation"
unfoldable pub excess : History → Event → Bool
excess h (Open s) = leb 127 (tx_count h)
excess h (Read x v) = leb 1024 (op_count h)
excess h (Write x v) = leb 1024 (op_count h)
excess h (Close c) = false
excess h (End n) = false
excess h Note = false
excess h Other = false

-- row 10: "a write repeats a key and value that an earlier write has, in any transaction"; "10 also for a repeated append". Two list reads have two offsets
unfoldable pub repeats : History → Event → Bool
repeats h (Open s) = false
repeats h (Read x v) = false
repeats h (Write x v) = ltb 0 (write_of h x v)
repeats h (Close c) = false
repeats h (End n) = false
repeats h Note = false
repeats h Other = false

-- ".. 7, 8, 9, 10."
unfoldable pub step_rows : History → ℕ → Event → List Row
step_rows h t e = row (misplaced t e) 7 ∷ row (unlawful h e) 8 ∷ row (excess h e) 9 ∷ row (repeats h e) 10 ∷ []

-- row 17: "a key with single values and lists", by the operation that an event would be
unfoldable pub mixes : History → Event → Bool
mixes h (Open s) = false
mixes h (Read x v) = mixes_key h x
mixes h (Write x v) = mixes_key h x
mixes h (Close c) = false
mixes h (End n) = false
mixes h Note = false
mixes h Other = false

-- ".. within a record after 10": the row behind those of a step
unfoldable pub mix_rows : History → Event → List Row
mix_rows h e = row (mixes h e) 17 ∷ []

-- what a lawful event enters
unfoldable pub entered : History → ℕ → Event → History
entered h t (Open s) = opened h s
entered h t (Read x v) = with_op h (record { tx = t; is_write = false; key = x; value = v })
entered h t (Write x v) = with_op h (record { tx = t; is_write = true; key = x; value = v })
entered h t (Close c) = closed h t c
entered h t (End n) = h
entered h t Note = h
entered h t Other = h

unfoldable pub is_end : Event → Bool
is_end (Open s) = false
is_end (Read x v) = false
is_end (Write x v) = false
is_end (Close c) = false
is_end (End n) = true
is_end Note = false
is_end Other = false

-- ── reading ──

-- the number of notes behind an event, where there were n before it
unfoldable pub notes_behind : ℕ → Event → ℕ
notes_behind n (Open s) = n
notes_behind n (Read x v) = n
notes_behind n (Write x v) = n
notes_behind n (Close c) = n
notes_behind n (End m) = n
notes_behind n Note = n + 1
notes_behind n Other = n

-- what is known between two records: where the next one starts, the serial that has to come, the history and the number of notes so far
pub record State : Type 0 where
  pub at : ℕ
  pub serial : ℕ
  pub history : History
  pub notes : ℕ

abbrev pub begin : State
begin = record { at = 0; serial = 0; history = empty; notes = 0 }

-- the event of the record that a state has come to
abbrev pub event_in : List ℕ → State → Event
event_in s st = event_at s st.at

-- the open transaction that an event of edition 2 meets, where n is its record's session, 0 where there is none: "an operation or close of a session with
-- none open, an open in a session with one or an end with any open"
unfoldable pub met_by : History → ℕ → Event → ℕ
met_by h n e = pick (is_end e) (any_open h) (open_of h n)

-- .. that any event meets, in edition 2 or not: in edition 1 the open one
unfoldable pub met_in : Bool → History → ℕ → Event → ℕ
met_in second h n e = pick second (met_by h n e) (current h)

-- .. that the record meets which a state has come to, in the trace's own edition
unfoldable pub met : List ℕ → State → ℕ
met s st = met_in (is_second s) st.history (session_at s st.at) (event_in s st)

-- the number of the first row that refuses that record; 0 where none does
unfoldable pub refusal_no : List ℕ → State → ℕ
refusal_no s st =
    first_fit
    (frame_rows (is_second s) s st.at st.serial ++ step_rows st.history (met s st) (event_in s st) ++ mix_rows st.history (event_in s st))

-- the state behind that record
unfoldable pub after : List ℕ → State → State
after s st =
    record {
      at = next_at s st.at;
      serial = next_serial s st.at;
      history = entered st.history (met s st) (event_in s st);
      notes = notes_behind st.notes (event_in s st);
    }

-- a trace is refused, with a number and a place, or it has a history and a number of notes
pub data Reading : Type 0 where
  refused : ℕ → ℕ → Reading
  read : History → ℕ → Reading

-- "how many notes the trace had"; 0 of one that is refused
unfoldable pub notes_of : Reading → ℕ
notes_of (refused n p) = 0
notes_of (read h notes) = notes

-- "After the end record, 11": bytes follow it, place the first such byte
unfoldable pub finished : List ℕ → State → Reading
finished s st = pick (ltb st.at (length s)) (refused 11 st.at) (read st.history st.notes)

-- record by record: the first that is refused decides. f is more than the records that can be left, since each has 8 bytes or more
unfoldable pub walk : ℕ → List ℕ → State → Reading
walk zero s st = refused 3 st.at
walk (suc f) s st =
    pick (ltb 0 (refusal_no s st)) (refused (refusal_no s st) st.at)
    (pick (is_end (event_in s st)) (finished s (after s st)) (walk f s (after s st)))

-- row 2: "the trace is longer than 32,768 bytes", place 32,768; then the records
unfoldable pub reading : List ℕ → Reading
reading s = pick (ltb 32768 (length s)) (refused 2 32768) (walk (length s + 1) s begin)
