-- The whole trace: the answer to it, and what the table then has in it.
use Rattle.std.specs.Prelude.{◌≡◌, ℕ, zero, suc, ◌+◌, ◌<◌, ◌≤◌, Bool, true, false, List, length, nat_lt, Result, Ok, Err}
use Rattle.base.specs.Base.{◌or◌, pick}
use Rattle.rules.specs.History.{History, op, op_count}
use Rattle.rules.specs.Records.{next_at, next_serial, event_at, Sound}
use Rattle.rules.specs.Reading.{State, Reading, refused, read, begin, event_in, is_end, entered, notes_behind, mixes, met, after, walk, reading}
use Rattle.table.specs.Table.{history_of, Held, cleared}
use Rattle.rules.proofs.Singles.{Singles, ReadsSingle}
use Rattle.steps.specs.Steps.{put}
use Rattle.mixing.specs.Mixing.{mixes_at, Indexed}
use Rattle.trace.specs.Turns.{state_at, met_at, no_at, is_of_lists}
use Rattle.trace.specs.declared.Way.{Way}
use Rattle.trace.specs.declared.Way.TheVariants as W
use Rattle.rules.specs.Refusals.{Declined, declined, told}
use Rattle.rules.specs.declared.Refusal.{Refusal}

-- a reading as an answer: its number of notes, or the refusal
unfoldable pub answered : Reading → Result ℕ Declined
answered (refused n p) = Err (declined n p)
answered (read h notes) = Ok notes

-- the number of the first row, 3 to 10, that refuses the record that a state has come to
abbrev pub plain_no : List ℕ → State → ℕ
plain_no s st = no_at s st.at st.serial st.history

-- the table g behind the records from the state st on: each that none of rows 3 to 10 refuses is entered, up to the end record or the first that row 17 refuses
unfoldable pub record_from : ℕ → List ℕ → State → List ℕ → List ℕ
record_from zero s st g = g
record_from (suc f) s st g =
    pick (nat_lt 0 (plain_no s st)) g
    (pick (is_end (event_in s st) or mixes st.history (event_in s st)) (put g (met s st) (event_in s st))
    (record_from f s (after s st) (put g (met s st) (event_in s st))))

-- .. behind the whole trace
unfoldable pub recorded : List ℕ → List ℕ → List ℕ
recorded s g = pick (nat_lt 32768 (length s)) (cleared g) (record_from (length s + 1) s begin (cleared g))

-- the answer r to the trace s, of which the table g was made out of g₀
pub record TraceRead (r : Result ℕ Refusal) (g g₀ s : List ℕ) : Type 0 where
  pub is : told r ≡ answered (reading s)
  pub words : g ≡ recorded s g₀
  pub held : Held g
  -- where the trace was read, the table holds its history
  pub history : (h : History) (notes : ℕ) → reading s ≡ read h notes → history_of g ≡ h
  -- .. and of whatever history it holds each read has a key with single values
  pub reads : ReadsSingle (history_of g)

-- ── from a state on ──

-- the list reads of a history stand before `at`, and its reads have keys with single values
pub record Ahead (h : History) (at : ℕ) : Type 0 where
  pub before : (i : ℕ) → 1 ≤ i → i ≤ op_count h → 8589934592 ≤ (op h i).key → (op h i).value < at
  pub reads : ReadsSingle h

-- a state that the loop may come to: at `at`, past so many notes, with the table g
pub record Standing (s : List ℕ) (at notes : ℕ) (g : List ℕ) : Type 0 where
  pub held : Held g
  pub within : at ≤ length s
  pub few : notes ≤ at
  pub ahead : Ahead (history_of g) at

-- from there on the reading is r, and the table becomes g2, with fuel for the bytes that are left
pub record Walks (s : List ℕ) (at serial notes : ℕ) (g : List ℕ) (r : Reading) (g2 : List ℕ) : Type 0 where
  pub reads : (f : ℕ) → length s < f + at → walk f s (state_at at serial (history_of g) notes) ≡ r
  pub words : (f : ℕ) → length s < f + at → record_from f s (state_at at serial (history_of g) notes) g ≡ g2

-- .. and the answer is o
pub record WalkEnds (s : List ℕ) (at serial notes : ℕ) (g : List ℕ) (o : Result ℕ Refusal) (g2 : List ℕ) : Type 0 where
  pub comes : Reading
  pub walks : Walks s at serial notes g comes g2
  pub is : told o ≡ answered comes
  pub held : Held g2
  pub history : (h : History) (n : ℕ) → comes ≡ read h n → history_of g2 ≡ h
  pub reads : ReadsSingle (history_of g2)

-- none of rows 3 to 10 refuses the record at `at`, which is not the end: what is known behind it
pub record Passed (s : List ℕ) (at serial notes : ℕ) (g : List ℕ) (after follow count : ℕ) (g2 : List ℕ) : Type 0 where
  pub within : at ≤ length s
  pub passes : no_at s at serial (history_of g) ≡ 0
  pub goes : is_end (event_at s at) ≡ false
  pub sound : Sound at (event_at s at)
  pub after_is : after ≡ next_at s at
  pub farther : at + 8 ≤ after
  pub follow_is : follow ≡ next_serial s at
  pub count_is : count ≡ notes_behind notes (event_at s at)
  pub words : g2 ≡ put g (met_at s at (history_of g)) (event_at s at)
  pub history : history_of g2 ≡ entered (history_of g) (met_at s at (history_of g)) (event_at s at)
  pub standing : Standing s after count g2

-- the reading has come from a state to behind the record at `first`: it is the first of them, or the first append or list read
pub record Come (s : List ℕ) (at serial notes : ℕ) (g : List ℕ) (each : Bool) (first after follow count : ℕ) (g2 : List ℕ) : Type 0 where
  pub expected : ℕ
  pub counted : ℕ
  pub table : List ℕ
  pub passed : Passed s first expected counted table after follow count g2
  pub back : (r : Reading) (g3 : List ℕ) → Walks s first expected counted table r g3 → Walks s at serial notes g r g3
  pub one : each ≡ true → (table ≡ g) × (first ≡ at)
  pub lists : each ≡ false → (is_of_lists (event_at s first) ≡ true) × Singles (history_of table)

-- what each case of the answer says
abbrev pub WayIs : List ℕ → ℕ → ℕ → ℕ → List ℕ → Bool → List ℕ → Result Way Refusal → Type 0
WayIs s at serial notes g each g2 (Err r) = WalkEnds s at serial notes g (Err r) g2
WayIs s at serial notes g each g2 (Ok (W.Over n)) = WalkEnds s at serial notes g (Ok n) g2
WayIs s at serial notes g each g2 (Ok (W.Behind first after follow count)) = Come s at serial notes g each first after follow count g2

-- ── row 17 behind a record, with the index k ──

-- n operations are in the index, and the history h has one more at most
pub data AnyMore (k : List ℕ) (h : History) (n : ℕ) : Type 0 where
  no_more : op_count h ≡ n → Indexed k h (n + 1) → AnyMore k h n
  one_more : op_count h ≡ n + 1 → Indexed k h (n + 1) → AnyMore k h n

-- the answer r: there is one more, and it mixes; else all are in the index, which is now k2
pub record Mixes (r : Bool) (k2 : List ℕ) (h : History) (n : ℕ) : Type 0 where
  pub none : op_count h ≡ n → r ≡ false
  pub one : op_count h ≡ n + 1 → r ≡ mixes_at h (n + 1)
  pub indexed : r ≡ false → Indexed k2 h (op_count h + 1)

-- g2 is the table behind the record at `first`, the first append or list read of the trace
pub record BeforeLists (s : List ℕ) (first after follow count : ℕ) (g2 : List ℕ) : Type 0 where
  pub expected : ℕ
  pub counted : ℕ
  pub table : List ℕ
  pub passed : Passed s first expected counted table after follow count g2
  pub of_lists : is_of_lists (event_at s first) ≡ true
  pub singles : Singles (history_of table)

-- .. from which on the reading is answered with o, and the table becomes g3
abbrev pub EndsLists : List ℕ → ℕ → ℕ → ℕ → ℕ → List ℕ → Result ℕ Refusal → List ℕ → Type 0
EndsLists s first after follow count g2 o g3 =
    (x : BeforeLists s first after follow count g2) → WalkEnds s first x.expected x.counted x.table o g3
