-- Document 02, "overlapping transactions": each new refusal with its place, neighbours in the order of checks broken at once, and what traces of edition 2 are
-- read into. As in Edges: a table, whose statement is in proofs/.
use Rattle.std.specs.Prelude.{ℕ, true, false, List, [], ◌∷◌, ◌++◌}
use Rattle.rules.specs.History.{Tx, Op}
use Rattle.rules.specs.Reading.{State, Reading, refused, read, refusal_no, reading}
use Rattle.rules.specs.Traces.{Item, raw, trace, opens, r, closes, ends, note, edition, r_of, w_of, closes_of, overlapping, room}
use Rattle.rules.specs.Edges.{closed_state, open_state}

-- a trace and what is read of it
pub record Overlap : Type 0 where
  pub bytes : List ℕ
  pub out : Reading

abbrev pub overlap : List ℕ → Reading → Overlap
overlap b x = record { bytes = b; out = x }

-- the records behind the one that says edition 2, and the refusal
abbrev pub refuses : List Item → ℕ → ℕ → Overlap
refuses l n at = overlap (trace 0 (edition 2 ∷ l)) (refused n at)

-- the same with bytes behind them
abbrev pub refuses_raw : List Item → List ℕ → ℕ → ℕ → Overlap
refuses_raw l b n at = overlap (trace 0 l ++ b) (refused n at)

-- n transactions, and what they are read into
abbrev pub reads_into : ℕ → List Item → List Tx → List Op → Overlap
reads_into n l txs ops = overlap (overlapping n l) (read (record { txs = txs; ops = ops }) 0)

abbrev pub a : ℕ → ℕ → Tx
a s c = record { session = s; status = c }

abbrev pub op_wrote : ℕ → ℕ → ℕ → Op
op_wrote t x v = record { tx = t; is_write = true; key = x; value = v }

abbrev pub took : ℕ → ℕ → ℕ → Op
took t x v = record { tx = t; is_write = false; key = x; value = v }

abbrev pub overlap_table : List Overlap
overlap_table =
    -- the record that says the edition: 3 for its bytes, then 4 for its length, then 8 for "another payload", of which both bytes count
    overlap (raw 8 16 0 (2 ∷ [])) (refused 3 0)
    ∷ overlap (raw 9 16 0 (2 ∷ [])) (refused 3 0)
    ∷ overlap (raw 7 16 0 (3 ∷ [])) (refused 4 0)
    ∷ overlap (raw 9 16 0 (3 ∷ 0 ∷ 0 ∷ [])) (refused 4 0)
    ∷ overlap (trace 0 (edition 1 ∷ [])) (refused 8 0)
    ∷ overlap (trace 0 (edition 3 ∷ [])) (refused 8 0)
    ∷ overlap (trace 0 (edition 258 ∷ [])) (refused 8 0)
    ∷ refuses [] 3 10
    -- a kind 16 "that isn't first", in either edition: 3 for its bytes, then 5, then 4 for its length, then 7, then 8
    ∷ refuses_raw (edition 2 ∷ []) (raw 9 16 7 (2 ∷ [])) 3 10
    ∷ refuses_raw (edition 2 ∷ []) (raw 9 16 7 (room 3)) 5 10
    ∷ refuses_raw (edition 2 ∷ []) (raw 9 16 1 (room 3)) 4 10
    ∷ refuses (edition 2 ∷ []) 7 10
    ∷ refuses (edition 3 ∷ []) 7 10
    ∷ refuses_raw (opens 1 ∷ []) (raw 9 16 1 (room 3)) 4 10
    ∷ overlap (trace 0 (opens 1 ∷ edition 2 ∷ [])) (refused 7 10)
    ∷ overlap (trace 0 (note [] ∷ edition 3 ∷ [])) (refused 7 8)
    -- "6 for a note in edition 2", behind 5 and before any length; the lengths of each edition are not the other's, and come before 7
    ∷ refuses_raw (edition 2 ∷ []) (raw 6 6 7 []) 5 10
    ∷ refuses (note [] ∷ []) 6 10
    ∷ refuses (note (room 65) ∷ []) 6 10
    ∷ refuses (opens 1 ∷ r 1 0 ∷ []) 4 20
    ∷ refuses (r 1 0 ∷ []) 4 10
    ∷ refuses (opens 1 ∷ closes 1 ∷ []) 4 20
    ∷ overlap (trace 0 (opens 1 ∷ w_of 1 1 5 ∷ [])) (refused 4 10)
    ∷ overlap (trace 0 (opens 1 ∷ closes_of 1 1 ∷ [])) (refused 4 10)
    -- 7, then 8: "an operation or close of a session with none open": one that has none yet, one that has closed it, another of which both bytes count
    ∷ refuses (r_of 1 1 0 ∷ []) 7 10
    ∷ refuses (opens 1 ∷ w_of 2 1 0 ∷ []) 7 20
    ∷ refuses (opens 1 ∷ closes_of 257 3 ∷ []) 7 20
    ∷ refuses (opens 1 ∷ opens 2 ∷ closes_of 1 1 ∷ r_of 1 1 0 ∷ []) 7 41
    -- "an open in a session with one", though a later one is closed; "an end with any open", though the latest is closed, with a wrong number
    ∷ refuses (opens 1 ∷ opens 2 ∷ closes_of 2 1 ∷ opens 1 ∷ []) 7 41
    ∷ refuses (opens 1 ∷ opens 2 ∷ closes_of 2 1 ∷ ends 2 ∷ []) 7 41
    ∷ refuses (opens 1 ∷ opens 2 ∷ closes_of 1 1 ∷ ends 5 ∷ []) 7 41
    -- 8: a written 0, status 3, a wrong end number; 10: a repeated write, in another session; 11
    ∷ refuses (opens 1 ∷ opens 2 ∷ w_of 1 1 0 ∷ []) 8 30
    ∷ refuses (opens 1 ∷ opens 2 ∷ closes_of 1 3 ∷ []) 8 30
    ∷ refuses (ends 1 ∷ []) 8 10
    ∷ refuses (opens 1 ∷ opens 2 ∷ w_of 1 1 5 ∷ w_of 2 1 5 ∷ []) 10 52
    ∷ refuses_raw (edition 2 ∷ ends 0 ∷ []) (7 ∷ []) 11 20
    -- two that overlap, closed in the order of opening: each operation and each close is its session's, by place
    ∷ reads_into 2 (opens 7 ∷ opens 9 ∷ w_of 7 1 5 ∷ r_of 9 1 5 ∷ w_of 7 2 6 ∷ closes_of 7 2 ∷ w_of 9 3 8 ∷ closes_of 9 0 ∷ []) (a 7 2 ∷ a 9 0 ∷ [])
    (op_wrote 1 1 5 ∷ took 2 1 5 ∷ op_wrote 1 2 6 ∷ op_wrote 2 3 8 ∷ [])
    -- one within the other; a session that opens again after its close, while another is open; sessions 0 and 65,535
    ∷ reads_into 3 (opens 65535 ∷ opens 0 ∷ w_of 0 1 5 ∷ closes_of 0 1 ∷ opens 0 ∷ r_of 65535 1 5 ∷ r_of 0 1 5 ∷ closes_of 0 0 ∷ closes_of 65535 1 ∷ [])
    (a 65535 1 ∷ a 0 1 ∷ a 0 0 ∷ []) (op_wrote 2 1 5 ∷ took 1 1 5 ∷ took 3 1 5 ∷ [])
    -- no transaction; "after 4,294,967,295 comes 0", kind 16 being a record like any other
    ∷ reads_into 0 [] [] []
    ∷ overlap (trace 4294967295 (edition 2 ∷ ends 0 ∷ [])) (read (record { txs = []; ops = [] }) 0)
    ∷ []

abbrev pub overlap_read : Overlap → Overlap
overlap_read c = overlap c.bytes (reading c.bytes)

-- ── the limits, in states that have come so far ──

-- a state behind the record that says edition 2, the record that comes, and the number of the row that refuses it, 0 for none
pub record SecondLimit : Type 0 where
  pub state : State
  pub item : Item
  pub no : ℕ

-- 127 transactions, the latest of which is open, in session 1
abbrev pub last_open : State
last_open = record { at = 0; serial = 0; history = record { txs = (closed_state 126).history.txs ++ (a 1 3 ∷ []); ops = [] }; notes = 0 }

abbrev pub second : State → Item → ℕ → SecondLimit
second st i n = record { state = record { at = 10; serial = 1; history = st.history; notes = 0 }; item = i; no = n }

abbrev pub second_limits : List SecondLimit
second_limits =
    second (closed_state 126) (opens 9) 0
    ∷ second last_open (opens 9) 9
    -- 7, then 9; 8, then 9; 9, then 10
    ∷ second last_open (opens 1) 7
    ∷ second (open_state 1024) (r_of 2 1 5000) 7
    ∷ second (open_state 1024) (w_of 1 1 0) 8
    ∷ second (open_state 1024) (w_of 1 1 1024) 9
    ∷ second (open_state 1023) (w_of 1 1 1023) 10
    ∷ []

abbrev pub second_tested : SecondLimit → SecondLimit
second_tested c = record { state = c.state; item = c.item; no = refusal_no (trace 0 (edition 2 ∷ c.item ∷ [])) c.state }
