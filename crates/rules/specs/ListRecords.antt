-- Document 02, "lists instead of single values": each row of appends and list reads with its place, neighbours in the order of checks broken at once, row 17
-- in both directions, and what they are read into. As in Overlaps: a table, whose statement is in proofs/.
use Rattle.std.specs.Prelude.{ℕ, true, List, [], ◌∷◌, ◌++◌}
use Rattle.rules.specs.Numbers.{bytes}
use Rattle.rules.specs.History.{Op, append_key, list_key}
use Rattle.rules.specs.Reading.{refused}
use Rattle.rules.specs.Traces.{raw, trace, opens, edition, r_of, w_of, a_of, l_of, closes_of, room}
use Rattle.rules.specs.Edges.{open_state}
use Rattle.rules.specs.Overlaps.{Overlap, overlap, refuses, refuses_raw, reads_into, a, op_wrote, took, SecondLimit, second}

-- an append of v to x by t, and a list read of x by t whose record stands at p, as they are held
abbrev appended : ℕ → ℕ → ℕ → Op
appended t x v = record { tx = t; is_write = true; key = append_key x; value = v }

abbrev listed : ℕ → ℕ → ℕ → Op
listed t x p = record { tx = t; is_write = true; key = list_key x; value = p }

abbrev pub list_record_table : List Overlap
list_record_table =
    -- 6: edition 1 has neither
    overlap (trace 0 (opens 1 ∷ a_of 1 1 5 ∷ [])) (refused 6 10)
    ∷ overlap (trace 0 (opens 1 ∷ l_of 1 1 [] ∷ [])) (refused 6 10)
    -- 4: an append of 19 and of 21 bytes; a list read that is too short for a number, and one whose number says less or more than it has, also from 33 on
    ∷ refuses_raw (edition 2 ∷ opens 1 ∷ []) (raw 19 23 2 (room 13)) 4 20
    ∷ refuses_raw (edition 2 ∷ opens 1 ∷ []) (raw 21 23 2 (room 15)) 4 20
    ∷ refuses_raw (edition 2 ∷ opens 1 ∷ []) (raw 13 24 2 (room 7)) 4 20
    ∷ refuses_raw (edition 2 ∷ opens 1 ∷ []) (raw 22 24 2 (bytes 2 1 ++ bytes 4 1 ++ bytes 2 0 ++ bytes 8 5)) 4 20
    ∷ refuses_raw (edition 2 ∷ opens 1 ∷ []) (raw 22 24 2 (bytes 2 1 ++ bytes 4 1 ++ bytes 2 2 ++ bytes 8 5)) 4 20
    ∷ refuses_raw (edition 2 ∷ opens 1 ∷ []) (raw 22 24 2 (bytes 2 1 ++ bytes 4 1 ++ bytes 2 33 ++ bytes 8 5)) 4 20
    -- 4, then 7; 7, then 8; of another session
    ∷ refuses_raw (edition 2 ∷ []) (raw 21 23 1 (room 15)) 4 10
    ∷ refuses (a_of 1 1 0 ∷ []) 7 10
    ∷ refuses (l_of 1 1 (room 33) ∷ []) 7 10
    ∷ refuses (opens 1 ∷ a_of 2 1 5 ∷ []) 7 20
    ∷ refuses (opens 1 ∷ l_of 257 1 [] ∷ []) 7 20
    -- "8 for number 33 and up or an appended 0"; 8, then 10 and 17
    ∷ refuses (opens 1 ∷ l_of 1 1 (room 33) ∷ []) 8 20
    ∷ refuses (opens 1 ∷ a_of 1 1 0 ∷ []) 8 20
    ∷ refuses (opens 1 ∷ w_of 1 1 5 ∷ a_of 1 1 0 ∷ []) 8 42
    -- "10 also for a repeated append", in another session; another key, another value and a list read again are none
    ∷ refuses (opens 1 ∷ opens 2 ∷ a_of 1 1 5 ∷ a_of 2 1 5 ∷ []) 10 52
    ∷ reads_into 1 (opens 1 ∷ a_of 1 1 5 ∷ a_of 1 2 5 ∷ a_of 1 1 6 ∷ l_of 1 1 (5 ∷ []) ∷ l_of 1 1 (5 ∷ []) ∷ closes_of 1 1 ∷ []) (a 1 1 ∷ [])
    (appended 1 1 5 ∷ appended 1 2 5 ∷ appended 1 1 6 ∷ listed 1 1 86 ∷ listed 1 1 110 ∷ [])
    -- "17, a key with single values and lists": each behind each of the other sort
    ∷ refuses (opens 1 ∷ w_of 1 1 5 ∷ a_of 1 1 6 ∷ []) 17 42
    ∷ refuses (opens 1 ∷ w_of 1 1 5 ∷ l_of 1 1 [] ∷ []) 17 42
    ∷ refuses (opens 1 ∷ r_of 1 1 0 ∷ a_of 1 1 6 ∷ []) 17 42
    ∷ refuses (opens 1 ∷ r_of 1 1 0 ∷ l_of 1 1 [] ∷ []) 17 42
    ∷ refuses (opens 1 ∷ a_of 1 1 6 ∷ w_of 1 1 5 ∷ []) 17 42
    ∷ refuses (opens 1 ∷ a_of 1 1 6 ∷ r_of 1 1 0 ∷ []) 17 42
    ∷ refuses (opens 1 ∷ l_of 1 1 [] ∷ w_of 1 1 5 ∷ []) 17 36
    ∷ refuses (opens 1 ∷ l_of 1 1 [] ∷ r_of 1 1 0 ∷ []) 17 36
    -- .. the key and value being those of an earlier operation; by an aborted transaction; the first record that mixes
    ∷ refuses (opens 1 ∷ w_of 1 1 5 ∷ a_of 1 1 5 ∷ []) 17 42
    ∷ refuses (opens 1 ∷ a_of 1 1 5 ∷ w_of 1 1 5 ∷ []) 17 42
    ∷ refuses (opens 1 ∷ a_of 1 1 5 ∷ closes_of 1 0 ∷ opens 1 ∷ w_of 1 1 6 ∷ []) 17 63
    ∷ refuses (opens 1 ∷ w_of 1 2 5 ∷ a_of 1 1 5 ∷ r_of 1 1 0 ∷ a_of 1 2 7 ∷ []) 17 64
    -- keys of both sorts side by side: a list of none, one of 32, and single values
    ∷ reads_into 2 (opens 7 ∷ w_of 7 1 5 ∷ a_of 7 2 6 ∷ opens 9 ∷ l_of 9 2 [] ∷ closes_of 7 1 ∷ l_of 9 2 (room 32) ∷ r_of 9 1 5 ∷ closes_of 9 0 ∷ []) (a 7 1 ∷ a 9 0 ∷ [])
    (op_wrote 1 1 5 ∷ appended 1 2 6 ∷ listed 2 2 74 ∷ listed 2 2 101 ∷ took 2 1 5 ∷ [])
    ∷ []

-- ── the limits: "both numbered and limited as operations" ──

abbrev pub list_limits : List SecondLimit
list_limits =
    second (open_state 1023) (a_of 1 2 5) 0
    ∷ second (open_state 1023) (l_of 1 2 []) 0
    -- 9; 8, then 9; 9, then 17; 17
    ∷ second (open_state 1024) (a_of 1 2 5) 9
    ∷ second (open_state 1024) (l_of 1 2 []) 9
    ∷ second (open_state 1024) (a_of 1 2 0) 8
    ∷ second (open_state 1024) (a_of 1 1 5000) 9
    ∷ second (open_state 1023) (a_of 1 1 5000) 17
    ∷ []
