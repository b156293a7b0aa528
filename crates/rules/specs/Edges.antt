-- Edge cases of document 01 beyond its worked traces: every refusal with its place, every two neighbours in the order of checks broken at once, limits,
-- wraps, buffers one byte short, and reads that stand just beside a rule. As in Cases: a table, whose statement is in proofs/.
use Rattle.std.specs.Prelude.{ℕ, ◌+◌, true, false, List, [], ◌∷◌, ◌++◌}
use Rattle.base.specs.Base.{listed}
use Rattle.rules.specs.Numbers.{bytes}
use Rattle.rules.specs.History.{History, closed, with_op}
use Rattle.rules.specs.Reading.{State, refusal_no, notes_of, reading}
use Rattle.rules.specs.Outcome.{Outcome, judged}
use Rattle.rules.specs.Traces.{Item, raw, trace, opens, closes, closes_of, ends, note, whole, overlapping, block, T, r, w, read, pair, room, refuses_in, accepts_in, rejects_in}

-- a trace, a level, the lengths of the three buffers, and the outcome
pub record Edge : Type 0 where
  pub bytes : List ℕ
  pub level : ℕ
  pub f : ℕ
  pub p : ℕ
  pub o : ℕ
  pub out : Outcome

abbrev edge : List ℕ → ℕ → ℕ → ℕ → ℕ → Outcome → Edge
edge b l f p o x = record { bytes = b; level = l; f = f; p = p; o = o; out = x }

-- with buffers of 16 bytes
abbrev refuses_at : List ℕ → ℕ → ℕ → Edge
refuses_at b n at = edge b 3 16 16 16 (refuses_in 16 16 16 n at)

abbrev accepts_at : ℕ → List ℕ → List ℕ → Edge
accepts_at l b x = edge b l 16 16 16 (accepts_in 16 16 16 x)

abbrev rejects_at : ℕ → List ℕ → List ℕ → List ℕ → Edge
rejects_at l b fs ps = edge b l 16 16 16 (rejects_in 16 16 16 fs ps)

-- T1 r1=5; T1 r2=7 w1=5, T2 r1=5 w2=7; T1 r1=0
abbrev P3 : List ℕ
P3 = whole 1 (T 1 (r 1 5 ∷ []))

abbrev P13 : List ℕ
P13 = whole 2 (T 1 (r 2 7 ∷ w 1 5 ∷ []) ++ T 2 (r 1 5 ∷ w 2 7 ∷ []))

abbrev P4 : List ℕ
P4 = whole 1 (T 1 (r 1 0 ∷ []))

-- T1 w1=5 aborted; T2 r1=5 r1=5
abbrev twice : List ℕ
twice = whole 2 (block 1 0 (w 1 5 ∷ []) ++ T 2 (r 1 5 ∷ r 1 5 ∷ []))

-- a note of two bytes, and one of none inside a transaction
abbrev noteful : List ℕ
noteful = trace 0 (note (7 ∷ 8 ∷ []) ∷ opens 1 ∷ note [] ∷ closes 1 ∷ ends 1 ∷ [])

abbrev pub edge_table : List Edge
edge_table =
    -- "after 4,294,967,295 comes 0": it passes, and 1 in its place is refused
    accepts_at 3 (trace 4294967295 (T 1 [] ++ (ends 1 ∷ []))) (0 ∷ 1 ∷ [])
    ∷ refuses_at (raw 8 1 4294967295 (bytes 2 1) ++ raw 7 4 1 (1 ∷ [])) 5 10
    -- notes of 0 and 64 bytes pass, also inside a transaction; one of 65 does not
    ∷ accepts_at 3 (trace 7 (note [] ∷ opens 1 ∷ note (room 64) ∷ closes 1 ∷ ends 1 ∷ [])) (0 ∷ 1 ∷ [])
    ∷ refuses_at (trace 0 (note (room 65) ∷ [])) 4 0
    ∷ accepts_at 3 noteful (0 ∷ 1 ∷ [])
    -- 1, then 2: levels 0 and 4 of a trace that is too long; 2, then 3
    ∷ edge (room 32769) 0 0 0 0 (refuses_in 0 0 0 1 0)
    ∷ edge (whole 0 []) 4 16 16 16 (refuses_in 16 16 16 1 0)
    ∷ refuses_at (room 32769) 2 32768
    ∷ refuses_at (room 32768) 3 0
    -- 3 for the length field, then 4: one byte, which says length 0
    ∷ refuses_at (0 ∷ []) 3 0
    -- 4 for a length below 6, then 3 for its bytes; a length of 6 passes that check
    ∷ refuses_at (bytes 2 5) 4 0
    ∷ refuses_at (bytes 2 6) 3 0
    -- 3 for missing bytes, then 5
    ∷ refuses_at (trace 0 (opens 1 ∷ []) ++ bytes 2 8 ++ bytes 2 4 ++ bytes 4 9) 3 10
    -- 5, then 6
    ∷ refuses_at (trace 0 (opens 1 ∷ []) ++ raw 8 9 7 (bytes 2 0)) 5 10
    -- 6, then 4 for the kind; kind 0
    ∷ refuses_at (raw 9 7 0 (0 ∷ 0 ∷ 0 ∷ [])) 6 0
    ∷ refuses_at (raw 6 0 0 []) 6 0
    -- 4 for the kind, then 7; each fixed length, one more and one less
    ∷ refuses_at (raw 19 2 0 (room 13)) 4 0
    ∷ refuses_at (raw 17 3 0 (room 11)) 4 0
    ∷ refuses_at (raw 9 1 0 (room 3)) 4 0
    ∷ refuses_at (raw 7 5 0 (0 ∷ [])) 4 0
    ∷ refuses_at (raw 6 4 0 []) 4 0
    -- 7, then 8: a write of 0 outside, a close with status 3 outside, a wrong end number inside
    ∷ refuses_at (trace 0 (w 1 0 ∷ [])) 7 0
    ∷ refuses_at (trace 0 (closes 3 ∷ [])) 7 0
    ∷ refuses_at (trace 0 (opens 1 ∷ ends 5 ∷ [])) 7 10
    -- 7: open inside, read outside
    ∷ refuses_at (trace 0 (opens 1 ∷ opens 2 ∷ [])) 7 10
    ∷ refuses_at (trace 0 (r 1 0 ∷ [])) 7 0
    -- 8: a written 0, status 3, where status 2 passes, a wrong end number
    ∷ refuses_at (trace 0 (opens 1 ∷ w 1 0 ∷ [])) 8 10
    ∷ refuses_at (trace 0 (opens 1 ∷ closes 3 ∷ [])) 8 10
    ∷ accepts_at 3 (whole 1 (block 1 2 [])) (0 ∷ [])
    ∷ refuses_at (whole 1 []) 8 0
    -- 10: a repeated write, in one transaction, and after an aborted one; another key or another value is none
    ∷ refuses_at (trace 0 (opens 1 ∷ w 1 5 ∷ w 1 5 ∷ [])) 10 30
    ∷ refuses_at (trace 0 (block 1 0 (w 1 5 ∷ []) ++ T 2 (w 1 5 ∷ []))) 10 49
    ∷ accepts_at 3 (whole 1 (T 1 (w 1 5 ∷ w 2 5 ∷ w 1 6 ∷ []))) (0 ∷ 1 ∷ [])
    -- 11: a byte after the end; 3: a record boundary without an end
    ∷ refuses_at (whole 0 [] ++ (7 ∷ [])) 11 10
    ∷ refuses_at (trace 0 (T 1 [])) 3 19
    -- 12, "6 bytes a finding", then 13, one byte short and exactly fitting; a rejection needs no order buffer
    ∷ edge P3 3 5 0 0 (refuses_in 5 0 0 12 6)
    ∷ edge P3 3 6 0 0 (rejects_in 6 0 0 (read 1 1 1 0) [])
    ∷ edge twice 3 11 0 0 (refuses_in 11 0 0 12 12)
    ∷ edge twice 3 12 0 0 (rejects_in 12 0 0 (read 2 2 2 1 ++ read 2 3 2 1) [])
    ∷ edge P13 3 0 7 0 (refuses_in 0 7 0 13 8)
    ∷ edge P13 3 0 8 0 (rejects_in 0 8 0 [] (pair 1 2 4 ++ pair 2 1 4))
    ∷ edge (whole 3 (T 1 (r 2 7 ∷ w 1 5 ∷ []) ++ T 2 (r 1 5 ∷ w 2 7 ∷ []) ++ T 3 (r 9 9 ∷ []))) 3 5 7 0 (refuses_in 5 7 0 12 6)
    -- 14 one byte short and exactly fitting; an acceptance needs no list buffers
    ∷ edge (whole 0 []) 3 0 0 0 (refuses_in 0 0 0 14 1)
    ∷ edge P4 3 0 0 1 (refuses_in 0 0 1 14 2)
    ∷ edge P4 3 0 0 2 (accepts_in 0 0 2 (0 ∷ 1 ∷ []))
    -- clean internal reads: of the only write, and of the last of two
    ∷ accepts_at 3 (whole 1 (T 1 (w 1 5 ∷ r 1 5 ∷ []))) (0 ∷ 1 ∷ [])
    ∷ accepts_at 3 (whole 1 (T 1 (w 1 5 ∷ w 1 6 ∷ r 1 6 ∷ w 1 7 ∷ []))) (0 ∷ 1 ∷ [])
    -- "which write was it?": of each kind one whose number is neither its transaction's nor the read's, before the read and, where it can be, behind it
    ∷ rejects_at 3 (whole 2 (block 1 0 (r 2 9 ∷ w 1 5 ∷ []) ++ T 2 (r 1 5 ∷ []))) (read 2 3 2 2) []
    ∷ rejects_at 3 (whole 2 (T 1 (r 1 5 ∷ []) ++ block 2 0 (w 2 7 ∷ w 1 5 ∷ []))) (read 1 1 2 3) []
    ∷ rejects_at 3 (whole 1 (T 1 (w 2 7 ∷ r 1 5 ∷ w 1 5 ∷ []))) (read 1 2 3 3) []
    ∷ rejects_at 3 (whole 1 (T 1 (w 2 7 ∷ w 1 5 ∷ w 1 6 ∷ r 1 5 ∷ []))) (read 1 4 4 2) []
    ∷ rejects_at 3 (whole 2 (T 1 (w 2 7 ∷ w 1 5 ∷ []) ++ T 2 (w 1 6 ∷ r 1 5 ∷ []))) (read 2 4 5 2) []
    ∷ rejects_at 3 (whole 2 (T 1 (w 1 6 ∷ r 1 5 ∷ []) ++ T 2 (w 1 5 ∷ []))) (read 1 2 5 3) []
    ∷ rejects_at 3 (whole 2 (T 1 (w 2 7 ∷ w 1 5 ∷ w 1 6 ∷ []) ++ T 2 (r 1 5 ∷ []))) (read 2 4 6 2) []
    ∷ rejects_at 3 (whole 2 (T 1 (r 1 5 ∷ []) ++ T 2 (w 2 7 ∷ w 1 5 ∷ w 1 6 ∷ []))) (read 1 1 6 3) []
    -- value 0 after an own write of the key, of another key, and before it
    ∷ rejects_at 3 (whole 1 (T 1 (w 1 5 ∷ r 1 0 ∷ []))) (read 1 2 5 0) []
    ∷ accepts_at 3 (whole 1 (T 1 (w 2 5 ∷ r 1 0 ∷ w 1 6 ∷ []))) (0 ∷ 1 ∷ [])
    -- a source that later wrote another key, or wrote the key before
    ∷ accepts_at 3 (whole 2 (T 1 (w 1 4 ∷ w 1 5 ∷ w 2 6 ∷ []) ++ T 2 (r 1 5 ∷ []))) (0 ∷ 1 ∷ 2 ∷ [])
    -- an aborted reader is not judged, and an aborted writer is no rival
    ∷ accepts_at 3 (whole 2 (T 1 (w 1 5 ∷ []) ++ block 2 0 (r 1 9 ∷ []))) (0 ∷ 1 ∷ [])
    ∷ accepts_at 3 (whole 2 (block 1 0 (w 1 5 ∷ []) ++ T 1 (r 1 0 ∷ []))) (0 ∷ 2 ∷ [])
    -- a session whose middle transaction aborted; a rival two transactions back in its session
    ∷ rejects_at 2 (whole 3 (T 1 (w 1 5 ∷ []) ++ block 1 0 [] ++ T 1 (r 1 0 ∷ []))) [] (pair 0 1 1 ++ pair 1 0 8)
    ∷ rejects_at 2 (whole 3 (T 1 (w 1 5 ∷ []) ++ T 1 [] ++ T 1 (r 1 0 ∷ []))) [] (pair 0 1 1 ++ pair 1 0 8)
    -- sums of reasons: session and read; start and read
    ∷ rejects_at 1 (whole 2 (T 1 (r 2 7 ∷ w 1 5 ∷ []) ++ T 1 (r 1 5 ∷ w 2 7 ∷ []))) [] (pair 1 2 6 ++ pair 2 1 4)
    ∷ rejects_at 2 (whole 2 (T 1 (r 2 0 ∷ w 1 5 ∷ []) ++ T 1 (r 1 0 ∷ []))) [] (pair 0 1 5 ++ pair 1 0 8)
    -- a reader that leads to itself is no rival of its own source
    ∷ rejects_at 3 (whole 2 (T 1 (r 2 7 ∷ w 1 5 ∷ w 2 8 ∷ []) ++ T 2 (r 1 5 ∷ w 2 7 ∷ []))) [] (pair 1 2 4 ++ pair 2 1 4)
    -- pairs are worked out over clean reads even when findings exist
    ∷ rejects_at 1 (whole 3 (T 1 (r 2 7 ∷ w 1 5 ∷ []) ++ T 2 (r 1 5 ∷ w 2 7 ∷ []) ++ T 3 (r 9 9 ∷ []))) (read 3 5 1 0) (pair 1 2 4 ++ pair 2 1 4)
    -- level 1: 0 is read from first, and 1 writes the key that is read from 2: a rival is earlier in the reader, not later
    ∷ accepts_at 1 (whole 2 (T 1 (w 1 5 ∷ w 2 7 ∷ []) ++ T 2 (r 1 0 ∷ r 2 7 ∷ []))) (0 ∷ 1 ∷ 2 ∷ [])
    ∷ rejects_at 1 (whole 2 (T 1 (w 1 5 ∷ w 2 7 ∷ []) ++ T 2 (r 2 7 ∷ r 1 0 ∷ []))) [] (pair 0 1 1 ++ pair 1 0 8)
    ∷ []

-- how an edge comes out
abbrev pub edge_found : Edge → Edge
edge_found c = edge c.bytes c.level c.f c.p c.o (judged c.bytes c.level (room c.f) (room c.p) (room c.o))

-- ── notes ──

-- a trace, and how many notes it had
pub record NoteCase : Type 0 where
  pub bytes : List ℕ
  pub number : ℕ

abbrev note_case : List ℕ → ℕ → NoteCase
note_case b n = record { bytes = b; number = n }

abbrev pub note_table : List NoteCase
note_table =
    -- none; outside and inside a transaction; two in a row, the first record and the last but one; the longest
    note_case (whole 1 (T 1 (w 1 5 ∷ []))) 0
    ∷ note_case noteful 2
    ∷ note_case (trace 9 (note [] ∷ note (6 ∷ []) ∷ opens 1 ∷ w 1 5 ∷ note [] ∷ closes 1 ∷ note [] ∷ ends 1 ∷ [])) 4
    ∷ note_case (trace 0 (note (room 64) ∷ ends 0 ∷ [])) 1
    -- edition 2 has none: the record that it begins with is no note
    ∷ note_case (overlapping 1 (opens 1 ∷ closes_of 1 1 ∷ [])) 0
    -- a trace that is refused, also behind its notes
    ∷ note_case [] 0
    ∷ note_case (noteful ++ (7 ∷ [])) 0
    ∷ []

abbrev pub notes_found : NoteCase → NoteCase
notes_found c = note_case c.bytes (notes_of (reading c.bytes))

-- ── the limits: 127 transactions and 1,024 operations, in states that have come so far ──

-- at the start of the bytes, n transactions closed, or one open with n operations, which write the values 1 to n to the key 1
abbrev pub closed_state : ℕ → State
closed_state n =
    record {
      at = 0;
      serial = 0;
      history = record { txs = listed 1 (n + 1) (λ i. record { session = i; status = 1 } ∷ []); ops = [] };
      notes = 0;
    }

abbrev pub open_state : ℕ → State
open_state n =
    record {
      at = 0;
      serial = 0;
      history = record {
        txs = record { session = 1; status = 3 } ∷ [];
        ops = listed 1 (n + 1) (λ i. record { tx = 1; is_write = true; key = 1; value = i } ∷ []);
      };
      notes = 0;
    }

-- a state, the event that comes, and the number of the row that refuses it, 0 for none
pub record Limit : Type 0 where
  pub state : State
  pub item : Item
  pub no : ℕ

abbrev limit : State → Item → ℕ → Limit
limit st i n = record { state = st; item = i; no = n }

abbrev pub limits : List Limit
limits =
    limit (closed_state 126) (opens 9) 0
    ∷ limit (closed_state 127) (opens 9) 9
    ∷ limit (open_state 1023) (r 1 5000) 0
    ∷ limit (open_state 1024) (r 1 5000) 9
    -- 8, then 9; 9, then 10; 10 alone
    ∷ limit (open_state 1024) (w 1 0) 8
    ∷ limit (open_state 1024) (w 1 1024) 9
    ∷ limit (open_state 1023) (w 1 1023) 10
    ∷ []

abbrev pub tested : Limit → Limit
tested c = limit c.state c.item (refusal_no (trace 0 (c.item ∷ [])) c.state)

-- ── operation numbers of two bytes ──

-- the open transaction of n writes reads v, which is not its last unless v is n, and commits
abbrev pub read_back : ℕ → ℕ → History
read_back n v = closed (with_op (open_state n).history (record { tx = 1; is_write = false; key = 1; value = v })) 1 1
