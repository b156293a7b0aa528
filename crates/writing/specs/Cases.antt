-- Request One's cases: every refusal with its place, every two neighbours in the order of checks broken at once, the limits by their states, a wrap, buffers
-- one byte short and exactly fitting, and P1, P12 and case 16 made from steps, turned into steps and written again. As in document 01's tables: a table
-- each, whose statement is in proofs/.
use Rattle.std.specs.Prelude.{ℕ, ◌-◌, List, [], ◌∷◌, ◌++◌, map, length, get_or, take}
use Rattle.base.specs.Base.{joined}
use Rattle.rules.specs.Numbers.{bytes}
use Rattle.rules.specs.History.{History}
use Rattle.rules.specs.Traces.{whole, overlapping, trace, opens, closes, ends, note, edition, r_of, w_of, closes_of, a_of, l_of, T, U, r, w, room}
use Rattle.rules.specs.Cases.{Case, table}
use Rattle.rules.specs.Edges.{closed_state, open_state}
use Rattle.rules.specs.declared.Event.{Event}
use Rattle.rules.specs.declared.Event.TheVariants.{Open, Read, Write, Close}
use Rattle.writing.specs.Filling.{Fill, fill_of, refusing, answering}
use Rattle.writing.specs.Steps.{field_bytes, step_bytes}
use Rattle.writing.specs.Writing.{write_no, written, written_given}
use Rattle.writing.specs.Listing.{stepped}
use Rattle.writing.specs.Rewriting.{rewritten, rewritten_whole}

-- ── in words ──

-- steps as bytes; any sixteen
abbrev steps : List Event → List ℕ
steps = joined step_bytes

abbrev step : ℕ → ℕ → ℕ → ℕ → List ℕ
step = field_bytes

-- the bytes of document 01's case that stands behind k others
abbrev case_bytes : ℕ → List ℕ
case_bytes k = get_or (map (λ (c : Case). c.bytes) table) k []

-- P1, P12 and case 16 as steps
abbrev P12 : List Event
P12 =
    Open 1 ∷ Write 1 5 ∷ Close 1 ∷ Open 2 ∷ Read 1 5 ∷ Write 2 7 ∷ Close 1 ∷ Open 3 ∷ Read 2 7 ∷ Read 1 0 ∷ Close 1 ∷ []

abbrev case16 : List Event
case16 =
    Open 1 ∷ Write 1 11 ∷ Write 2 21 ∷ Close 1 ∷ Open 2 ∷ Write 1 12 ∷ Write 2 22 ∷ Close 1 ∷ Open 3 ∷ Read 1 12 ∷ Read 2 21 ∷ Close 1 ∷ []

-- refused, with a buffer of n bytes; filled with l
abbrev pub refused_in : ℕ → ℕ → ℕ → Fill
refused_in n m at = fill_of (refusing m at) (room n)

abbrev pub filled_in : ℕ → List ℕ → Fill
filled_in n l = fill_of (answering (length l)) (l ++ room (n - length l))

-- ── writing ──

-- steps, a starting serial, the length of the buffer, and what comes of them
pub record WriteCase : Type 0 where
  pub steps : List ℕ
  pub serial : ℕ
  pub room : ℕ
  pub out : Fill

abbrev write_case : List ℕ → ℕ → ℕ → Fill → WriteCase
write_case s n o x = record { steps = s; serial = n; room = o; out = x }

-- with 200 bytes, from serial 0 on
abbrev refuses : List ℕ → ℕ → ℕ → WriteCase
refuses s m at = write_case s 0 200 (refused_in 200 m at)

abbrev pub write_table : List WriteCase
write_table =
    -- P1, P12 and case 16: the bytes of document 01's table
    write_case [] 0 200 (filled_in 200 (case_bytes 0))
    ∷ write_case (steps P12) 0 200 (filled_in 200 (case_bytes 11))
    ∷ write_case (steps case16) 0 200 (filled_in 200 (case_bytes 15))
    -- "after 4,294,967,295 comes 0"
    ∷ write_case (steps (Open 7 ∷ Close 0 ∷ [])) 4294967295 40 (filled_in 40 (trace 4294967295 (opens 7 ∷ closes 0 ∷ ends 1 ∷ [])))
    -- "fields that a kind does not use are not looked at"
    ∷ write_case (step 1 3 9 9 ++ step 2 9 4 0 ++ step 3 9 4 5 ++ step 4 1 9 9) 8 100 (filled_in 100 (trace 8 (opens 3 ∷ r 4 0 ∷ w 4 5 ∷ closes 1 ∷ ends 1 ∷ [])))
    -- 6: kinds 0, 5, 6, 7, 16, 23, 24 and 257; a rest of 1 and of 15 bytes
    ∷ refuses (step 0 0 0 0) 6 1
    ∷ refuses (steps (Open 1 ∷ Close 1 ∷ []) ++ step 5 1 0 0) 6 3
    ∷ refuses (steps (Open 1 ∷ []) ++ step 6 0 0 0) 6 2
    ∷ refuses (step 7 0 0 0) 6 1
    ∷ refuses (step 16 2 0 0) 6 1
    ∷ refuses (steps (Open 1 ∷ []) ++ step 23 1 1 5) 6 2
    ∷ refuses (steps (Open 1 ∷ []) ++ step 24 1 1 0) 6 2
    ∷ refuses (step 257 0 0 0) 6 1
    ∷ refuses (steps (Open 1 ∷ Close 1 ∷ []) ++ (1 ∷ [])) 6 3
    ∷ refuses (take 15 (steps (Open 1 ∷ []))) 6 1
    -- 6, then 7: a rest that begins as an open, inside a transaction; an end there. It is its turn that counts
    ∷ refuses (steps (Open 1 ∷ []) ++ take 15 (steps (Open 2 ∷ []))) 6 2
    ∷ refuses (steps (Open 1 ∷ []) ++ step 5 1 0 0) 6 2
    ∷ refuses (steps (Read 1 0 ∷ []) ++ step 5 1 0 0) 7 1
    -- 7: open inside; read, write and close outside; the end inside, with the number of steps plus one
    ∷ refuses (steps (Open 1 ∷ Open 2 ∷ [])) 7 2
    ∷ refuses (steps (Read 1 0 ∷ [])) 7 1
    ∷ refuses (steps (Open 1 ∷ Close 1 ∷ Write 1 5 ∷ [])) 7 3
    ∷ refuses (steps (Close 1 ∷ [])) 7 1
    ∷ refuses (steps (Open 1 ∷ Write 1 5 ∷ [])) 7 3
    -- 7, then 8: a write of 0 and a close with status 3, outside
    ∷ refuses (steps (Write 1 0 ∷ [])) 7 1
    ∷ refuses (steps (Close 3 ∷ [])) 7 1
    -- 8: a written 0; statuses 3 and 256, where "unanswered", 2, is written
    ∷ refuses (steps (Open 1 ∷ Write 1 0 ∷ [])) 8 2
    ∷ refuses (steps (Open 1 ∷ Close 3 ∷ [])) 8 2
    ∷ refuses (steps (Open 1 ∷ Close 256 ∷ [])) 8 2
    ∷ write_case (steps (Open 1 ∷ Write 1 5 ∷ Close 2 ∷ [])) 0 100 (filled_in 100 (whole 1 (U 1 (w 1 5 ∷ []))))
    -- 10: a repeated write, in one transaction and after an aborted one; another key or another value is none
    ∷ refuses (steps (Open 1 ∷ Write 1 5 ∷ Write 1 5 ∷ [])) 10 3
    ∷ refuses (steps (Open 1 ∷ Write 1 5 ∷ Close 0 ∷ Open 1 ∷ Write 1 5 ∷ [])) 10 5
    ∷ write_case (steps (Open 1 ∷ Write 1 5 ∷ Write 2 5 ∷ Write 1 6 ∷ Close 1 ∷ [])) 0 100 (filled_in 100 (whole 1 (T 1 (w 1 5 ∷ w 2 5 ∷ w 1 6 ∷ []))))
    -- each of them, then 16: a bad step and the end inside, without a buffer
    ∷ write_case (steps (Open 1 ∷ Write 1 5 ∷ Write 1 5 ∷ [])) 0 0 (refused_in 0 10 3)
    ∷ write_case (steps (Open 1 ∷ [])) 0 0 (refused_in 0 7 2)
    -- 16 one byte short, and exactly fitting
    ∷ write_case [] 0 9 (refused_in 9 16 10)
    ∷ write_case [] 0 10 (filled_in 10 (case_bytes 0))
    ∷ write_case (steps case16) 0 186 (refused_in 186 16 187)
    ∷ write_case (steps case16) 0 187 (filled_in 187 (case_bytes 15))
    ∷ []

abbrev pub now_written : WriteCase → WriteCase
now_written c = write_case c.steps c.serial c.room (written c.steps c.serial (room c.room))

-- ── the limits: 127 transactions and 1,024 operations, in histories that have come so far ──

-- those of document 01's limits: n transactions closed, or one open with n operations, which write the values 1 to n to the key 1
abbrev closed_so_far : ℕ → History
closed_so_far n = (closed_state n).history

abbrev open_so_far : ℕ → History
open_so_far n = (open_state n).history

-- a history, the step that comes, and the number of the row that refuses it, 0 for none
pub record BoundCase : Type 0 where
  pub history : History
  pub step : Event
  pub no : ℕ

abbrev bound_case : History → Event → ℕ → BoundCase
bound_case h e n = record { history = h; step = e; no = n }

abbrev pub bounds : List BoundCase
bounds =
    bound_case (closed_so_far 126) (Open 9) 0
    ∷ bound_case (closed_so_far 127) (Open 9) 9
    ∷ bound_case (open_so_far 1023) (Read 1 5000) 0
    ∷ bound_case (open_so_far 1024) (Read 1 5000) 9
    -- 8, then 9; 9, then 10
    ∷ bound_case (open_so_far 1024) (Write 1 0) 8
    ∷ bound_case (open_so_far 1024) (Write 1 1024) 9
    ∷ bound_case (open_so_far 1023) (Write 1 1023) 10
    ∷ []

abbrev pub now_bound : BoundCase → BoundCase
now_bound c = bound_case c.history c.step (write_no c.history c.step)

-- ── a trace turned into steps, and written again ──

-- a trace, the length of the buffer, the steps, and what it is written as with 200 bytes for its steps and 200 for the trace
pub record ListCase : Type 0 where
  pub bytes : List ℕ
  pub room : ℕ
  pub out : Fill
  pub again : Fill

abbrev list_case : List ℕ → ℕ → Fill → Fill → ListCase
list_case s o x y = record { bytes = s; room = o; out = x; again = y }

abbrev pub list_table : List ListCase
list_table =
    -- P1, P12 and case 16: their own bytes
    list_case (case_bytes 0) 0 (filled_in 0 []) (filled_in 200 (case_bytes 0))
    ∷ list_case (case_bytes 11) 200 (filled_in 200 (steps P12)) (filled_in 200 (case_bytes 11))
    ∷ list_case (case_bytes 15) 200 (filled_in 200 (steps case16)) (filled_in 200 (case_bytes 15))
    -- a first serial, and its wrap
    ∷ list_case (trace 4294967294 (T 7 (r 4 0 ∷ []) ++ (ends 1 ∷ []))) 48 (filled_in 48 (steps (Open 7 ∷ Read 4 0 ∷ Close 1 ∷ [])))
    (filled_in 200 (trace 4294967294 (T 7 (r 4 0 ∷ []) ++ (ends 1 ∷ []))))
    -- notes are left out, and the serials follow the first
    ∷ list_case (trace 5 (note (7 ∷ []) ∷ opens 1 ∷ note [] ∷ closes 0 ∷ ends 1 ∷ [])) 40 (filled_in 40 (steps (Open 1 ∷ Close 0 ∷ [])))
    (filled_in 200 (trace 5 (opens 1 ∷ closes 0 ∷ ends 1 ∷ [])))
    -- an unanswered close stays one
    ∷ list_case (whole 1 (U 1 (w 1 5 ∷ []))) 48 (filled_in 48 (steps (Open 1 ∷ Write 1 5 ∷ Close 2 ∷ []))) (filled_in 200 (whole 1 (U 1 (w 1 5 ∷ []))))
    -- 2 to 11, with the trace's own places
    ∷ list_case [] 200 (refused_in 200 3 0) (refused_in 200 3 0)
    ∷ list_case (trace 0 (opens 1 ∷ ends 1 ∷ [])) 0 (refused_in 0 7 10) (refused_in 200 7 10)
    ∷ list_case (case_bytes 0 ++ (7 ∷ [])) 200 (refused_in 200 11 10) (refused_in 200 11 10)
    -- 16 one byte short, and exactly fitting
    ∷ list_case (case_bytes 15) 191 (refused_in 191 16 192) (filled_in 200 (case_bytes 15))
    ∷ list_case (case_bytes 15) 192 (filled_in 192 (steps case16)) (filled_in 200 (case_bytes 15))
    -- edition 2 has no steps: 6 at its first record, also where its transactions do not overlap, or it has lists, and before 16
    ∷ list_case (overlapping 1 (opens 1 ∷ w_of 1 1 5 ∷ closes_of 1 1 ∷ [])) 200 (refused_in 200 6 0) (refused_in 200 6 0)
    ∷ list_case (overlapping 2 (opens 1 ∷ opens 2 ∷ w_of 1 1 5 ∷ r_of 2 1 5 ∷ closes_of 2 1 ∷ closes_of 1 1 ∷ [])) 0 (refused_in 0 6 0) (refused_in 200 6 0)
    ∷ list_case (overlapping 1 (opens 1 ∷ a_of 1 1 5 ∷ l_of 1 1 (5 ∷ []) ∷ closes_of 1 1 ∷ [])) 200 (refused_in 200 6 0) (refused_in 200 6 0)
    -- one that is refused keeps its own number and place, 17 too
    ∷ list_case (overlapping 1 (opens 1 ∷ w_of 2 1 5 ∷ closes_of 1 1 ∷ [])) 200 (refused_in 200 7 20) (refused_in 200 7 20)
    ∷ list_case (trace 0 (edition 3 ∷ ends 0 ∷ [])) 200 (refused_in 200 8 0) (refused_in 200 8 0)
    ∷ list_case (overlapping 1 (opens 1 ∷ a_of 1 1 5 ∷ w_of 1 1 6 ∷ closes_of 1 1 ∷ [])) 200 (refused_in 200 17 42) (refused_in 200 17 42)
    ∷ []

abbrev pub now_listed : ListCase → ListCase
now_listed c = list_case c.bytes c.room (stepped c.bytes (room c.room)) (rewritten c.bytes (room 200) (room 200))

-- the same, where the steps' buffer is not lent
abbrev pub now_whole : ListCase → ListCase
now_whole c = list_case c.bytes c.room c.out (rewritten_whole c.bytes (room 200))

-- ── a serial and steps in one ──

pub record GivenCase : Type 0 where
  pub bytes : List ℕ
  pub out : Fill

abbrev given_case : List ℕ → Fill → GivenCase
given_case g x = record { bytes = g; out = x }

abbrev pub given_table : List GivenCase
given_table =
    -- no serial: 3, at the first byte
    given_case [] (refused_in 200 3 0)
    ∷ given_case (0 ∷ 0 ∷ 0 ∷ []) (refused_in 200 3 0)
    ∷ given_case (bytes 4 7) (filled_in 200 (trace 7 (ends 0 ∷ [])))
    ∷ given_case (bytes 4 4294967295 ++ steps (Open 7 ∷ Close 0 ∷ [])) (filled_in 200 (trace 4294967295 (opens 7 ∷ closes 0 ∷ ends 1 ∷ [])))
    ∷ given_case (bytes 4 0 ++ (1 ∷ [])) (refused_in 200 6 1)
    ∷ []

abbrev pub now_given : GivenCase → GivenCase
now_given c = given_case c.bytes (written_given c.bytes (room 200))
