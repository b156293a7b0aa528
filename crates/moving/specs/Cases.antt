-- Request Five's cases: both directions with their bytes, what comes out unchanged, every way of being refused, and what becomes of operation numbers, orders,
-- pairs and findings; request Six's: how many notes there were; and request Eleven's: lists. As in document 01's tables: a table each, whose statement is in proofs/.
use Rattle.std.specs.Prelude.{ℕ, Bool, true, false, List, [], ◌∷◌, ◌++◌, map}
use Rattle.rules.specs.History.{History}
use Rattle.rules.specs.Traces.{Item, trace, opens, r, w, closes, ends, note, edition, r_of, w_of, closes_of, a_of, l_of, block, T, U, whole, overlapping, read, pair, room}
use Rattle.rules.specs.Cases.{Case, case, all, accepts_with, rejects_with}
use Rattle.writing.specs.Filling.{Fill}
use Rattle.writing.specs.Cases.{refused_in, filled_in}
use Rattle.moving.specs.Moving.{moved_to}
use Rattle.moving.specs.Tally.{moved_to_second}

-- ── traces ──

-- a block of edition 2, of session s with status c; a committed one
abbrev block_with : ℕ → ℕ → List Item → List Item
block_with s c l = opens s ∷ (l ++ (closes_of s c ∷ []))

abbrev TWith : ℕ → List Item → List Item
TWith s l = block_with s 1 l

-- P12: T1 w1=5; T2 r1=5 w2=7; T3 r2=7 r1=0, from the serial n on, in edition 1, in edition 2, and in edition 2 overlapping
abbrev P12 : ℕ → List ℕ
P12 n = trace n (T 1 (w 1 5 ∷ []) ++ T 2 (r 1 5 ∷ w 2 7 ∷ []) ++ T 3 (r 2 7 ∷ r 1 0 ∷ []) ++ (ends 3 ∷ []))

abbrev P12blocks : ℕ → List ℕ
P12blocks n = trace n (edition 2 ∷ (TWith 1 (w_of 1 1 5 ∷ []) ++ TWith 2 (r_of 2 1 5 ∷ w_of 2 2 7 ∷ []) ++ TWith 3 (r_of 3 2 7 ∷ r_of 3 1 0 ∷ []) ++ (ends 3 ∷ [])))

abbrev P12overlapping : ℕ → List ℕ
P12overlapping n =
    trace n
    (edition 2 ∷ opens 1 ∷ opens 2 ∷ opens 3 ∷ r_of 3 2 7 ∷ r_of 2 1 5 ∷ w_of 1 1 5 ∷ w_of 2 2 7 ∷ r_of 3 1 0 ∷ closes_of 3 1 ∷ closes_of 2 1 ∷ closes_of 1 1 ∷ ends 3 ∷ [])

-- two of one session around another's, the first aborted, the second unanswered
abbrev around_bytes : List ℕ
around_bytes =
    overlapping 3 (opens 9 ∷ opens 4 ∷ w_of 4 1 6 ∷ w_of 9 1 5 ∷ closes_of 9 0 ∷ opens 9 ∷ r_of 4 2 0 ∷ w_of 9 1 7 ∷ closes_of 4 1 ∷ r_of 9 1 6 ∷ closes_of 9 2 ∷ [])

abbrev around_blocks : List ℕ
around_blocks = whole 3 (block 9 0 (w 1 5 ∷ []) ++ T 4 (w 1 6 ∷ r 2 0 ∷ []) ++ block 9 2 (w 1 7 ∷ r 1 6 ∷ []))

-- an append, a list read of it and another of no values; single values before a list read, and an append behind it
abbrev appended : List ℕ
appended = overlapping 1 (opens 1 ∷ a_of 1 1 5 ∷ l_of 1 1 (5 ∷ []) ∷ l_of 1 2 [] ∷ closes_of 1 1 ∷ [])

abbrev read_first : List ℕ
read_first = overlapping 2 (opens 1 ∷ w_of 1 2 5 ∷ opens 2 ∷ r_of 2 2 5 ∷ l_of 2 1 [] ∷ a_of 1 1 7 ∷ closes_of 1 1 ∷ closes_of 2 0 ∷ [])

-- ── the bytes ──

-- to edition 2 or 1, the trace, the length of the buffer, and what comes of it
pub record MoveCase : Type 0 where
  pub second : Bool
  pub bytes : List ℕ
  pub room : ℕ
  pub out : Fill

abbrev move_case : Bool → List ℕ → ℕ → Fill → MoveCase
move_case x s o f = record { second = x; bytes = s; room = o; out = f }

-- with 250 bytes
abbrev comes : Bool → List ℕ → List ℕ → MoveCase
comes x s l = move_case x s 250 (filled_in 250 l)

abbrev pub move_table : List MoveCase
move_table =
    -- P1, end only, both ways: the kind 16 record takes the first serial, and gives it back
    comes true (whole 0 []) (trace 0 (edition 2 ∷ ends 0 ∷ []))
    ∷ comes false (trace 7 (edition 2 ∷ ends 0 ∷ [])) (trace 7 (ends 0 ∷ []))
    -- P12 to edition 2 and back; overlapping ones become blocks in order of opening, whatever the order of closing
    ∷ comes true (P12 0) (P12blocks 0)
    ∷ comes false (P12blocks 0) (P12 0)
    ∷ comes false (P12overlapping 0) (P12 0)
    -- "The first serial is kept and the rest follow it": also over 4,294,967,295
    ∷ comes true (P12 4294967290) (P12blocks 4294967290)
    ∷ comes false (P12overlapping 4294967295) (P12 4294967295)
    -- statuses are kept, a session's next transaction stays apart, a transaction may have no operations
    ∷ comes false around_bytes around_blocks
    ∷ comes true (whole 2 (U 5 (w 1 5 ∷ []) ++ block 5 0 [])) (overlapping 2 (block_with 5 2 (w_of 5 1 5 ∷ []) ++ block_with 5 0 []))
    -- "Every key, session number and read value is lawful"
    ∷ comes true (whole 1 (T 65535 (w 4294967295 18446744073709551615 ∷ []))) (overlapping 1 (TWith 65535 (w_of 65535 4294967295 18446744073709551615 ∷ [])))
    -- "Notes are left out": inside, outside and first; the first one's serial is the first
    ∷ comes true (trace 5 (note (7 ∷ []) ∷ opens 1 ∷ note [] ∷ w 1 5 ∷ closes 1 ∷ note (0 ∷ 0 ∷ []) ∷ ends 1 ∷ []))
    (trace 5 (edition 2 ∷ opens 1 ∷ w_of 1 1 5 ∷ closes_of 1 1 ∷ ends 1 ∷ []))
    -- "A trace already in the wanted edition comes out unchanged, notes too."
    ∷ comes false (trace 5 (note (7 ∷ []) ∷ opens 1 ∷ note [] ∷ closes 1 ∷ ends 1 ∷ [])) (trace 5 (note (7 ∷ []) ∷ opens 1 ∷ note [] ∷ closes 1 ∷ ends 1 ∷ []))
    ∷ comes true (P12overlapping 3) (P12overlapping 3)
    -- "01's for the input", with its own places, of either edition, also where it is of the wanted one; and before 16
    ∷ move_case true [] 250 (refused_in 250 3 0)
    ∷ move_case false [] 250 (refused_in 250 3 0)
    ∷ move_case true (trace 0 (opens 1 ∷ ends 1 ∷ [])) 0 (refused_in 0 7 10)
    ∷ move_case false (trace 0 (opens 1 ∷ ends 1 ∷ [])) 0 (refused_in 0 7 10)
    ∷ move_case false (overlapping 1 (opens 1 ∷ w_of 2 1 5 ∷ closes_of 1 1 ∷ [])) 250 (refused_in 250 7 20)
    ∷ move_case true (overlapping 1 (opens 1 ∷ w_of 2 1 5 ∷ closes_of 1 1 ∷ [])) 0 (refused_in 0 7 20)
    ∷ move_case false (trace 0 (edition 3 ∷ ends 0 ∷ [])) 250 (refused_in 250 8 0)
    ∷ move_case true (P12 0 ++ (7 ∷ [])) 250 (refused_in 250 11 167)
    -- "then 16 for the output", one byte short and exactly fitting: moved to 2, moved to 1, unchanged
    ∷ move_case true (P12 0) 192 (refused_in 192 16 193)
    ∷ move_case true (P12 0) 193 (filled_in 193 (P12blocks 0))
    ∷ move_case false (P12overlapping 0) 166 (refused_in 166 16 167)
    ∷ move_case false (P12overlapping 0) 167 (filled_in 167 (P12 0))
    ∷ move_case false (P12 0) 166 (refused_in 166 16 167)
    ∷ move_case true (P12overlapping 0) 192 (refused_in 192 16 193)
    -- "20, list kinds in a move to edition 1, place the first such record, before 16": an append, a list read
    ∷ move_case false appended 250 (refused_in 250 20 20)
    ∷ move_case false read_first 250 (refused_in 250 20 74)
    ∷ move_case false read_first 0 (refused_in 0 20 74)
    -- to edition 2 such a trace comes out unchanged
    ∷ comes true appended appended
    ∷ comes true read_first read_first
    -- "17, a key with single values and lists" is a refusal for the input
    ∷ move_case false (overlapping 1 (opens 1 ∷ a_of 1 1 5 ∷ w_of 1 1 6 ∷ closes_of 1 1 ∷ [])) 250 (refused_in 250 17 42)
    ∷ move_case true (overlapping 1 (opens 1 ∷ w_of 1 1 6 ∷ l_of 1 1 [] ∷ closes_of 1 1 ∷ [])) 250 (refused_in 250 17 42)
    ∷ []

abbrev pub now_moved : MoveCase → MoveCase
now_moved c = move_case c.second c.bytes c.room (moved_to c.second c.bytes (room c.room))

-- ── the notes ──

-- a trace, the length of the buffer, and how many notes a move to edition 2 then answers
pub record TallyCase : Type 0 where
  pub bytes : List ℕ
  pub room : ℕ
  pub notes : ℕ

abbrev tally_case : List ℕ → ℕ → ℕ → TallyCase
tally_case s o n = record { bytes = s; room = o; notes = n }

-- T1 w1=5 with a note before it, two inside and one behind it
abbrev noteful : List ℕ
noteful = trace 5 (note (7 ∷ []) ∷ opens 1 ∷ note [] ∷ w 1 5 ∷ note (1 ∷ 2 ∷ 3 ∷ []) ∷ closes 1 ∷ note [] ∷ ends 1 ∷ [])

abbrev pub tally_table : List TallyCase
tally_table =
    tally_case (P12 0) 250 0
    ∷ tally_case noteful 250 4
    -- the longest text and the shortest
    ∷ tally_case (trace 0 (note (room 64) ∷ ends 0 ∷ [])) 250 1
    ∷ tally_case (trace 0 (note [] ∷ ends 0 ∷ [])) 250 1
    -- a trace that is edition 2 already
    ∷ tally_case (P12overlapping 3) 250 0
    -- refused, for its own sake and for the buffer's, which would have needed 63 bytes: none is told
    ∷ tally_case (noteful ++ (7 ∷ [])) 250 0
    ∷ tally_case noteful 62 0
    ∷ tally_case noteful 63 4
    ∷ []

abbrev pub now_tallied : TallyCase → TallyCase
now_tallied c = tally_case c.bytes c.room (moved_to_second c.bytes (room c.room)).notes

-- ── the numbers ──

-- operations of transactions 2, 1, 2, 3 and 1: what number each gets, and which each was; 0 stays
abbrev pub interleaved : History
interleaved =
    record {
      txs = map (λ (s : ℕ). record { session = s; status = 1 }) (7 ∷ 8 ∷ 9 ∷ []);
      ops = map (λ (t : ℕ). record { tx = t; is_write = false; key = 0; value = 0 }) (2 ∷ 1 ∷ 2 ∷ 3 ∷ 1 ∷ []);
    }

-- ── before and after ──

-- T1 w1=5 w1=6 r3=8 and T2 r1=5, which reads first; as blocks
abbrev pub unclean_bytes : List ℕ
unclean_bytes = overlapping 2 (opens 1 ∷ opens 2 ∷ r_of 2 1 5 ∷ w_of 1 1 5 ∷ w_of 1 1 6 ∷ r_of 1 3 8 ∷ closes_of 2 1 ∷ closes_of 1 1 ∷ [])

abbrev pub unclean_blocks : List ℕ
unclean_blocks = whole 2 (T 1 (w 1 5 ∷ w 1 6 ∷ r 3 8 ∷ []) ++ T 2 (r 1 5 ∷ []))

abbrev pub judged_table : List Case
judged_table =
    -- the findings get other numbers, and so another order; transactions and kinds stay
    all unclean_bytes (rejects_with (read 2 1 6 2 ++ read 1 4 1 0) [])
    ∷ all unclean_blocks (rejects_with (read 1 3 1 0 ++ read 2 4 6 1) [])
    -- an order with an aborted and an unanswered transaction
    ∷ all around_bytes (accepts_with (0 ∷ 2 ∷ []))
    ∷ all around_blocks (accepts_with (0 ∷ 2 ∷ []))
    -- pairs
    ∷ case (P12overlapping 0) (accepts_with (0 ∷ 1 ∷ 2 ∷ 3 ∷ [])) (accepts_with (0 ∷ 1 ∷ 2 ∷ 3 ∷ [])) (rejects_with [] (pair 0 1 9 ++ pair 1 0 8))
    ∷ case (P12blocks 0) (accepts_with (0 ∷ 1 ∷ 2 ∷ 3 ∷ [])) (accepts_with (0 ∷ 1 ∷ 2 ∷ 3 ∷ [])) (rejects_with [] (pair 0 1 9 ++ pair 1 0 8))
    ∷ []
