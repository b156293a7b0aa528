-- Cases of lists, from bytes: a table, whose statement is in proofs/.
use Rattle.std.specs.Prelude.{ℕ, ◌+◌, ◌/◌, List, [], ◌∷◌, ◌++◌, length}
use Rattle.base.specs.Base.{joined}
use Rattle.rules.specs.Numbers.{bytes}
use Rattle.rules.specs.Traces.{Item, item, opens, r_of, w_of, closes_of, overlapping, room, read, pair}
use Rattle.appends_rules.specs.ListOutcome.{ListOutcome, list_outcome, lists_refused, lists_told, judged_lists}

-- an append and a list read of session s: `a1=5`, `l1=5,6`
abbrev a : ℕ → ℕ → ℕ → Item
a s x v = item 23 (bytes 2 s ++ bytes 4 x ++ bytes 8 v)

abbrev l : ℕ → ℕ → List ℕ → Item
l s x vs = item 24 (bytes 2 s ++ bytes 4 x ++ bytes 2 (length vs) ++ joined (bytes 8) vs)

-- transactions n, n + 1, .. with these statuses open and close, each in the session of its number
unfoldable pub opens_from : ℕ → List ℕ → List Item
opens_from n [] = []
opens_from n (c ∷ cs) = opens n ∷ opens_from (n + 1) cs

unfoldable pub closes_from : ℕ → List ℕ → List Item
closes_from n [] = []
closes_from n (c ∷ cs) = closes_of n c ∷ closes_from (n + 1) cs

-- transactions 1, 2, .. are all open while these records come
abbrev amid : List ℕ → List Item → List ℕ
amid cs is = overlapping (length cs) (opens_from 1 cs ++ is ++ closes_from 1 cs)

-- a trace, and what is answered with buffers of f and p bytes
pub record AppendCase : Type 0 where
  pub bytes : List ℕ
  pub f : ℕ
  pub p : ℕ
  pub out : ListOutcome

-- findings, pairs over write dependencies and over both, each buffer being two bytes longer than they are
abbrev comes : List ℕ → List Item → List ℕ → List ℕ → List ℕ → AppendCase
comes cs is fs ws bs =
    record {
      bytes = amid cs is;
      f = length fs + 2;
      p = length (ws ++ bs) + 2;
      out = list_outcome (lists_told (length fs / 6) (length ws / 4) (length bs / 4)) (fs ++ room 2) ((ws ++ bs) ++ room 2);
    }

-- a refusal
abbrev stops : List ℕ → List Item → ℕ → ℕ → ℕ → ℕ → AppendCase
stops cs is f p n at = record { bytes = amid cs is; f = f; p = p; out = list_outcome (lists_refused n at) (room f) (room p) }

-- G0: T1 a1=1 a2=3; T2 a1=2 a2=4; T3 l1=1,2 l2=4,3. G1c: T1 a1=1 l2=2; T2 a2=2 l1=1
abbrev dirty_writes : List Item
dirty_writes = a 1 1 1 ∷ a 1 2 3 ∷ a 2 1 2 ∷ a 2 2 4 ∷ l 3 1 (1 ∷ 2 ∷ []) ∷ l 3 2 (4 ∷ 3 ∷ []) ∷ []

abbrev circular : List Item
circular = a 1 1 1 ∷ l 1 2 (2 ∷ []) ∷ a 2 2 2 ∷ l 2 1 (1 ∷ []) ∷ []

abbrev pub append_table : List AppendCase
append_table =
    -- no list; an empty one; an empty one after a longer one
    comes [] [] [] [] []
    ∷ comes (1 ∷ []) (l 1 1 [] ∷ []) [] [] []
    ∷ comes (1 ∷ 1 ∷ []) (a 1 1 5 ∷ l 1 1 (5 ∷ []) ∷ l 2 1 [] ∷ []) [] [] []
    -- 7: never appended; the value 0; to another key; written, not appended
    ∷ comes (1 ∷ []) (l 1 1 (5 ∷ []) ∷ []) (read 1 1 7 0) [] []
    ∷ comes (1 ∷ []) (l 1 1 (0 ∷ []) ∷ []) (read 1 1 7 0) [] []
    ∷ comes (1 ∷ []) (a 1 2 5 ∷ w_of 1 3 6 ∷ l 1 1 (5 ∷ []) ∷ l 1 4 (6 ∷ []) ∷ []) (read 1 3 7 0 ++ read 1 4 7 0) [] []
    -- 8: T1 a1=4 a1=5; T2 l1=4,5,5
    ∷ comes (1 ∷ 1 ∷ []) (a 1 1 4 ∷ a 1 1 5 ∷ l 2 1 (4 ∷ 5 ∷ 5 ∷ []) ∷ []) (read 2 3 8 2) [] []
    -- 9, G1a: T1 a1=5 aborted; T2 l1=5
    ∷ comes (0 ∷ 1 ∷ []) (a 1 1 5 ∷ l 2 1 (5 ∷ []) ∷ []) (read 2 2 9 1) [] []
    -- 10, G1b: T1 a1=5 a1=6; T2 l1=5; its own reader reads it cleanly
    ∷ comes (1 ∷ 1 ∷ []) (a 1 1 5 ∷ l 1 1 (5 ∷ []) ∷ a 1 1 6 ∷ l 2 1 (5 ∷ []) ∷ []) (read 2 4 10 1) [] []
    -- 11, incompatible orders: T1 a1=5; T2 a1=6; T3 l1=5,6; T4 l1=6,5
    ∷ comes (1 ∷ 1 ∷ 1 ∷ 1 ∷ []) (a 1 1 5 ∷ a 2 1 6 ∷ l 3 1 (5 ∷ 6 ∷ []) ∷ l 4 1 (6 ∷ 5 ∷ []) ∷ []) (read 4 4 11 0) [] []
    -- .. of another key, or of one that is unclean itself, is none
    ∷ comes (1 ∷ 1 ∷ 1 ∷ []) (a 1 1 5 ∷ a 2 2 6 ∷ l 3 1 (5 ∷ []) ∷ l 3 2 (6 ∷ []) ∷ []) [] [] []
    ∷ comes (1 ∷ 1 ∷ 1 ∷ 1 ∷ []) (a 1 1 5 ∷ a 2 1 6 ∷ l 3 1 (6 ∷ 5 ∷ 6 ∷ []) ∷ l 4 1 (5 ∷ 6 ∷ []) ∷ []) (read 3 3 8 2) [] []
    -- each two kinds at once, the first of which is answered. T1, aborted, a1=5; T2 a1=6 a1=7; T3 a1=8 and reads, l1=7 cleanly
    ∷ comes (0 ∷ 1 ∷ 1 ∷ [])
    (a 1 1 5 ∷ a 2 1 6 ∷ a 2 1 7 ∷ a 3 1 8 ∷ l 3 1 (7 ∷ []) ∷ l 3 1 (7 ∷ 7 ∷ 9 ∷ []) ∷ l 3 1 (7 ∷ 5 ∷ 9 ∷ []) ∷ l 3 1 (7 ∷ 9 ∷ 6 ∷ [])
    ∷ l 3 1 (9 ∷ []) ∷ l 3 1 (7 ∷ 5 ∷ 5 ∷ []) ∷ l 3 1 (7 ∷ 6 ∷ 6 ∷ []) ∷ l 3 1 (8 ∷ 8 ∷ []) ∷ l 3 1 (7 ∷ 5 ∷ 6 ∷ []) ∷ l 3 1 (5 ∷ []) ∷ l 3 1 (6 ∷ []) ∷ [])
    (read 3 6 7 0 ++ read 3 7 7 0 ++ read 3 8 7 0 ++ read 3 9 7 0 ++ read 3 10 8 1 ++ read 3 11 8 2 ++ read 3 12 8 4 ++ read 3 13 9 1 ++ read 3 14 9 1
    ++ read 3 15 10 2) [] []
    -- a cycle over write dependencies alone; the same with T2 unanswered, which takes part in the pairs; an unanswered reader is not judged
    ∷ comes (1 ∷ 1 ∷ 1 ∷ []) dirty_writes [] (pair 1 2 16 ++ pair 2 1 16) (pair 1 2 16 ++ pair 2 1 16)
    ∷ comes (1 ∷ 2 ∷ 1 ∷ []) dirty_writes [] (pair 1 2 16 ++ pair 2 1 16) (pair 1 2 16 ++ pair 2 1 16)
    ∷ comes (2 ∷ 1 ∷ []) (a 1 1 5 ∷ l 1 1 (9 ∷ []) ∷ l 2 1 (5 ∷ []) ∷ []) [] [] []
    -- one that needs reads
    ∷ comes (1 ∷ 1 ∷ []) circular [] [] (pair 1 2 4 ++ pair 2 1 4)
    -- one that needs a read, both reasons on one pair: T1 a1=1 l2=7; T2 a1=2 a2=7 l1=1; T3 l1=1,2, the longest in a later read
    ∷ comes (1 ∷ 1 ∷ 1 ∷ []) (a 1 1 1 ∷ l 1 2 (7 ∷ []) ∷ a 2 2 7 ∷ l 2 1 (1 ∷ []) ∷ a 2 1 2 ∷ l 3 1 (1 ∷ 2 ∷ []) ∷ []) [] []
    (pair 1 2 20 ++ pair 2 1 4)
    -- 12, then 13, one byte short; 17 before them
    ∷ stops (1 ∷ []) (l 1 1 (5 ∷ []) ∷ []) 5 0 12 6
    ∷ stops (1 ∷ 1 ∷ []) circular 0 7 13 8
    ∷ stops (1 ∷ 1 ∷ 1 ∷ 1 ∷ []) (dirty_writes ++ (l 4 1 (2 ∷ []) ∷ [])) 5 15 12 6
    ∷ stops (1 ∷ []) (l 1 1 (5 ∷ []) ∷ w_of 1 1 5 ∷ []) 5 0 17 44
    ∷ []

abbrev pub append_found : AppendCase → AppendCase
append_found c = record { bytes = c.bytes; f = c.f; p = c.p; out = judged_lists c.bytes (room c.f) (room c.p) }

-- a trace with both sorts of keys: T1 w1=5 a2=7; T2 r1=5 r1=6 l2=7 l2=8. The judge has the one finding, the call on lists the other
abbrev pub both_sorts : List ℕ
both_sorts = amid (1 ∷ 1 ∷ []) (w_of 1 1 5 ∷ a 1 2 7 ∷ r_of 2 1 5 ∷ r_of 2 1 6 ∷ l 2 2 (7 ∷ []) ∷ l 2 2 (8 ∷ []) ∷ [])
