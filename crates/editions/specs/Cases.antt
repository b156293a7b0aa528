-- Document 01's traces worked by hand, in edition 2, with transactions that overlap wherever there are two. "Demands and lists read the same over it": the
-- orders and the pairs are those of the document's table; operations have the numbers of their places here.
use Rattle.std.specs.Prelude.{ℕ, ◌≡◌, refl, List, [], ◌∷◌, ◌++◌, map}
use Rattle.rules.specs.Traces.{Item, opens, r_of, w_of, closes_of, overlapping, read, pair}
use Rattle.rules.proofs.Edges.{as_they_should}
use Rattle.rules.specs.Cases.{Case, case, all, found, accepts_with, rejects_with, swapped}

-- the open transaction of session s commits
abbrev pub commits : ℕ → Item
commits s = closes_of s 1

abbrev pub document_table : List Case
document_table =
    -- P1 end only
    all (overlapping 0 []) (accepts_with (0 ∷ []))
    -- P3 T1 r1=5
    ∷ all (overlapping 1 (opens 1 ∷ r_of 1 1 5 ∷ commits 1 ∷ [])) (rejects_with (read 1 1 1 0) [])
    -- P4 T1 r1=0
    ∷ all (overlapping 1 (opens 1 ∷ r_of 1 1 0 ∷ commits 1 ∷ [])) (accepts_with (0 ∷ 1 ∷ []))
    -- P5 T1 w1=5 aborted; T2 r1=5: it aborts when the other has committed
    ∷ all (overlapping 2 (opens 1 ∷ opens 2 ∷ w_of 1 1 5 ∷ r_of 2 1 5 ∷ commits 2 ∷ closes_of 1 0 ∷ [])) (rejects_with (read 2 2 2 1) [])
    -- P6 T1 r1=5 w1=5
    ∷ all (overlapping 1 (opens 1 ∷ r_of 1 1 5 ∷ w_of 1 1 5 ∷ commits 1 ∷ [])) (rejects_with (read 1 1 3 2) [])
    -- P7 T1 w1=5 w1=6 r1=5
    ∷ all (overlapping 1 (opens 1 ∷ w_of 1 1 5 ∷ w_of 1 1 6 ∷ r_of 1 1 5 ∷ commits 1 ∷ [])) (rejects_with (read 1 3 4 1) [])
    -- P8 T1 w1=5; T2 w1=6 r1=5
    ∷ all (overlapping 2 (opens 1 ∷ opens 2 ∷ w_of 2 1 6 ∷ w_of 1 1 5 ∷ r_of 2 1 5 ∷ commits 2 ∷ commits 1 ∷ [])) (rejects_with (read 2 3 5 2) [])
    -- P9 T1 w1=5 w1=6; T2 r1=5
    ∷ all (overlapping 2 (opens 1 ∷ opens 2 ∷ w_of 1 1 5 ∷ r_of 2 1 5 ∷ w_of 1 1 6 ∷ commits 2 ∷ commits 1 ∷ [])) (rejects_with (read 2 2 6 1) [])
    -- P10 T1 w1=5; T2 w1=6; T3 r1=5 r1=6, of sessions 7, 3 and 5
    ∷ case (overlapping 3 (opens 7 ∷ opens 3 ∷ opens 5 ∷ r_of 5 1 5 ∷ w_of 3 1 6 ∷ w_of 7 1 5 ∷ r_of 5 1 6 ∷ commits 5 ∷ commits 7 ∷ commits 3 ∷ []))
    (accepts_with (0 ∷ 1 ∷ 2 ∷ 3 ∷ [])) (rejects_with [] swapped) (rejects_with [] swapped)
    -- P11 as P10, T3 reads 5, 6, 5
    ∷ all (overlapping 3 (opens 7 ∷ opens 3 ∷ opens 5 ∷ r_of 5 1 5 ∷ w_of 7 1 5 ∷ r_of 5 1 6 ∷ w_of 3 1 6 ∷ r_of 5 1 5 ∷ commits 3 ∷ commits 5 ∷ commits 7 ∷ []))
    (rejects_with [] swapped)
    -- P12 T1 w1=5; T2 r1=5 w2=7; T3 r2=7 r1=0
    ∷ case (overlapping 3 (opens 1 ∷ opens 2 ∷ opens 3 ∷ r_of 3 2 7 ∷ r_of 2 1 5 ∷ w_of 1 1 5 ∷ w_of 2 2 7 ∷ r_of 3 1 0 ∷ commits 3 ∷ commits 2 ∷ commits 1 ∷ []))
    (accepts_with (0 ∷ 1 ∷ 2 ∷ 3 ∷ [])) (accepts_with (0 ∷ 1 ∷ 2 ∷ 3 ∷ [])) (rejects_with [] (pair 0 1 9 ++ pair 1 0 8))
    -- P13 T1 r2=7 w1=5; T2 r1=5 w2=7, of sessions 9 and 4
    ∷ all (overlapping 2 (opens 9 ∷ opens 4 ∷ r_of 4 1 5 ∷ r_of 9 2 7 ∷ w_of 9 1 5 ∷ w_of 4 2 7 ∷ commits 4 ∷ commits 9 ∷ []))
    (rejects_with [] (pair 1 2 4 ++ pair 2 1 4))
    -- P14 one session: T1 w1=5; T2 r1=0
    ∷ case (overlapping 2 (opens 1 ∷ w_of 1 1 5 ∷ commits 1 ∷ opens 1 ∷ r_of 1 1 0 ∷ commits 1 ∷ [])) (accepts_with (0 ∷ 1 ∷ 2 ∷ []))
    (rejects_with [] (pair 0 1 1 ++ pair 1 0 8)) (rejects_with [] (pair 0 1 1 ++ pair 1 0 8))
    -- 15 T1 r1=0 w1=5; T2 r1=0 w1=6
    ∷ all (overlapping 2 (opens 1 ∷ opens 2 ∷ r_of 1 1 0 ∷ r_of 2 1 0 ∷ w_of 1 1 5 ∷ w_of 2 1 6 ∷ commits 2 ∷ commits 1 ∷ []))
    (accepts_with (0 ∷ 1 ∷ 2 ∷ []))
    -- 16 T1 w1=11 w2=21; T2 w1=12 w2=22; T3 r1=12 r2=21, of sessions 8, 2 and 6
    ∷ case (overlapping 3 (opens 8 ∷ opens 2 ∷ opens 6 ∷ w_of 8 1 11 ∷ w_of 2 1 12 ∷ r_of 6 1 12 ∷ w_of 2 2 22 ∷ w_of 8 2 21 ∷ r_of 6 2 21 ∷ commits 6 ∷ commits 8 ∷ commits 2 ∷ []))
    (accepts_with (0 ∷ 2 ∷ 1 ∷ 3 ∷ [])) (rejects_with [] swapped) (rejects_with [] swapped)
    ∷ []

pub as_in_blocks : map found document_table ≡ document_table
unfolding as_they_should
as_in_blocks = refl
