-- Document 02, "commits nobody answered": the findings, pairs and orders that follow at each level. Who counts is the table of `rules/specs/Unanswered.antt`.
use Rattle.std.specs.Prelude.{◌≡◌, refl, List, [], ◌∷◌, ◌++◌, map}
use Rattle.rules.specs.Traces.{opens, closes, trace, whole, block, T, U, r, w, read, pair}
use Rattle.rules.proofs.Edges.{as_they_should}
use Rattle.rules.specs.Cases.{Case, case, all, found, refuses_with, accepts_with, rejects_with, swapped}

abbrev pub outcome_table : List Case
outcome_table =
    -- "8 now begins at status 3": 2 passes
    all (whole 1 (U 1 [])) (accepts_with (0 ∷ []))
    ∷ all (trace 0 (opens 1 ∷ closes 3 ∷ [])) (refuses_with 8 10)
    -- read by a committed one
    ∷ all (whole 2 (U 1 (w 1 5 ∷ []) ++ T 2 (r 1 5 ∷ []))) (accepts_with (0 ∷ 1 ∷ 2 ∷ []))
    -- only by itself
    ∷ all (whole 2 (U 1 (w 1 5 ∷ r 1 5 ∷ []) ++ T 2 (r 1 0 ∷ []))) (accepts_with (0 ∷ 2 ∷ []))
    -- only by an aborted one
    ∷ all (whole 3 (U 1 (w 1 5 ∷ []) ++ block 2 0 (r 1 5 ∷ []) ++ T 3 (r 1 0 ∷ []))) (accepts_with (0 ∷ 3 ∷ []))
    -- only by another unanswered one, which nobody reads; which is read
    ∷ all (whole 3 (U 1 (w 1 5 ∷ []) ++ U 2 (r 1 5 ∷ []) ++ T 3 (r 1 0 ∷ []))) (accepts_with (0 ∷ 3 ∷ []))
    ∷ all (whole 3 (U 1 (w 1 5 ∷ []) ++ U 2 (r 1 5 ∷ w 2 7 ∷ []) ++ T 3 (r 2 7 ∷ []))) (accepts_with (0 ∷ 1 ∷ 2 ∷ 3 ∷ []))
    -- two that read each other, as in P13, and nobody else does; and a committed one does
    ∷ all (whole 2 (U 1 (r 2 7 ∷ w 1 5 ∷ []) ++ U 2 (r 1 5 ∷ w 2 7 ∷ []))) (accepts_with (0 ∷ []))
    ∷ all (whole 3 (U 1 (r 2 7 ∷ w 1 5 ∷ []) ++ U 2 (r 1 5 ∷ w 2 7 ∷ []) ++ T 3 (r 1 5 ∷ []))) (rejects_with [] (pair 1 2 4 ++ pair 2 1 4))
    -- a reader whose read is unclean: intermediate; not my own
    ∷ all (whole 2 (U 1 (w 1 5 ∷ w 1 6 ∷ []) ++ T 2 (r 1 5 ∷ []))) (rejects_with (read 2 3 6 1) [])
    ∷ all (whole 2 (U 1 (w 1 5 ∷ []) ++ T 2 (w 1 6 ∷ r 1 5 ∷ []))) (rejects_with (read 2 3 5 1) [])
    -- the reads of one that counts are judged, of one that does not they are not: thin air; an aborted read
    ∷ all (whole 2 (U 1 (r 1 9 ∷ w 2 7 ∷ []) ++ T 2 (r 2 7 ∷ []))) (rejects_with (read 1 1 1 0) [])
    ∷ all (whole 1 (U 1 (r 1 9 ∷ []))) (accepts_with (0 ∷ []))
    ∷ all (whole 3 (block 1 0 (w 1 5 ∷ []) ++ U 2 (r 1 5 ∷ w 2 7 ∷ []) ++ T 3 (r 2 7 ∷ []))) (rejects_with (read 2 2 2 1) [])
    -- P14 with an unanswered first: it does not count; it does, read by a third
    ∷ all (whole 2 (U 1 (w 1 5 ∷ []) ++ T 1 (r 1 0 ∷ []))) (accepts_with (0 ∷ 2 ∷ []))
    ∷ case (whole 3 (U 1 (w 1 5 ∷ w 2 7 ∷ []) ++ T 1 (r 1 0 ∷ []) ++ T 3 (r 2 7 ∷ []))) (accepts_with (0 ∷ 1 ∷ 2 ∷ 3 ∷ []))
    (rejects_with [] (pair 0 1 9 ++ pair 1 0 8)) (rejects_with [] (pair 0 1 9 ++ pair 1 0 8))
    -- P10 and P12 with unanswered writers, which count
    ∷ case (whole 3 (U 1 (w 1 5 ∷ []) ++ U 2 (w 1 6 ∷ []) ++ T 3 (r 1 5 ∷ r 1 6 ∷ []))) (accepts_with (0 ∷ 1 ∷ 2 ∷ 3 ∷ [])) (rejects_with [] swapped)
    (rejects_with [] swapped)
    ∷ case (whole 3 (U 1 (w 1 5 ∷ []) ++ U 2 (r 1 5 ∷ w 2 7 ∷ []) ++ T 3 (r 2 7 ∷ r 1 0 ∷ []))) (accepts_with (0 ∷ 1 ∷ 2 ∷ 3 ∷ []))
    (accepts_with (0 ∷ 1 ∷ 2 ∷ 3 ∷ [])) (rejects_with [] (pair 0 1 9 ++ pair 1 0 8))
    ∷ []

pub as_follows : map found outcome_table ≡ outcome_table
unfolding as_they_should
as_follows = refl
