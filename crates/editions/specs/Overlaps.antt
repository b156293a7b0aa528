-- Document 02, "overlapping transactions": traces of edition 2 that come out otherwise if an operation, a close or a status goes to another transaction than
-- the open one of its session, such as the latest opened or that of its neighbours.
use Rattle.std.specs.Prelude.{◌≡◌, refl, List, [], ◌∷◌, ◌++◌, map}
use Rattle.rules.specs.Traces.{opens, r_of, w_of, closes_of, overlapping, read, pair}
use Rattle.rules.proofs.Edges.{as_they_should}
use Rattle.rules.specs.Cases.{Case, case, all, found, accepts_with, rejects_with}
use Rattle.editions.specs.Cases.{commits}

-- ── reads: ""between" and "before" within a transaction go by its own operations" ──

abbrev pub read_table : List Case
read_table =
    -- each reads its own last write: another's write between is none
    all (overlapping 2 (opens 1 ∷ opens 2 ∷ w_of 1 1 5 ∷ w_of 2 1 6 ∷ r_of 1 1 5 ∷ commits 1 ∷ commits 2 ∷ [])) (accepts_with (0 ∷ 1 ∷ 2 ∷ []))
    ∷ all (overlapping 2 (opens 1 ∷ opens 2 ∷ w_of 1 1 5 ∷ w_of 2 1 6 ∷ r_of 1 1 5 ∷ r_of 2 1 6 ∷ w_of 1 1 7 ∷ commits 1 ∷ commits 2 ∷ []))
    (accepts_with (0 ∷ 1 ∷ 2 ∷ []))
    -- kind 3, "Future": its own write, behind the read; another's that is behind it in the trace is none
    ∷ all (overlapping 2 (opens 1 ∷ opens 2 ∷ r_of 1 1 5 ∷ w_of 2 1 6 ∷ w_of 1 1 5 ∷ commits 1 ∷ commits 2 ∷ [])) (rejects_with (read 1 1 3 3) [])
    ∷ all (overlapping 2 (opens 1 ∷ opens 2 ∷ r_of 1 1 5 ∷ w_of 2 1 5 ∷ commits 1 ∷ commits 2 ∷ [])) (accepts_with (0 ∷ 2 ∷ 1 ∷ []))
    -- kind 4, "Not my last": its own write between
    ∷ all (overlapping 2 (opens 1 ∷ opens 2 ∷ w_of 1 1 5 ∷ w_of 1 1 7 ∷ w_of 2 1 6 ∷ r_of 1 1 5 ∷ commits 1 ∷ commits 2 ∷ [])) (rejects_with (read 1 4 4 1) [])
    -- kind 5, "Not my own": its own write before; behind the read it is none
    ∷ all (overlapping 2 (opens 1 ∷ opens 2 ∷ w_of 1 1 5 ∷ w_of 2 1 6 ∷ r_of 1 1 6 ∷ commits 1 ∷ commits 2 ∷ [])) (rejects_with (read 1 3 5 2) [])
    ∷ all (overlapping 2 (opens 1 ∷ opens 2 ∷ w_of 1 1 5 ∷ r_of 2 1 5 ∷ w_of 2 1 6 ∷ commits 1 ∷ commits 2 ∷ [])) (accepts_with (0 ∷ 1 ∷ 2 ∷ []))
    -- value 0: of two that read it one has written the key
    ∷ all (overlapping 2 (opens 1 ∷ opens 2 ∷ w_of 1 1 5 ∷ r_of 2 1 0 ∷ r_of 1 1 0 ∷ commits 1 ∷ commits 2 ∷ [])) (rejects_with (read 1 3 5 0) [])
    -- kind 6, "Intermediate": another than the writer wrote the key later; the writer did, behind the read; it did before
    ∷ all (overlapping 3 (opens 1 ∷ opens 2 ∷ opens 3 ∷ w_of 1 1 5 ∷ w_of 2 1 6 ∷ r_of 3 1 5 ∷ commits 1 ∷ commits 2 ∷ commits 3 ∷ []))
    (accepts_with (0 ∷ 1 ∷ 2 ∷ 3 ∷ []))
    ∷ all (overlapping 3 (opens 1 ∷ opens 2 ∷ opens 3 ∷ w_of 1 1 5 ∷ w_of 2 1 6 ∷ r_of 3 1 5 ∷ w_of 1 1 7 ∷ commits 3 ∷ commits 1 ∷ commits 2 ∷ []))
    (rejects_with (read 3 3 6 1) [])
    ∷ all (overlapping 3 (opens 1 ∷ opens 2 ∷ opens 3 ∷ w_of 1 1 4 ∷ w_of 2 1 6 ∷ w_of 1 1 5 ∷ r_of 3 1 5 ∷ commits 3 ∷ commits 2 ∷ commits 1 ∷ []))
    (accepts_with (0 ∷ 1 ∷ 2 ∷ 3 ∷ []))
    -- "Numbers still go .. by place in the trace": the write's and the read's; findings by operation number
    ∷ all (overlapping 2 (opens 1 ∷ opens 2 ∷ w_of 2 2 7 ∷ w_of 1 1 5 ∷ w_of 2 3 8 ∷ w_of 1 1 6 ∷ r_of 2 1 5 ∷ commits 1 ∷ commits 2 ∷ []))
    (rejects_with (read 2 5 6 2) [])
    ∷ all (overlapping 2 (opens 1 ∷ opens 2 ∷ r_of 2 1 9 ∷ r_of 1 1 8 ∷ commits 1 ∷ commits 2 ∷ [])) (rejects_with (read 2 1 1 0 ++ read 1 2 1 0) [])
    -- level 1, "an earlier clean external read in t3": it is another's; it is its own
    ∷ all (overlapping 3 (opens 1 ∷ opens 2 ∷ opens 3 ∷ w_of 1 1 5 ∷ w_of 1 2 7 ∷ r_of 3 2 7 ∷ r_of 2 1 0 ∷ commits 1 ∷ commits 2 ∷ commits 3 ∷ []))
    (accepts_with (0 ∷ 1 ∷ 2 ∷ 3 ∷ []))
    ∷ case (overlapping 2 (opens 1 ∷ opens 2 ∷ w_of 1 1 5 ∷ r_of 2 2 7 ∷ w_of 1 2 7 ∷ r_of 2 1 0 ∷ commits 2 ∷ commits 1 ∷ []))
    (rejects_with [] (pair 0 1 1 ++ pair 1 0 8)) (rejects_with [] (pair 0 1 9 ++ pair 1 0 8)) (rejects_with [] (pair 0 1 9 ++ pair 1 0 8))
    ∷ []

pub as_its_own_operations : map found read_table ≡ read_table
unfolding as_they_should
as_its_own_operations = refl

-- ── sessions and closes ──

abbrev pub session_table : List Case
session_table =
    -- a session that opens again after its close, another's transaction open all the while: its later one reads what its earlier one overwrote, in order ..
    case (overlapping 3 (opens 2 ∷ opens 1 ∷ w_of 2 1 5 ∷ w_of 1 1 6 ∷ commits 1 ∷ opens 1 ∷ r_of 1 1 5 ∷ commits 2 ∷ commits 1 ∷ []))
    (accepts_with (0 ∷ 1 ∷ 2 ∷ 3 ∷ [])) (accepts_with (0 ∷ 2 ∷ 1 ∷ 3 ∷ [])) (accepts_with (0 ∷ 2 ∷ 1 ∷ 3 ∷ []))
    -- .. and, where the earlier one has read it too, in none
    ∷ case (overlapping 3 (opens 2 ∷ opens 1 ∷ w_of 2 1 5 ∷ r_of 1 1 5 ∷ w_of 1 1 6 ∷ commits 1 ∷ opens 1 ∷ r_of 1 1 5 ∷ commits 2 ∷ commits 1 ∷ []))
    (accepts_with (0 ∷ 1 ∷ 2 ∷ 3 ∷ [])) (rejects_with [] (pair 1 2 4 ++ pair 2 1 8)) (rejects_with [] (pair 1 2 4 ++ pair 2 1 8))
    -- P14 with two transactions and another session's between
    ∷ case (overlapping 4 (opens 1 ∷ opens 2 ∷ w_of 1 1 5 ∷ commits 1 ∷ opens 1 ∷ commits 1 ∷ opens 1 ∷ r_of 1 1 0 ∷ commits 2 ∷ commits 1 ∷ []))
    (accepts_with (0 ∷ 1 ∷ 2 ∷ 3 ∷ 4 ∷ [])) (rejects_with [] (pair 0 1 1 ++ pair 1 0 8)) (rejects_with [] (pair 0 1 1 ++ pair 1 0 8))
    -- its later one does not have the operations of its earlier one
    ∷ all (overlapping 2 (opens 1 ∷ w_of 1 1 5 ∷ commits 1 ∷ opens 1 ∷ w_of 1 1 6 ∷ r_of 1 1 5 ∷ commits 1 ∷ [])) (rejects_with (read 2 3 5 1) [])
    -- closes in the order of opens and in another, one of them aborted; an operation behind another's close
    ∷ all (overlapping 3 (opens 1 ∷ opens 2 ∷ w_of 1 1 5 ∷ w_of 2 2 6 ∷ closes_of 1 0 ∷ commits 2 ∷ opens 3 ∷ r_of 3 1 5 ∷ r_of 3 2 6 ∷ commits 3 ∷ []))
    (rejects_with (read 3 3 2 1) [])
    ∷ all (overlapping 3 (opens 1 ∷ opens 2 ∷ w_of 1 1 5 ∷ w_of 2 2 6 ∷ closes_of 2 0 ∷ commits 1 ∷ opens 3 ∷ r_of 3 1 5 ∷ r_of 3 2 6 ∷ commits 3 ∷ []))
    (rejects_with (read 3 4 2 2) [])
    ∷ all (overlapping 2 (opens 1 ∷ opens 2 ∷ closes_of 2 0 ∷ w_of 1 1 5 ∷ r_of 1 1 5 ∷ commits 1 ∷ [])) (accepts_with (0 ∷ 1 ∷ []))
    -- "Every .. session number .. is lawful": 0 and 65,535
    ∷ all (overlapping 2 (opens 0 ∷ opens 65535 ∷ w_of 0 1 5 ∷ w_of 65535 1 6 ∷ r_of 0 1 5 ∷ r_of 65535 1 6 ∷ commits 65535 ∷ commits 0 ∷ []))
    (accepts_with (0 ∷ 1 ∷ 2 ∷ []))
    ∷ case (overlapping 3 (opens 0 ∷ opens 65535 ∷ w_of 65535 1 5 ∷ commits 65535 ∷ opens 65535 ∷ r_of 65535 1 0 ∷ commits 65535 ∷ commits 0 ∷ []))
    (accepts_with (0 ∷ 1 ∷ 2 ∷ 3 ∷ [])) (rejects_with [] (pair 0 2 1 ++ pair 2 0 8)) (rejects_with [] (pair 0 2 1 ++ pair 2 0 8))
    ∷ case (overlapping 2 (opens 0 ∷ w_of 0 1 5 ∷ commits 0 ∷ opens 0 ∷ r_of 0 1 0 ∷ commits 0 ∷ [])) (accepts_with (0 ∷ 1 ∷ 2 ∷ []))
    (rejects_with [] (pair 0 1 1 ++ pair 1 0 8)) (rejects_with [] (pair 0 1 1 ++ pair 1 0 8))
    -- sessions that are equal modulo 128, and modulo 256, are different ones
    ∷ all (overlapping 2 (opens 1 ∷ opens 129 ∷ w_of 1 1 5 ∷ w_of 129 1 6 ∷ r_of 1 1 5 ∷ r_of 129 1 6 ∷ closes_of 129 0 ∷ commits 1 ∷ [])) (accepts_with (0 ∷ 1 ∷ []))
    ∷ all (overlapping 3 (opens 1 ∷ w_of 1 1 5 ∷ commits 1 ∷ opens 129 ∷ opens 257 ∷ r_of 129 1 0 ∷ r_of 257 1 0 ∷ commits 129 ∷ commits 257 ∷ []))
    (accepts_with (0 ∷ 1 ∷ 2 ∷ 3 ∷ []))
    ∷ []

pub as_its_session : map found session_table ≡ session_table
unfolding as_they_should
as_its_session = refl

-- ── unanswered closes ──

abbrev pub unanswered_table : List Case
unanswered_table =
    -- read by another, which commits before it closes; not read
    all (overlapping 2 (opens 1 ∷ opens 2 ∷ w_of 1 1 5 ∷ r_of 2 1 5 ∷ commits 2 ∷ closes_of 1 2 ∷ [])) (accepts_with (0 ∷ 1 ∷ 2 ∷ []))
    ∷ all (overlapping 2 (opens 1 ∷ opens 2 ∷ w_of 1 1 5 ∷ r_of 2 1 0 ∷ commits 2 ∷ closes_of 1 2 ∷ [])) (accepts_with (0 ∷ 2 ∷ []))
    -- read only by itself, between the operations of another
    ∷ all (overlapping 2 (opens 1 ∷ opens 2 ∷ w_of 1 1 5 ∷ w_of 2 1 6 ∷ r_of 1 1 5 ∷ w_of 2 1 7 ∷ commits 2 ∷ closes_of 1 2 ∷ [])) (accepts_with (0 ∷ 2 ∷ []))
    -- P13 with unanswered ones, which nobody else reads
    ∷ all (overlapping 2 (opens 1 ∷ opens 2 ∷ r_of 1 2 7 ∷ r_of 2 1 5 ∷ w_of 1 1 5 ∷ w_of 2 2 7 ∷ closes_of 2 2 ∷ closes_of 1 2 ∷ [])) (accepts_with (0 ∷ []))
    -- P14 with an unanswered first, which another session reads
    ∷ case (overlapping 3 (opens 1 ∷ opens 2 ∷ w_of 1 1 5 ∷ closes_of 1 2 ∷ opens 1 ∷ r_of 1 1 0 ∷ commits 1 ∷ r_of 2 1 5 ∷ commits 2 ∷ []))
    (accepts_with (0 ∷ 1 ∷ 2 ∷ 3 ∷ [])) (rejects_with [] (pair 0 1 9 ++ pair 1 0 8)) (rejects_with [] (pair 0 1 9 ++ pair 1 0 8))
    ∷ []

pub as_unanswered : map found unanswered_table ≡ unanswered_table
unfolding as_they_should
as_unanswered = refl
