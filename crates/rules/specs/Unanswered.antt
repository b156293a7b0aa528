-- Document 02, "commits nobody answered": who counts as committed, 0 among them. As in Cases: a table, whose statement is in proofs/.
use Rattle.std.specs.Prelude.{ℕ, List, [], ◌∷◌, ◌++◌}
use Rattle.base.specs.Base.{those}
use Rattle.rules.specs.History.{size, committed}
use Rattle.rules.specs.Reading.{Reading, refused, read, reading}
use Rattle.rules.specs.Traces.{whole, block, T, U, r, w}

-- a trace, and the numbers of those that count
pub record CountCase : Type 0 where
  pub bytes : List ℕ
  pub who : List ℕ

abbrev count_case : List ℕ → List ℕ → CountCase
count_case b l = record { bytes = b; who = l }

abbrev pub count_table : List CountCase
count_table =
    -- nobody reads it; a committed one does, before it or behind it
    count_case (whole 1 (U 1 (w 1 5 ∷ []))) (0 ∷ [])
    ∷ count_case (whole 3 (T 1 (r 1 5 ∷ []) ++ U 2 (w 1 5 ∷ w 2 6 ∷ []) ++ U 3 (w 3 7 ∷ []))) (0 ∷ 1 ∷ 2 ∷ [])
    ∷ count_case (whole 2 (U 1 (w 1 5 ∷ []) ++ T 2 (r 1 5 ∷ []))) (0 ∷ 1 ∷ 2 ∷ [])
    -- its key with another value, its value of another key; the initial value
    ∷ count_case (whole 2 (U 1 (w 1 5 ∷ w 2 6 ∷ []) ++ T 2 (r 1 6 ∷ r 2 5 ∷ r 1 0 ∷ []))) (0 ∷ 2 ∷ [])
    -- a committed one writes what another wrote to another key
    ∷ count_case (whole 2 (U 1 (w 1 5 ∷ []) ++ T 2 (w 2 5 ∷ []))) (0 ∷ 2 ∷ [])
    -- "other than itself": it reads its own value, and nobody else does
    ∷ count_case (whole 1 (U 1 (w 1 5 ∷ r 1 5 ∷ []))) (0 ∷ [])
    -- an aborted one reads it
    ∷ count_case (whole 2 (U 1 (w 1 5 ∷ []) ++ block 2 0 (r 1 5 ∷ []))) (0 ∷ [])
    -- another unanswered one does, which nobody reads; which a committed one reads
    ∷ count_case (whole 2 (U 1 (w 1 5 ∷ []) ++ U 2 (r 1 5 ∷ []))) (0 ∷ [])
    ∷ count_case (whole 3 (U 1 (w 1 5 ∷ []) ++ U 2 (r 1 5 ∷ w 2 7 ∷ []) ++ T 3 (r 2 7 ∷ []))) (0 ∷ 1 ∷ 2 ∷ 3 ∷ [])
    -- "the smallest such set is meant": two read each other, and nobody else does; a committed one does
    ∷ count_case (whole 2 (U 1 (r 2 7 ∷ w 1 5 ∷ []) ++ U 2 (r 1 5 ∷ w 2 7 ∷ []))) (0 ∷ [])
    ∷ count_case (whole 3 (U 1 (r 2 7 ∷ w 1 5 ∷ []) ++ U 2 (r 1 5 ∷ w 2 7 ∷ []) ++ T 3 (r 1 5 ∷ []))) (0 ∷ 1 ∷ 2 ∷ 3 ∷ [])
    -- a chain whose readers come later; earlier; one that an aborted one breaks
    ∷ count_case (whole 5 (U 1 (w 1 1 ∷ []) ++ U 2 (r 1 1 ∷ w 2 2 ∷ []) ++ U 3 (r 2 2 ∷ w 3 3 ∷ []) ++ U 4 (r 3 3 ∷ w 4 4 ∷ []) ++ T 5 (r 4 4 ∷ [])))
    (0 ∷ 1 ∷ 2 ∷ 3 ∷ 4 ∷ 5 ∷ [])
    ∷ count_case (whole 5 (T 1 (r 1 1 ∷ []) ++ U 2 (w 1 1 ∷ r 2 2 ∷ []) ++ U 3 (w 2 2 ∷ r 3 3 ∷ []) ++ U 4 (w 3 3 ∷ r 4 4 ∷ []) ++ U 5 (w 4 4 ∷ [])))
    (0 ∷ 1 ∷ 2 ∷ 3 ∷ 4 ∷ 5 ∷ [])
    ∷ count_case (whole 4 (U 1 (w 1 1 ∷ []) ++ block 2 0 (r 1 1 ∷ w 2 2 ∷ []) ++ U 3 (r 2 2 ∷ w 3 3 ∷ []) ++ T 4 (r 3 3 ∷ []))) (0 ∷ 3 ∷ 4 ∷ [])
    -- a reader whose read is unclean: intermediate; not its own
    ∷ count_case (whole 2 (U 1 (w 1 5 ∷ w 1 6 ∷ []) ++ T 2 (r 1 5 ∷ []))) (0 ∷ 1 ∷ 2 ∷ [])
    ∷ count_case (whole 2 (U 1 (w 1 5 ∷ []) ++ T 2 (w 1 6 ∷ r 1 5 ∷ []))) (0 ∷ 1 ∷ 2 ∷ [])
    ∷ []

-- who counts in what was read
unfoldable pub who_counts : Reading → List ℕ
who_counts (refused n p) = []
who_counts (read h notes) = those 0 (size h) (committed h)

abbrev pub counted_so : CountCase → CountCase
counted_so c = count_case c.bytes (who_counts (reading c.bytes))
