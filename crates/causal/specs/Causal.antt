-- Document 02's Request Nine: "Replace the table of basic reachability at level 3 by such vectors .. with a cycle the old table is used."
use Rattle.std.specs.Prelude.{ℕ, ◌<◌, ◌≡◌, Bool, List, length}
use Rattle.base.specs.Base.{pick, count}
use Rattle.rules.specs.History.{History, size, committed}
use Rattle.rules.specs.Levels.{basic, leads, is_rival}
use Rattle.table.specs.Table.{history_of, Settled}
use Rattle.bits.specs.Bits.{Holds, plus_selves}
use Rattle.pairs.specs.Pairs.{before, Priors}
use Rattle.order.specs.declared.Words.{Words}
use Rattle.order.specs.Sets.{Gathered}
use Rattle.vectors_rules.specs.Latest.{latest, with_own}
use Rattle.vectors_rules.specs.Vectors.{basic_cycle}
use Rattle.columns.specs.Columns.{column_at, width_of}
use Rattle.vectors.specs.Vectors.{slot}

-- the history's table h, the prior transaction of each, p, the set m of those that count as committed, and their number n
pub record Parties (h p : List ℕ) (m : Words) (n : ℕ) : Type 0 where
  pub settled : Settled h
  pub priors : Priors (history_of h) p
  pub members : Gathered (committed (history_of h)) (size (history_of h)) m
  pub many : n ≡ count 0 (size (history_of h)) (committed (history_of h))

-- what t's vector, with t itself in it, has at column s: a column stands for a session
unfoldable pub column_entry : History → ℕ → ℕ → ℕ
column_entry h = with_own (committed h) (column_at h) (latest (size h) (column_at h) (basic h))

-- the bytes x have the vectors, row by row
pub record HoldsVectors (h : History) (x : List ℕ) : Type 0 where
  pub room : length x ≡ 16384
  pub is : (t s : ℕ) → t < 128 → s < 128 → slot x t s ≡ column_entry h t s

-- what level 3 goes by. r is the number of the vectors' columns where these are used, 0 where the table is: they are "when basic pairs form no cycle", and "with a
-- cycle the old table is used". s has what leads to what, or else the basic pairs and in each row its own number, which the vectors x name
pub record Known (h : History) (s x : List ℕ) (r : ℕ) : Type 0 where
  pub used : r ≡ pick (basic_cycle h) 0 (width_of h)
  pub table : r ≡ 0 → Holds s (before (leads h))
  pub rows : 0 < r → Holds s (plus_selves (size h) (before (basic h)))
  pub vectors : 0 < r → HoldsVectors h x

-- what the table is left with, behind the search by the one or the other
unfoldable pub left_in : History → ℕ → ℕ → Bool
left_in h = pick (basic_cycle h) (before (leads h)) (plus_selves (size h) (before (basic h)))

-- f has the basic pairs, v the rivals that a level puts before a source
pub record Searched (h : History) (level : ℕ) (f v : List ℕ) : Type 0 where
  pub basics : Holds f (before (basic h))
  pub rivals : Holds v (before (is_rival h level))
