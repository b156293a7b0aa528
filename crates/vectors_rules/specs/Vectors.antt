-- Document 02's Request Nine: "vectors: for each transaction, the latest known transaction of every session".
use Rattle.std.specs.Prelude.{ℕ, Bool}
use Rattle.base.specs.Base.{◌and◌}
use Rattle.rules.specs.History.{History, tx, size, committed}
use Rattle.rules.specs.Levels.{basic}
use Rattle.vectors_rules.specs.Latest.{latest, with_own, told, cyclic}

-- the session of a transaction
unfoldable pub session_no : History → ℕ → ℕ
session_no h t = (tx h t).session

-- "for each transaction [t], the latest known transaction of every session [s]": the greatest-numbered one that leads to t through basic pairs, 0 if none
unfoldable pub latest_of : History → ℕ → ℕ → ℕ
latest_of h = latest (size h) (session_no h) (basic h)

-- .. with t itself in it, as sources 000 and 002 print theirs
unfoldable pub vector_of : History → ℕ → ℕ → ℕ
vector_of h = with_own (committed h) (session_no h) (latest_of h)

-- what the vectors "say" of a and b: a takes part, and is at most what b's vector has for a's session
unfoldable pub told_by : History → ℕ → ℕ → Bool
told_by h a b = committed h a and told (session_no h) (latest_of h) a b

-- "basic pairs form [a] cycle"
unfoldable pub basic_cycle : History → Bool
basic_cycle h = cyclic (size h) (basic h)
