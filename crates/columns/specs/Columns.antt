-- The columns of a table of vectors: a transaction's column is the number of its session's first transaction.
use Rattle.std.specs.Prelude.{ℕ, ◌+◌, ◌<◌, ◌≡◌, Bool, List, eqb, length, get_or}
use Rattle.base.specs.Base.{pick, first, last}
use Rattle.rules.specs.History.{History, size, committed}
use Rattle.rules.specs.Levels.{is_session}
use Rattle.pairs.specs.Pairs.{before}

-- the first transaction of t's session that counts as committed; t itself where none stands before it
unfoldable pub opener_of : History → ℕ → ℕ
opener_of h t = first t 1 t (before (is_session h) t)

-- t's column. One that does not count has column 0, which no one that counts has besides 0
unfoldable pub column_at : History → ℕ → ℕ
column_at h t = pick (committed h t) (opener_of h t) 0

-- the column of each
pub record Numbered (h : History) (c : List ℕ) : Type 0 where
  pub room : length c ≡ 128
  pub is : (t : ℕ) → t < 128 → get_or c t 0 ≡ column_at h t

-- .. of those before t
pub record SoFar (h : History) (t : ℕ) (c : List ℕ) : Type 0 where
  pub is : (a : ℕ) → a < t → get_or c a 0 ≡ column_at h a

-- ── how many columns there are ──

-- s is a column; the bytes c say so
unfoldable pub is_column : History → ℕ → Bool
is_column h s = eqb (column_at h s) s

unfoldable pub says_column : List ℕ → ℕ → Bool
says_column c s = eqb (get_or c s 0) s

-- one more than the greatest column
unfoldable pub width_of : History → ℕ
width_of h = last (is_column h) (size h) + 1
