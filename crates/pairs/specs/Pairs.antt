-- Tables of pairs, kept by predecessor, and how the table of basic pairs is filled.
use Rattle.std.specs.Prelude.{ℕ, ◌+◌, ◌<◌, ◌≡◌, Bool, List, eqb, ltb, length, get_or}
use Rattle.base.specs.Base.{◌and◌, ◌or◌, some, last}
use Rattle.rules.specs.History.{History, op, op_count, source_of}
use Rattle.rules.specs.Reads.{is_external}
use Rattle.rules.specs.Levels.{is_start, is_session}
use Rattle.table.specs.Table.{history_of, Settled}
use Rattle.reads.specs.Verdicts.{Judged}

-- row b of a table has the bits of what stands before b
unfoldable pub before : (ℕ → ℕ → Bool) → ℕ → ℕ → Bool
before f b a = f a b

-- h is a history's table, with marks on those that count as committed, and k has what is to be known of its operations
pub record Ready (h k : List ℕ) : Type 0 where
  pub settled : Settled h
  pub judged : Judged k (history_of h)

-- ── what is marked ──

-- the one pair (a, b), if v
unfoldable pub cell : Bool → ℕ → ℕ → ℕ → ℕ → Bool
cell v a b x y = v and (eqb x a and eqb y b)

-- the pairs of z i, for each i from a to before e
unfoldable pub across : ℕ → ℕ → (ℕ → ℕ → ℕ → Bool) → ℕ → ℕ → Bool
across a e z x y = some a e (λ i. z i x y)

-- a stands before b by start or by session
unfoldable pub precedes : History → ℕ → ℕ → Bool
precedes h a b = is_start h a b or is_session h a b

-- row x, of those below n, has the bits of these
unfoldable pub orders_below : History → ℕ → ℕ → ℕ → Bool
orders_below h n x y = ltb x n and precedes h y x

-- the last that stands before b by session; 0, which stands before every other, where there is none
unfoldable pub prior_of : History → ℕ → ℕ
prior_of h b = last (before (is_session h) b) b

-- 128 bytes that are all 0
pub record Blank (p : List ℕ) : Type 0 where
  pub room : length p ≡ 128
  pub is : (b : ℕ) → b < 128 → get_or p b 0 ≡ 0

-- the prior transaction of each. One that does not count as committed has none, nor has 0, nor a number past the last
pub record Priors (h : History) (p : List ℕ) : Type 0 where
  pub room : length p ≡ 128
  pub is : (b : ℕ) → b < 128 → get_or p b 0 ≡ prior_of h b

-- a, and what E has in row a
unfoldable pub behind : (ℕ → ℕ → Bool) → ℕ → ℕ → Bool
behind E a y = E a y or eqb y a

-- the bit of operation i, where it is a clean external read: its source stands before its transaction; those of all operations
unfoldable pub read_bit : History → ℕ → ℕ → ℕ → Bool
read_bit h i = cell (is_external h i) (op h i).tx (source_of h i)

unfoldable pub read_bits : History → ℕ → ℕ → Bool
read_bits h = across 1 (op_count h + 1) (read_bit h)
