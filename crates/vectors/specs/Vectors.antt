-- Vectors in a table of 128 rows of 128 bytes: row t, column s has the latest of the session of column s that t knows, or t itself.
use Rattle.std.specs.Prelude.{ℕ, ◌+◌, ◌*◌, ◌/◌, ◌≤◌, ◌<◌, ◌≡◌, Bool, true, false, not, List, ◌⊎◌, eqb, ltb, length, get_or}
use Rattle.base.specs.Base.{◌and◌, pick, some, count}
use Rattle.theory.specs.Order.{Forces}
use Rattle.bits.specs.Bits.{bit_of, Under, row_of}
use Rattle.order.specs.declared.Words.{Words}
use Rattle.order.specs.Sets.{in_words}
use Rattle.vectors_rules.specs.Latest.{Greatest, KnowsOrIs, latest, greater, with_own, cyclic}

-- column s of row t
unfoldable pub slot : List ℕ → ℕ → ℕ → ℕ
slot v t s = get_or v (128 * t + s) 0

-- a stands before b: row b of the table of bits has a. Beyond 128 there is none
unfoldable pub pair_of : List ℕ → ℕ → ℕ → Bool
pair_of f a b = (ltb a 128 and ltb b 128) and bit_of f b a

-- the column of a's session
unfoldable pub column_of : List ℕ → ℕ → ℕ
column_of c a = get_or c a 0

-- .. all of them below `width`
pub record Columns (c : List ℕ) (width : ℕ) : Type 0 where
  pub room : length c ≡ 128
  pub wide : width ≤ 128
  pub few : (a : ℕ) → a < 128 → column_of c a < width

-- u is v with g in row t
pub record Changed (v : List ℕ) (t : ℕ) (g : ℕ → ℕ) (u : List ℕ) : Type 0 where
  pub room : length u ≡ 16384
  pub row : (s : ℕ) → s < 128 → slot u t s ≡ g s
  pub others : (x s : ℕ) → x < 128 → s < 128 → (x ≡ t → ⊥) → slot u x s ≡ slot v x s

-- row p has nothing from column `width` on
pub record NarrowRow (v : List ℕ) (p width : ℕ) : Type 0 where
  pub is : (s : ℕ) → width ≤ s → s < 128 → slot v p s ≡ 0

-- row t with row p merged into it: all of it; the sixteen columns of block j. With x at column q
unfoldable pub merged_row : List ℕ → ℕ → ℕ → ℕ → ℕ
merged_row v t p s = greater (slot v t s) (slot v p s)

unfoldable pub merged_block : List ℕ → ℕ → ℕ → ℕ → ℕ → ℕ
merged_block v t p j s = pick (eqb (s / 16) j) (merged_row v t p s) (slot v t s)

unfoldable pub noted_row : List ℕ → ℕ → ℕ → ℕ → ℕ → ℕ
noted_row v t q x s = greater (slot v t s) (pick (eqb q s) x 0)

-- row t is empty, and those that stand before t are others, with nothing from column `width` on
pub record Sources (f : List ℕ) (t width : ℕ) (v : List ℕ) : Type 0 where
  pub room : length v ≡ 16384
  pub here : t < 128
  pub wide : width ≤ 128
  pub empty : (s : ℕ) → s < 128 → slot v t s ≡ 0
  pub before : (q : ℕ) → q < 128 → bit_of f t q ≡ true → (q ≡ t → ⊥) × NarrowRow v q width

-- x is what one that stands before t has at column s
pub record From (f v : List ℕ) (t s x : ℕ) : Type 0 where
  pub by : ℕ
  pub few : by < 128
  pub pair : bit_of f t by ≡ true
  pub is : x ≡ slot v by s

-- row t of u knows what p does: by the row of p, or by that of one that p stands before
pub record RowTaken (f v : List ℕ) (t : ℕ) (u : List ℕ) (p : ℕ) : Type 0 where
  pub by : ℕ
  pub few : by < 128
  pub pair : bit_of f t by ≡ true
  pub is : (p ≡ by) ⊎ (bit_of f by p ≡ true)
  pub most : (s : ℕ) → s < 128 → slot v by s ≤ slot u t s

-- u is v with what those before t know in row t, and nothing else in it
pub record RowGathered (f : List ℕ) (t : ℕ) (v u : List ℕ) : Type 0 where
  pub room : length u ≡ 16384
  pub has : (s : ℕ) → s < 128 → 0 < slot u t s → From f v t s (slot u t s)
  pub most : (p : ℕ) → 0 < p → p < 128 → bit_of f t p ≡ true → RowTaken f v t u p
  pub others : (x s : ℕ) → x < 128 → s < 128 → (x ≡ t → ⊥) → slot u x s ≡ slot v x s

-- row t has t's vector, with t itself in it. Only members get a turn, so that no set of them is asked
unfoldable pub anyone : ℕ → Bool
anyone x = true

pub record HasVector (f c v : List ℕ) (t : ℕ) : Type 0 where
  pub is : (s : ℕ) → s < 128 → Greatest (KnowsOrIs anyone (column_of c) (pair_of f) t s) (slot v t s)

-- t's turn: its row is empty, and those before it have their vectors
pub record RowPrepared (f c : List ℕ) (t width : ℕ) (v : List ℕ) : Type 0 where
  pub room : length v ≡ 16384
  pub columns : Columns c width
  pub here : t < 128
  pub start : (q : ℕ) → q < 128 → bit_of f 0 q ≡ false
  pub empty : (s : ℕ) → s < 128 → slot v t s ≡ 0
  pub before : (q : ℕ) → q < 128 → bit_of f t q ≡ true → (q ≡ t → ⊥) × HasVector f c v q

-- .. and what it comes to
pub record Finished (f c : List ℕ) (t : ℕ) (v u : List ℕ) : Type 0 where
  pub room : length u ≡ 16384
  pub row : HasVector f c u t
  pub others : (x s : ℕ) → x < 128 → s < 128 → (x ≡ t → ⊥) → slot u x s ≡ slot v x s

-- the first k bytes of o: each number once, after all that stand before it. Nothing stands before 0
pub record Sequence (f o : List ℕ) (k : ℕ) : Type 0 where
  pub few : k ≤ 128
  pub below : (i : ℕ) → i < k → get_or o i 0 < 128
  pub once : (i j : ℕ) → i < j → j < k → get_or o i 0 ≡ get_or o j 0 → ⊥
  pub after : (i q : ℕ) → i < k → q < 128 → bit_of f (get_or o i 0) q ≡ true → (j : ℕ) × (j < i) × (get_or o j 0 ≡ q)
  pub start : (q : ℕ) → q < 128 → bit_of f 0 q ≡ false

-- these have their vectors, and the other rows nothing
pub record AllFilled (f c o : List ℕ) (k : ℕ) (v : List ℕ) : Type 0 where
  pub room : length v ≡ 16384
  pub done : (i : ℕ) → i < k → HasVector f c v (get_or o i 0)
  pub left : (x s : ℕ) → x < 128 → s < 128 → ((i : ℕ) → i < k → get_or o i 0 ≡ x → ⊥) → slot v x s ≡ 0

-- no entry
pub record Zeros (v : List ℕ) : Type 0 where
  pub room : length v ≡ 16384
  pub is : (t s : ℕ) → t < 128 → s < 128 → slot v t s ≡ 0

-- what `fill_vectors` is given: w has the members, m is their number
pub record VectorsGiven (f : List ℕ) (n : ℕ) (w : Words) (m : ℕ) (c : List ℕ) (width : ℕ) (v : List ℕ) : Type 0 where
  pub table : Under n f
  pub forces : Forces n (in_words w) (pair_of f)
  pub within : (x : ℕ) → x < 128 → in_words w x ≡ true → x < n
  pub many : m ≡ count 0 n (in_words w)
  pub columns : Columns c width
  pub empty : Zeros v

-- and what it answers: every entry is told
pub record VectorsMade (f : List ℕ) (n : ℕ) (w : Words) (c v u : List ℕ) (r : Bool) : Type 0 where
  pub room : length u ≡ 16384
  pub is : r ≡ not (cyclic n (pair_of f))
  pub vectors : r ≡ true → (t s : ℕ) → t < 128 → s < 128 → slot u t s ≡ with_own (in_words w) (column_of c) (latest n (column_of c) (pair_of f)) t s
  pub kept : r ≡ false → u ≡ v

-- ── asking ──

-- the entries of row t are numbers of rows
pub record Small (v : List ℕ) (t : ℕ) : Type 0 where
  pub is : (s : ℕ) → s < 128 → slot v t s < 128

-- the row of f that column s of row t names has the bit y
unfoldable pub named : List ℕ → List ℕ → ℕ → ℕ → ℕ → Bool
named f v t y s = bit_of f (slot v t s) y

-- .. those of the columns from 1 to before `width`, joined
pub record Joined (f v : List ℕ) (t width : ℕ) (r : Words) : Type 0 where
  pub is : (y : ℕ) → y < 128 → row_of r.lo r.hi y ≡ some 1 width (named f v t y)
