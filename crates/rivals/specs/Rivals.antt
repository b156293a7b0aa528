-- Document 01, "What each level forces": the search for rivals, and how the table of their pairs is filled.
use Rattle.std.specs.Prelude.{ℕ, ◌+◌, ◌*◌, ◌≤◌, ◌<◌, ◌≡◌, Bool, true, not, List, length, ltb, eqb}
use Rattle.base.specs.Base.{◌and◌, ◌or◌, pick, some, first}
use Rattle.rules.specs.History.{History, op, op_count, size, source_of, committed}
use Rattle.rules.specs.Reads.{writes_at, is_external, reads_from}
use Rattle.rules.specs.Levels.{basic, leads, writes_key, settles}
use Rattle.table.specs.Table.{history_of, of_tx, last_of, prev_of, Below}
use Rattle.table.proofs.Chain.{OnChain}
use Rattle.bits.specs.Bits.{test_bit, bit_of, Holds, row_of}
use Rattle.pairs.specs.Pairs.{Ready, before, cell, across}
use Rattle.keys.specs.Keys.{bucket_of, is_shared, wrote}
use Rattle.vectors.specs.Vectors.{Small, named}
use Rattle.order.specs.declared.Words.{Words}

-- the pairs that the search goes by: basic pairs at levels 1 and 2, what leads to what at level 3
unfoldable pub pairs_for : History → ℕ → ℕ → ℕ → Bool
pairs_for h level = pick (eqb level 3) (leads h) (basic h)

-- the rows of s that the vector of t3 in x names, in columns below `width`, have, of all others than t3, what leads to t3
pub record ByVectors (h s x : List ℕ) (width : ℕ) : Type 0 where
  pub long : length x ≡ 16384
  pub wide : width ≤ 128
  pub small : (t3 : ℕ) → t3 < size (history_of h) → Small x t3
  pub seen : (t3 t2 : ℕ) → t3 < size (history_of h) → t2 < 128 → (t2 ≡ t3 → ⊥) → some 1 width (named s x t3 t2) ≡ leads (history_of h) t2 t3

-- the vector of t3 in x can be asked
pub record Asked (x : List ℕ) (width t3 : ℕ) : Type 0 where
  pub long : length x ≡ 16384
  pub wide : width ≤ 128
  pub small : Small x t3

-- the history's table h, what is to be known of its operations, k, and a table s of what the level has to be told; or, where `width` is not 0, level 3 is told by
-- vectors
pub record Told (h k s x : List ℕ) (width level : ℕ) : Type 0 where
  pub ready : Ready h k
  pub from : 1 ≤ level
  pub to : level ≤ 3
  pub room : length s ≡ 256
  pub table : width ≡ 0 → Holds s (before (pairs_for (history_of h) level))
  pub vectors : 0 < width → (level ≡ 3) × ByVectors h s x width

-- ── which reads of t3 see t2 ──

-- the number of t3's first clean external read from t2; the number of operations where it has none
unfoldable pub first_from : History → ℕ → ℕ → ℕ
first_from h t2 t3 = first (op_count h) 1 (op_count h + 1) (reads_from h t3 t2)

-- the reads of t3 above this number see t2. Level 1: "an earlier clean external read in t3, of any key, came from t2", so all reads behind the first of
-- those. Levels 2 and 3 ask nothing of the read: "(t2, t3) is a basic pair", "t2 leads to t3 through one or more basic pairs".
unfoldable pub seen_from : History → ℕ → ℕ → ℕ → ℕ
seen_from h level t2 t3 = pick (pairs_for h level t2 t3) (pick (eqb level 1) (first_from h t2 t3) 0) (op_count h)

-- operation i is one of t3's above `from`
unfoldable pub is_above : History → ℕ → ℕ → ℕ → Bool
is_above h t3 from i = eqb (op h i).tx t3 and ltb from i

-- ── which of these t2 is a rival for ──

-- read i "is a clean external read .. from t1", and t2 "is [not] t1"
unfoldable pub can_rival : History → ℕ → ℕ → Bool
can_rival h t2 i = is_external h i and not (eqb (source_of h i) t2)

-- .. and t2 "writes x"
unfoldable pub fits : History → ℕ → ℕ → Bool
fits h t2 i = can_rival h t2 i and writes_key h t2 (op h i).key

-- ── the search ──

-- "A search for a rival stops at the first one that settles the pair": where row t1 of the table v has the bit t2, no read from t1 is tried
unfoldable pub is_tried : History → List ℕ → ℕ → ℕ → Bool
is_tried h v t2 i = can_rival h t2 i and not (bit_of v (source_of h i) t2)

-- a read that is tried is a hit if t2 "writes x"; a hit among the reads of t3 above `from`
unfoldable pub is_hit : History → List ℕ → ℕ → ℕ → Bool
is_hit h v t2 i = is_tried h v t2 i and writes_key h t2 (op h i).key

unfoldable pub is_hit_of : History → List ℕ → ℕ → ℕ → ℕ → ℕ → Bool
is_hit_of h v t2 t3 from i = is_above h t3 from i and is_hit h v t2 i

-- .. and the read's bucket has t2: so it may write the read's own key
unfoldable pub is_candidate : History → List ℕ → ℕ → ℕ → Bool
is_candidate h v t2 i = is_tried h v t2 i and wrote h (bucket_of (op h i).key) t2

-- operation w is one of t2's; transaction 0 has none, and any stands for its write
unfoldable pub stands_for : History → ℕ → ℕ → Bool
stands_for h t2 w = eqb t2 0 or of_tx h t2 w

-- .. and it writes the key x; "Transaction 0 .. writes value 0 to every key"
unfoldable pub writes_for : History → ℕ → ℕ → ℕ → Bool
writes_for h t2 x w = eqb t2 0 or writes_at h t2 x w

-- where the look through t2's operations starts: at the last one, for 0 at the read itself; 0, nowhere, where t2 is no candidate
unfoldable pub tries_from : History → List ℕ → ℕ → ℕ → ℕ
tries_from h v t2 i = pick (is_candidate h v t2 i) (pick (eqb t2 0) i (last_of h t2)) 0

-- ── what is marked: row t1 gets the bit t2 ──

-- by read i of t3 above `from`, if it fits; by all of them up to j
unfoldable pub hit_bit : History → ℕ → ℕ → ℕ → ℕ → ℕ → ℕ → Bool
hit_bit h t2 t3 from i = cell (is_above h t3 from i and fits h t2 i) (source_of h i) t2

unfoldable pub hit_bits : History → ℕ → ℕ → ℕ → ℕ → ℕ → ℕ → Bool
hit_bits h t2 t3 from j = across 1 (j + 1) (hit_bit h t2 t3 from)

-- read i is in t3, and settles the pair of t2 and its source
unfoldable pub settles_in : History → ℕ → ℕ → ℕ → ℕ → Bool
settles_in h level t3 t2 i = committed h t2 and eqb (op h i).tx t3 and settles h level t2 (source_of h i) i

-- by read i; by the reads of t3 up to j, against t2
unfoldable pub rival_bit : History → ℕ → ℕ → ℕ → ℕ → ℕ → ℕ → Bool
rival_bit h level t3 t2 i = cell (settles_in h level t3 t2 i) (source_of h i) t2

unfoldable pub rival_bits : History → ℕ → ℕ → ℕ → ℕ → ℕ → ℕ → Bool
rival_bits h level t3 j t2 = across 1 (j + 1) (rival_bit h level t3 t2)

-- .. if it passes p; against all that do
unfoldable pub rival_bits_if : History → ℕ → ℕ → ℕ → (ℕ → Bool) → ℕ → ℕ → ℕ → Bool
rival_bits_if h level t3 j p t2 x y = p t2 and rival_bits h level t3 j t2 x y

unfoldable pub rivals_among : History → ℕ → ℕ → ℕ → (ℕ → Bool) → ℕ → ℕ → Bool
rivals_among h level t3 j p = across 0 128 (rival_bits_if h level t3 j p)

-- by all reads of t3, against any; by the reads of all transactions
unfoldable pub rivals_of : History → ℕ → ℕ → ℕ → ℕ → Bool
rivals_of h level t3 = across 0 (size h) (rival_bits h level t3 (op_count h))

unfoldable pub rivals : History → ℕ → ℕ → ℕ → Bool
rivals h level = across 1 (size h) (rivals_of h level)

-- ── sets of rivals, in two words ──

-- they are, of all others than t3, those that the level's pairs have before t3
pub record Foregoing (h : History) (level t3 lo hi : ℕ) : Type 0 where
  pub is : (t2 : ℕ) → t2 < 128 → (t2 ≡ t3 → ⊥) → row_of lo hi t2 ≡ pairs_for h level t2 t3

-- they are others than t3, and the level's pairs have all of them before t3
pub record Chosen (h : History) (level t3 lo hi : ℕ) : Type 0 where
  pub is : (t2 : ℕ) → t2 < 128 → row_of lo hi t2 ≡ true → pairs_for h level t2 t3 ≡ true
  pub other : (t2 : ℕ) → t2 < 128 → row_of lo hi t2 ≡ true → t2 ≡ t3 → ⊥

-- the word r, of the 64 numbers from 64 * half on, has those of `left` that are candidates for read i
pub record Candidates (h : History) (v : List ℕ) (i left half r : ℕ) : Type 0 where
  pub is : (y : ℕ) → y < 64 → test_bit r y ≡ test_bit left y and is_candidate h v (64 * half + y) i

-- all candidates of read i are rivals: no level but 1 asks anything of the read, and the read's bucket is not shared
unfoldable pub is_told : History → ℕ → ℕ → Bool
is_told h level i = not (eqb level 1) and is_external h i and not (is_shared h (bucket_of (op h i).key))

-- ── read by read ──

-- a loop that has come to read i of t3, with the set (lo, hi) left: the table v and what the reads up to i mark against these are the whole m
pub record Remains (h : History) (level t3 : ℕ) (m : ℕ → ℕ → Bool) (i lo hi : ℕ) (v : List ℕ) : Type 0 where
  pub room : length v ≡ 256
  pub on : OnChain h t3 i
  pub chosen : Chosen h level t3 lo hi
  pub rest : (x y : ℕ) → x < 128 → y < 128 → bit_of v x y or rivals_among h level t3 i (row_of lo hi) x y ≡ m x y

-- read i was done: it made u of the table v, and left r; the loop goes on at the operation before
pub record Behind (h : History) (level t3 i lo hi : ℕ) (v : List ℕ) (r : Words) (u : List ℕ) : Type 0 where
  pub goes : (m : ℕ → ℕ → Bool) (j : ℕ) → Below j (prev_of h i) i → Remains h level t3 m i lo hi v → Remains h level t3 m j r.lo r.hi u
