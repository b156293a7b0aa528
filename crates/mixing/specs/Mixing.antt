-- Row 17, "a key with single values and lists", by an index of keys in 1,153 lent numbers beside the table. A key falls into one of 128 buckets.
--
--   number b        the greatest operation that is the first of its key and whose key falls into bucket b, 0 where there is none
--   number 128 + i  where operation i is the first of its key, the next smaller such one of its bucket, 0 where there is none
--
-- So a bucket's chain has each key once, and an earlier operation of a key is looked for among the keys of one bucket only. Where no earlier operation mixes,
-- all earlier ones of a key are of one sort, and the first of them tells which.
use Rattle.std.specs.Prelude.{ℕ, ◌+◌, ◌%◌, ◌≤◌, ◌<◌, ◌≡◌, Bool, true, false, List, length, get_or, set, eqb}
use Rattle.base.specs.Base.{◌and◌, some, first, last}
use Rattle.rules.specs.History.{History, op, op_count, plain_key, clashes}

-- operation i has the key of an earlier one that is of the other sort
unfoldable pub mixes_at : History → ℕ → Bool
mixes_at h i = some 1 i (clashes h (op h i).key)

-- ── the first operation of a key ──

-- operation j is one of the key x, as a trace has it
unfoldable pub has_key : History → ℕ → ℕ → Bool
has_key h x j = eqb (plain_key (op h j).key) x

-- the first operation before i that has i's key, 0 where none has
unfoldable pub first_like : History → ℕ → ℕ
first_like h i = first 0 1 i (has_key h (plain_key (op h i).key))

-- operation i is the first of its key
unfoldable pub is_first_of_key : History → ℕ → Bool
is_first_of_key h i = eqb (first_like h i) 0

-- ── the index ──

-- the bucket of a key that is held with k
unfoldable pub key_bucket : ℕ → ℕ
key_bucket k = plain_key k % 128

-- operation i is one that the chain of bucket b has
unfoldable pub in_chain : History → ℕ → ℕ → Bool
in_chain h b i = is_first_of_key h i and eqb (key_bucket (op h i).key) b

-- the operations below n are entered in k, and none of them mixes
pub record Indexed (k : List ℕ) (h : History) (n : ℕ) : Type 0 where
  pub room : length k ≡ 1153
  pub heads : (b : ℕ) → b < 128 → get_or k b 0 ≡ last (in_chain h b) n
  pub links : (i : ℕ) → 1 ≤ i → i < n → is_first_of_key h i ≡ true → get_or k (128 + i) 0 ≡ last (in_chain h (key_bucket (op h i).key)) i
  pub unmixed : (i : ℕ) → 1 ≤ i → i < n → mixes_at h i ≡ false

-- the index where operation i, the first of its key, is entered into bucket b
unfoldable pub chained : List ℕ → ℕ → ℕ → List ℕ
chained k i b = set (set k (128 + i) (get_or k b 0)) b i

-- ── what functions answer ──

-- the answer r for operation i, and the index k behind it
pub record KeyEntered (r : Bool) (k : List ℕ) (h : History) (i : ℕ) : Type 0 where
  pub is : r ≡ mixes_at h i
  pub indexed : r ≡ false → Indexed k h (i + 1)
  pub room : length k ≡ 1153

-- .. for all of them
pub record EnteredAll (r : Bool) (k : List ℕ) (h : History) : Type 0 where
  pub is : r ≡ some 1 (op_count h + 1) (mixes_at h)
  pub indexed : r ≡ false → Indexed k h (op_count h + 1)
  pub room : length k ≡ 1153
