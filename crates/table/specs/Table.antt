-- How one lent table of 2,306 words holds a history. Above this crate nobody sees a word.
--
--   word 0         the number of transactions + 128 * the number of operations
--   word t         transaction t: status + 4 * session + 2^18 * the number of its last operation + 2^29 where it is marked as one that counts as committed
--   word 128 + 2 i operation i: its transaction + 128 for a write + 256 * key + 2^40 * the number of the same transaction's previous operation
--                  + 2^51 * the number of the same bucket's previous write, where i is a write
--   word 129 + 2 i operation i: its value
--   word 2178 + b  the number of bucket b's last write
--
-- So the operations of one transaction are reached from its last one backwards, without a look at any other's. A write falls into one of 128 buckets by its
-- key and its value, so that a write of a value to a key is looked for among those of one bucket only.
use Rattle.std.specs.Prelude.{ℕ, zero, suc, ◌+◌, ◌*◌, ◌/◌, ◌%◌, ◌≤◌, ◌<◌, ◌≡◌, Bool, true, List, length, get_or, set, ltb, eqb}
use Rattle.base.specs.Base.{◌and◌, pick, last, numbered}
use Rattle.rules.specs.History.{Tx, Op, History, op, tx_count, op_count, committed}

-- how many words a table has
abbrev pub table_words : ℕ
table_words = 2306

-- ── what the words say ──

unfoldable pub tx_at : List ℕ → ℕ → Tx
tx_at h t = record { session = get_or h t 0 / 4 % 65536; status = get_or h t 0 % 4 }

-- an operation whose words are w and v
unfoldable pub op_of : ℕ → ℕ → Op
op_of w v = record { tx = w % 128; is_write = eqb (w / 128 % 2) 1; key = w / 256 % 17179869184; value = v }

unfoldable pub op_at : List ℕ → ℕ → Op
op_at h i = op_of (get_or h (128 + 2 * i) 0) (get_or h (129 + 2 * i) 0)

unfoldable pub history_of : List ℕ → History
history_of h = record { txs = numbered (get_or h 0 0 % 128) (tx_at h); ops = numbered (get_or h 0 0 / 128) (op_at h) }

-- the numbers kept: with transaction t, of its last operation; with operation i, of the one before it; with bucket b, of its last write; with write i, of
-- the one before it in its bucket
unfoldable pub last_at : List ℕ → ℕ → ℕ
last_at h t = get_or h t 0 / 262144 % 2048

unfoldable pub prev_at : List ℕ → ℕ → ℕ
prev_at h i = get_or h (128 + 2 * i) 0 / 4398046511104 % 2048

unfoldable pub head_at : List ℕ → ℕ → ℕ
head_at h b = get_or h (2178 + b) 0

unfoldable pub link_at : List ℕ → ℕ → ℕ
link_at h i = get_or h (128 + 2 * i) 0 / 9007199254740992

-- transaction t has the mark
unfoldable pub marked : List ℕ → ℕ → Bool
marked h t = eqb (get_or h t 0 / 536870912 % 2) 1

-- ── a transaction's operations ──

-- operation i is one of t's
unfoldable pub of_tx : History → ℕ → ℕ → Bool
of_tx h t i = eqb (op h i).tx t

-- the last of t's operations whose number is below n; 0 where there is none
unfoldable pub last_below : History → ℕ → ℕ → ℕ
last_below h t n = last (of_tx h t) n

-- its last operation of all; the one before operation i in the same transaction
unfoldable pub last_of : History → ℕ → ℕ
last_of h t = last_below h t (op_count h + 1)

unfoldable pub prev_of : History → ℕ → ℕ
prev_of h i = last_below h (op h i).tx i

-- ── a bucket's writes ──

-- the bucket of a write of v to x; of a list read, whose key is 2^33 or more, by the key alone, so that those of a key are in one
unfoldable pub bucket_of : ℕ → ℕ → ℕ
bucket_of x v = pick (ltb x 8589934592) ((x + v) % 128) (x % 128)

-- operation i is a write of bucket b
unfoldable pub in_bucket : History → ℕ → ℕ → Bool
in_bucket h b i = (op h i).is_write and eqb (bucket_of (op h i).key (op h i).value) b

-- the last such of all, 0 where there is none; the one before write i in the same bucket
unfoldable pub head_of : History → ℕ → ℕ
head_of h b = last (in_bucket h b) (op_count h + 1)

unfoldable pub link_of : History → ℕ → ℕ
link_of h i = last (in_bucket h (bucket_of (op h i).key (op h i).value)) i

-- operation j is a write of the key x; the last such before i with i's key: of a list read, the list read of its key before it; 0 where there is none
unfoldable pub keyed : History → ℕ → ℕ → Bool
keyed h x j = (op h j).is_write and eqb (op h j).key x

unfoldable pub prev_list : History → ℕ → ℕ
prev_list h i = last (keyed h (op h i).key) i

-- ── tables in good order ──

-- every number that the table keeps is the one that its history gives
pub record Held (h : List ℕ) : Type 0 where
  pub room : length h ≡ table_words
  pub few : tx_count (history_of h) ≤ 127
  pub most : op_count (history_of h) ≤ 1024
  pub txs_in : (i : ℕ) → 1 ≤ i → i ≤ op_count (history_of h) → (1 ≤ (op (history_of h) i).tx) × ((op (history_of h) i).tx ≤ tx_count (history_of h))
  pub lasts : (t : ℕ) → 1 ≤ t → t ≤ tx_count (history_of h) → last_at h t ≡ last_of (history_of h) t
  pub prevs : (i : ℕ) → 1 ≤ i → i ≤ op_count (history_of h) → prev_at h i ≡ prev_of (history_of h) i
  pub heads : (b : ℕ) → b < 128 → head_at h b ≡ head_of (history_of h) b
  pub links : (i : ℕ) → 1 ≤ i → i ≤ op_count (history_of h) → (op (history_of h) i).is_write ≡ true → link_at h i ≡ link_of (history_of h) i

-- .. that have a transaction t; an operation i, or a write i
pub record HasTx (h : List ℕ) (t : ℕ) : Type 0 where
  pub held : Held h
  pub from : 1 ≤ t
  pub to : t ≤ tx_count (history_of h)

pub record HasOp (h : List ℕ) (i : ℕ) : Type 0 where
  pub held : Held h
  pub from : 1 ≤ i
  pub to : i ≤ op_count (history_of h)

pub record HasWrite (h : List ℕ) (i : ℕ) : Type 0 where
  pub there : HasOp h i
  pub writes : (op (history_of h) i).is_write ≡ true

-- .. or a list read i
pub record HasList (h : List ℕ) (i : ℕ) : Type 0 where
  pub there : HasWrite h i
  pub of_list : 8589934592 ≤ (op (history_of h) i).key

-- .. whose marks say who counts as committed: they are worked out behind the reading, once
pub record Settled (h : List ℕ) : Type 0 where
  pub held : Held h
  pub counts : (t : ℕ) → 1 ≤ t → t ≤ tx_count (history_of h) → marked h t ≡ committed (history_of h) t

-- .. that hold x
pub record HoldsHistory (h : List ℕ) (x : History) : Type 0 where
  pub held : Held h
  pub is : history_of h ≡ x

-- ── the stores ──

-- the first n buckets have no write
unfoldable pub no_heads : ℕ → List ℕ → List ℕ
no_heads zero h = h
no_heads (suc n) h = set (no_heads n h) (2178 + n) 0

-- no transaction and no operation: the count decides, so besides the buckets no other word has to change
unfoldable pub cleared : List ℕ → List ℕ
cleared h = no_heads 128 (set h 0 0)

-- one transaction more, which is open (status 3) and has no operation
unfoldable pub put_tx : List ℕ → ℕ → List ℕ
put_tx h s = set (set h (get_or h 0 0 % 128 + 1) (4 * s + 3)) 0 (get_or h 0 0 + 1)

-- transaction t gets the status x
unfoldable pub close_tx : List ℕ → ℕ → ℕ → List ℕ
close_tx h t x = set h t (4 * (get_or h t 0 / 4) + x)

-- transaction t gets the mark, where c is 1, or loses it, where c is 0
unfoldable pub mark_tx : List ℕ → ℕ → ℕ → List ℕ
mark_tx h t c = set h t (get_or h t 0 % 536870912 + 536870912 * c)

-- one operation more, of t, whose first word is w besides the number of the operation before it, which is t's last; it is t's last from now on
unfoldable pub put_words : List ℕ → ℕ → ℕ → ℕ → List ℕ
put_words h t w v =
    let i = get_or h 0 0 / 128 + 1 in
    set
    (set (set (set h (128 + 2 * i) (w + 4398046511104 * (get_or h t 0 / 262144 % 2048))) (129 + 2 * i) v) t (get_or h t 0 % 262144 + 262144 * i))
    0
    (get_or h 0 0 + 128)

-- .. which is the read o; the write o, with which is kept what its bucket's word was, and whose own number is stored there
unfoldable pub put_read : List ℕ → Op → List ℕ
put_read h o = put_words h o.tx (o.tx + 256 * o.key) o.value

unfoldable pub put_write : List ℕ → Op → List ℕ
put_write h o =
    let b = 2178 + bucket_of o.key o.value in
    set (put_words h o.tx (o.tx + 128 + 256 * o.key + 9007199254740992 * get_or h b 0) o.value) b (get_or h 0 0 / 128 + 1)

unfoldable pub put_op : List ℕ → Op → List ℕ
put_op h o = pick o.is_write (put_write h o) (put_read h o)

-- ── what functions answer ──

-- the number r is x, and lies below n
pub record Below (r x n : ℕ) : Type 0 where
  pub is : r ≡ x
  pub below : r < n

-- the table's words are now g, and hold x
pub record Becomes (h g : List ℕ) (x : History) : Type 0 where
  pub is : h ≡ g
  pub holds : HoldsHistory h x
