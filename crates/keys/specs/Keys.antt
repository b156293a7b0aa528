-- Keys by buckets, which of them are read, and who writes these.
use Rattle.std.specs.Prelude.{ℕ, ◌+◌, ◌%◌, ◌<◌, ◌≡◌, Bool, not, List, eqb, length, get_or}
use Rattle.base.specs.Base.{◌and◌, ◌or◌, pick, some, last}
use Rattle.rules.specs.History.{History, op, op_count}
use Rattle.rules.specs.Reads.{is_external}
use Rattle.bits.specs.Bits.{bit_of}
use Rattle.pairs.specs.Pairs.{cell}

-- the bucket of the key x
unfoldable pub bucket_of : ℕ → ℕ
bucket_of x = x % 128

-- ── which keys are read ──

-- operation i is a clean external read of a key of bucket b
unfoldable pub reads_into : History → ℕ → ℕ → Bool
reads_into h b i = is_external h i and eqb (bucket_of (op h i).key) b

-- the key of the last of these below n; of all
unfoldable pub key_below : History → ℕ → ℕ → ℕ
key_below h n b = (op h (last (reads_into h b) n)).key

unfoldable pub key_read : History → ℕ → ℕ
key_read h b = key_below h (op_count h + 1) b

-- operation i is one of these, and has another key than that
unfoldable pub reads_other : History → ℕ → ℕ → Bool
reads_other h b i = reads_into h b i and not (eqb (key_read h b) (op h i).key)

-- different keys of bucket b are read
unfoldable pub is_shared : History → ℕ → Bool
is_shared h b = some 1 (op_count h + 1) (reads_other h b)

-- ── who writes them ──

-- operation i is a write of the key that is read of its bucket; of any key, where different ones are
unfoldable pub is_entered : History → ℕ → Bool
is_entered h i = (op h i).is_write and (eqb (key_read h (bucket_of (op h i).key)) (op h i).key or is_shared h (bucket_of (op h i).key))

-- .. in t, of bucket b
unfoldable pub writes_into : History → ℕ → ℕ → ℕ → Bool
writes_into h b t i = is_entered h i and eqb (op h i).tx t and eqb (bucket_of (op h i).key) b

-- t has such a write; "Transaction 0 .. writes value 0 to every key"
unfoldable pub wrote : History → ℕ → ℕ → Bool
wrote h b t = eqb t 0 or some 1 (op_count h + 1) (writes_into h b t)

-- the table: row b has the bits of those that wrote. Transaction 0 always did, so bit 0 says another thing: whether the bucket is shared
unfoldable pub writers : History → ℕ → ℕ → Bool
writers h b t = pick (eqb t 0) (is_shared h b) (wrote h b t)

-- ── how it is filled ──

-- the words of r have the key that is read of each bucket
pub record Kept (h : History) (r : List ℕ) : Type 0 where
  pub room : length r ≡ 256
  pub is : (b : ℕ) → b < 128 → get_or r b 0 ≡ key_read h b

-- the bit by which operation i says that its bucket is shared; those of all operations
unfoldable pub shared_bit : History → ℕ → ℕ → ℕ → Bool
shared_bit h i = cell (reads_other h (bucket_of (op h i).key) i) (bucket_of (op h i).key) 0

unfoldable pub shared_only : History → ℕ → ℕ → Bool
shared_only h b t = eqb t 0 and is_shared h b

-- the table w has these, whatever it has besides
pub record Parted (h : History) (w : List ℕ) : Type 0 where
  pub room : length w ≡ 256
  pub is : (b : ℕ) → b < 128 → bit_of w b 0 ≡ is_shared h b

-- the bit of operation i's transaction
unfoldable pub write_bit : History → ℕ → ℕ → ℕ → Bool
write_bit h i = cell (is_entered h i) (bucket_of (op h i).key) (op h i).tx
