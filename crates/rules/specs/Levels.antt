-- Document 01, "What each level forces". Levels: 1 read committed, 2 read atomicity, 3 transactional causal consistency.
use Rattle.std.specs.Prelude.{ℕ, ◌+◌, Bool, not, ltb, eqb}
use Rattle.base.specs.Base.{◌and◌, ◌or◌, pick, some}
use Rattle.theory.specs.Leads.{via}
use Rattle.rules.specs.History.{History, tx, op, op_count, size, source_of, committed}
use Rattle.rules.specs.Reads.{wrote_between, is_external, reads_from}

-- "start (0 before every other)"
unfoldable pub is_start : History → ℕ → ℕ → Bool
is_start h a b = eqb a 0 and ltb 0 b and committed h b

-- "session (an earlier transaction before each later one of its session)"
unfoldable pub is_session : History → ℕ → ℕ → Bool
is_session h a b = ltb 0 a and ltb a b and committed h a and committed h b and eqb (tx h a).session (tx h b).session

-- "read (the source before the reader of a clean external read)"
unfoldable pub is_read : History → ℕ → ℕ → Bool
is_read h a b = some 1 (op_count h + 1) (reads_from h b a)

-- "Basic pairs, always forced"
unfoldable pub basic : History → ℕ → ℕ → Bool
basic h a b = is_start h a b or is_session h a b or is_read h a b

-- a leads to b "through one or more basic pairs"
unfoldable pub leads : History → ℕ → ℕ → Bool
leads h a b = via (basic h) (size h) a b

-- t writes x; "Transaction 0 .. writes value 0 to every key"
unfoldable pub writes_key : History → ℕ → ℕ → Bool
writes_key h t x = eqb t 0 or wrote_between h t x 0 (op_count h + 1)

-- what a level asks between the rival t2 and the read i in t3
unfoldable pub sees : History → ℕ → ℕ → ℕ → ℕ → Bool
sees h level t2 t3 i =
    -- "an earlier clean external read in t3, of any key, came from t2"
    pick (eqb level 1) (some 1 i (reads_from h t3 t2))
    -- "(t2, t3) is a basic pair"
    (pick (eqb level 2) (basic h t2 t3)
    -- "t2 leads to t3 through one or more basic pairs"
    (leads h t2 t3))

-- read i is "a clean external read of x in t3 from t1, and .. t2 .. writes x and is neither t1 nor t3", and the level's condition holds
unfoldable pub settles : History → ℕ → ℕ → ℕ → ℕ → Bool
settles h level t2 t1 i =
    is_external h i and eqb (source_of h i) t1 and not (eqb t2 t1) and not (eqb t2 (op h i).tx)
    and writes_key h t2 (op h i).key and sees h level t2 (op h i).tx i

-- "The level adds the pair t2 before t1"
unfoldable pub is_rival : History → ℕ → ℕ → ℕ → Bool
is_rival h level t2 t1 = committed h t2 and some 1 (op_count h + 1) (settles h level t2 t1)

-- "A lawful order contains every forced pair."
unfoldable pub forced : History → ℕ → ℕ → ℕ → Bool
forced h level a b = basic h a b or is_rival h level a b

-- "Reasons are a sum of 1 start, 2 session, 4 read, 8 rival; every reason that holds is in it."
unfoldable pub reasons : History → ℕ → ℕ → ℕ → ℕ
reasons h level a b =
    pick (is_start h a b) 1 0 + pick (is_session h a b) 2 0 + pick (is_read h a b) 4 0 + pick (is_rival h level a b) 8 0
