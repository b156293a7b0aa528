-- Document 01's six kinds of read as conditions in its own terms, apart from the function that computes the kind.
use Rattle.std.specs.Prelude.{ℕ, ◌<◌, ◌≤◌, ◌≡◌, true, false, ◌⊎◌}
use Rattle.rules.specs.History.{History, op, op_count}
use Rattle.demand2.specs.Counts.{Counts}

-- operation j of the history is a write of the key x in t; with the value v
pub record WriteIn (h : History) (t x j : ℕ) : Type 0 where
  pub from : 1 ≤ j
  pub to : j ≤ op_count h
  pub is_write : (op h j).is_write ≡ true
  pub in_tx : (op h j).tx ≡ t
  pub of_key : (op h j).key ≡ x

pub record WriteOf (h : History) (t x v j : ℕ) : Type 0 where
  pub in_it : WriteIn h t x j
  pub of_value : (op h j).value ≡ v

-- "Each read in a committed transaction t is judged. It reads key x, value v." Committed is whoever counts as such, here and below
pub record JudgedRead (h : History) (i : ℕ) : Type 0 where
  pub from : 1 ≤ i
  pub to : i ≤ op_count h
  pub is_read : (op h i).is_write ≡ false
  pub in_committed : Counts h (op h i).tx

module _ (h : History) (i : ℕ) where
  -- the read's transaction, key and value
  abbrev pub t : ℕ
  t = (op h i).tx

  abbrev pub x : ℕ
  x = (op h i).key

  abbrev pub v : ℕ
  v = (op h i).value

  -- t wrote x before the read
  abbrev pub WroteBefore : Type 0
  WroteBefore = (j : ℕ) × WriteIn h t x j × (j < i)

  -- the value's write, number w, is in another, committed transaction u
  abbrev pub FromOther : ℕ → ℕ → Type 0
  FromOther u w = WriteOf h u x v w × (u ≡ t → ⊥) × Counts h u

  -- the condition of each kind, by its number
  pub data Fits : ℕ → Type 0 where
    -- "v is not 0 and no write has (x, v)"
    thin_air : (v ≡ 0 → ⊥) → ((u w : ℕ) → WriteOf h u x v w → ⊥) → Fits 1
    -- "that write is in another transaction, which aborted", or counts as aborted
    aborted : {u w : ℕ} → WriteOf h u x v w → (u ≡ t → ⊥) → (Counts h u → ⊥) → Fits 2
    -- "that write is in t, after the read"
    future : {w : ℕ} → WriteOf h t x v w → i < w → Fits 3
    -- "that write is in t, before the read, with another write of x between"
    not_my_last : {w j : ℕ} → WriteOf h t x v w → w < i → WriteIn h t x j → w < j → j < i → Fits 4
    -- "v is 0 or its write is in another, committed transaction, and t wrote x before the read"
    not_my_own : (v ≡ 0) ⊎ ((u : ℕ) × (w : ℕ) × FromOther u w) → WroteBefore → Fits 5
    -- "that write is in another committed transaction, which later wrote x again"
    intermediate : {u w j : ℕ} → FromOther u w → WriteIn h u x j → w < j → Fits 6

  -- "It gets the first kind that fits"
  pub record HasKind (k : ℕ) : Type 0 where
    pub fits : Fits k
    pub none_earlier : (l : ℕ) → l < k → Fits l → ⊥

  -- "Otherwise it is clean"
  abbrev pub Clean : Type 0
  Clean = (k : ℕ) → Fits k → ⊥

-- every read of a committed transaction is clean
abbrev pub AllClean : History → Type 0
AllClean h = (i : ℕ) → JudgedRead h i → Clean h i
