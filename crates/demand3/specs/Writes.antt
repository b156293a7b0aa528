-- Document 02, "which write was it?": the last field of a finding, as conditions in its own terms, apart from the search that finds it.
use Rattle.std.specs.Prelude.{ℕ, ◌<◌, ◌≡◌}
use Rattle.rules.specs.History.{History, op}
use Rattle.demand1.specs.Lawful.{IsWrite}
use Rattle.demand2.specs.Counts.{Counts}
use Rattle.demand2.specs.Kinds.{WriteIn}

-- operation j wrote the key and the value of read i
abbrev pub WroteIt : History → ℕ → ℕ → Type 0
WroteIt h i j = IsWrite h (op h i).key (op h i).value j

-- "where no write exists: kind 1, and kind 5 with value 0"; k is the kind of read i
pub data Unwritten (h : History) (i : ℕ) : ℕ → Type 0 where
  kind_1 : Unwritten h i 1
  kind_5 : (op h i).value ≡ 0 → Unwritten h i 5

-- the last field of the finding of read i, whose kind is k
pub data WriteNumber (h : History) (i k : ℕ) : ℕ → Type 0 where
  -- "The search for a write must answer its operation number": that of the operation that wrote the read's key and value, the only one there is
  wrote : {w : ℕ} → (Unwritten h i k → ⊥) → WroteIt h i w → ((j : ℕ) → WroteIt h i j → j ≡ w) → WriteNumber h i k w
  -- "0 where no write exists"
  none : Unwritten h i k → ((j : ℕ) → WroteIt h i j → ⊥) → WriteNumber h i k 0

-- "Moderators ask where an unclean value came from": what stands at the write w of read i, whose kind is k
pub data CameFrom (h : History) (i w : ℕ) : ℕ → Type 0 where
  -- thin air: nowhere
  nowhere : w ≡ 0 → CameFrom h i w 1
  -- aborted: another transaction, which aborted or counts as aborted
  from_aborted : ((op h w).tx ≡ (op h i).tx → ⊥) → (Counts h (op h w).tx → ⊥) → CameFrom h i w 2
  -- future: the read's own transaction, behind the read
  from_behind : (op h w).tx ≡ (op h i).tx → i < w → CameFrom h i w 3
  -- not my last: the read's own transaction, before the read, and it wrote the key again in between
  from_before : {j : ℕ} → (op h w).tx ≡ (op h i).tx → WriteIn h (op h i).tx (op h i).key j → w < j → j < i → CameFrom h i w 4
  -- not my own: nobody wrote the initial value; else another, committed transaction
  from_the_start : w ≡ 0 → (op h i).value ≡ 0 → CameFrom h i w 5
  from_another : ((op h w).tx ≡ (op h i).tx → ⊥) → Counts h (op h w).tx → CameFrom h i w 5
  -- intermediate: another committed transaction, which later wrote the key again
  from_overwritten : {j : ℕ} → ((op h w).tx ≡ (op h i).tx → ⊥) → Counts h (op h w).tx → WriteIn h (op h w).tx (op h i).key j → w < j → CameFrom h i w 6
