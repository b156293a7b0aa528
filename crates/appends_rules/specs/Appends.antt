-- Document 02, "lists instead of single values": the appends and list reads of a history, and the list of each list read.
--
-- A history's operations are what they were. An append of v to x is held as a write of v to the key 2^32 + x; a list read of x as a write to the key 2^33 + x
-- of the offset that its record has in the trace (rules/specs/History.antt). No read and no write of single values has such a key.
use Rattle.std.specs.Prelude.{ℕ, ◌+◌, ◌*◌, ◌≤◌, ◌<◌, ◌≡◌, Bool, true, List, [], ◌∷◌, length, leb}
use Rattle.base.specs.Base.{◌and◌, listed}
use Rattle.rules.specs.Numbers.{le}
use Rattle.rules.specs.History.{History, op, write_of, committed, append_key, plain_key}
use Rattle.rules.specs.Records.{number_at}

-- operation i is a list read; the key of it
unfoldable pub is_list : History → ℕ → Bool
is_list h i = (op h i).is_write and leb 8589934592 (op h i).key

unfoldable pub key_of : History → ℕ → ℕ
key_of h i = plain_key (op h i).key

-- the number of the append of v to x, 0 where there is none; its transaction
unfoldable pub append_of : History → ℕ → ℕ → ℕ
append_of h x v = write_of h (append_key x) v

unfoldable pub appender_of : History → ℕ → ℕ → ℕ
appender_of h x v = (op h (append_of h x v)).tx

-- "each list read of a transaction that counts as committed"
unfoldable pub is_judged_list : History → ℕ → Bool
is_judged_list h i = is_list h i and committed h (op h i).tx

-- the list in the record at p: "a 2-byte number .., that many values", behind the record's header, its session and its key
unfoldable pub value_at : List ℕ → ℕ → ℕ → ℕ
value_at s p k = le 8 s (p + 16 + 8 * k)

unfoldable pub values_at : List ℕ → ℕ → List ℕ
values_at s p = listed 0 (number_at s p) (λ k. value_at s p k ∷ [])

-- the list that each list read of a history has, as the trace s says
unfoldable pub lists_in : List ℕ → History → ℕ → List ℕ
lists_in s h i = values_at s (op h i).value

-- every list read of the history h has a key of the trace's, and its list stands in the trace s whole: so it is where h was read from s
pub record ListsWithin (s : List ℕ) (h : History) : Type 0 where
  pub small : (i : ℕ) → is_list h i ≡ true → (op h i).key < 12884901888
  pub within : (i : ℕ) → is_list h i ≡ true → (op h i).value + 16 + 8 * number_at s (op h i).value ≤ length s
