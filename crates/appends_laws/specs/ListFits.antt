-- Document 02's five kinds of list read as conditions in its own terms, apart from the functions that compute. Over a history h, the list l i of each list
-- read i, and a notion C of which list reads are clean.
use Rattle.std.specs.Prelude.{ℕ, ◌<◌, ◌≤◌, ◌≡◌, true, List, ◌++◌, ◌↔◌, length}
use Rattle.rules.specs.History.{History, tx, op, append_key, list_key}
use Rattle.demand1.specs.Lawful.{IsOp, IsWrite}
use Rattle.demand2.specs.Counts.{Counts}
use Rattle.demand2.specs.Kinds.{WriteIn}
use Rattle.appends_rules.specs.Appends.{key_of}
use Rattle.appends_rules.specs.ListKinds.{element, last_element}

-- operation w is an append of v to x, which is held as a write of v to the key 2^32 + x; operation j one of u to x, whatever its value
abbrev pub AppendOf : History → ℕ → ℕ → ℕ → Type 0
AppendOf h x v w = IsWrite h (append_key x) v w

abbrev pub AppendIn : History → ℕ → ℕ → ℕ → Type 0
AppendIn h u x j = WriteIn h u (append_key x) j

-- operation i is a list read, which is held as a write to the key 2^33 + x, where x, its key, is `key_of h i`
pub record ListRead (h : History) (i : ℕ) : Type 0 where
  pub is_op : IsOp h i
  pub held : (op h i).is_write ≡ true
  pub of_list : list_key 0 ≤ (op h i).key

-- "each list read of a transaction that counts as committed"
pub record JudgedList (h : History) (i : ℕ) : Type 0 where
  pub list_read : ListRead h i
  pub in_committed : Counts h (op h i).tx

-- a starts with b
abbrev pub StartsWith : List ℕ → List ℕ → Type 0
StartsWith a b = (r : List ℕ) × (a ≡ b ++ r)

module _ (h : History) (l : ℕ → List ℕ) (C : ℕ → Type 0) (i : ℕ) where
  -- its transaction, its key, how many elements it has, and element k
  abbrev pub t : ℕ
  t = (op h i).tx

  abbrev pub x : ℕ
  x = key_of h i

  abbrev pub n : ℕ
  n = length (l i)

  abbrev pub at : ℕ → ℕ
  at k = element (l i) k

  -- the condition of each kind, by its number
  pub data ListFits : ℕ → Type 0 where
    -- "7, an element never appended"
    never : {k : ℕ} → k < n → ((w : ℕ) → AppendOf h x (at k) w → ⊥) → ListFits 7
    -- "8, an element equal to an earlier one"
    again : {j k : ℕ} → j < k → k < n → at j ≡ at k → ListFits 8
    -- "9, an element whose appender has status 0"
    undone : {k w : ℕ} → k < n → AppendOf h x (at k) w → (tx h (op h w).tx).status ≡ 0 → ListFits 9
    -- "10, the last element's append is in another transaction that later appended to the key again"
    half : {w j : ℕ} → 0 < n → AppendOf h x (last_element (l i)) w → ((op h w).tx ≡ t → ⊥) → AppendIn h (op h w).tx x j → w < j → ListFits 10
    -- "11, neither it nor some earlier clean list of the key starts with the other"
    apart : {j : ℕ} → C j → j < i → key_of h j ≡ x → (StartsWith (l i) (l j) → ⊥) → (StartsWith (l j) (l i) → ⊥) → ListFits 11

  -- "the first that fits is its kind"
  pub record HasListKind (k : ℕ) : Type 0 where
    pub fits : ListFits k
    pub none_earlier : (m : ℕ) → m < k → ListFits m → ⊥

  -- "Otherwise it is clean."
  pub record CleanList : Type 0 where
    pub judged : JudgedList h i
    pub none_fits : (k : ℕ) → ListFits k → ⊥

-- C is what the document calls clean: the list reads that no kind fits, where 11 speaks of earlier clean ones
abbrev pub IsCleanness : History → (ℕ → List ℕ) → (ℕ → Type 0) → Type 0
IsCleanness h l C = (i : ℕ) → C i ↔ CleanList h l C i
