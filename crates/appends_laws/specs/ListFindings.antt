-- Document 02's findings among list reads, with their last field, as conditions in its own terms. Over a history h, the list l i of each list read i, and the
-- notion C of clean.
use Rattle.std.specs.Prelude.{ℕ, ◌<◌, ◌≡◌, List, length}
use Rattle.rules.specs.History.{History, tx, op}
use Rattle.appends_rules.specs.Appends.{key_of}
use Rattle.appends_rules.specs.ListKinds.{element, last_element}
use Rattle.appends_laws.specs.ListFits.{AppendOf, JudgedList}

module _ (h : History) (l : ℕ → List ℕ) (C : ℕ → Type 0) where
  -- a list read that is judged and not clean
  pub record ListFinding (i : ℕ) : Type 0 where
    pub judged : JudgedList h i
    pub unclean : C i → ⊥

module _ (h : History) (l : ℕ → List ℕ) (i : ℕ) where
  -- k is the first element of list read i for which P holds
  pub record FirstElement (P : ℕ → Type 0) (k : ℕ) : Type 0 where
    pub within : k < length (l i)
    pub holds : P k
    pub none_earlier : (j : ℕ) → j < k → P j → ⊥

  -- element k is equal to an earlier one; its appender has status 0
  abbrev pub EqualsEarlier : ℕ → Type 0
  EqualsEarlier k = (j : ℕ) × (j < k) × (element (l i) j ≡ element (l i) k)

  abbrev pub Undone : ℕ → Type 0
  Undone k = (w : ℕ) × AppendOf h (key_of h i) (element (l i) k) w × ((tx h (op h w).tx).status ≡ 0)

  -- the last field of the finding of list read i, by its kind: "the append of the first element at fault for 8 and 9, of the last element for 10, else 0"
  pub data FaultNumber : ℕ → ℕ → Type 0 where
    for_7 : FaultNumber 7 0
    for_8 : {k w : ℕ} → FirstElement EqualsEarlier k → AppendOf h (key_of h i) (element (l i) k) w → FaultNumber 8 w
    for_9 : {k w : ℕ} → FirstElement Undone k → AppendOf h (key_of h i) (element (l i) k) w → FaultNumber 9 w
    for_10 : {w : ℕ} → AppendOf h (key_of h i) (last_element (l i)) w → FaultNumber 10 w
    for_11 : FaultNumber 11 0
