-- Document 02's write and read dependencies, and the pairs listed over them, as conditions in its own terms. Over a history h, the list l i of each list
-- read i, and the notion C of clean.
use Rattle.std.specs.Prelude.{ℕ, ◌+◌, ◌-◌, ◌<◌, ◌≤◌, ◌≡◌, List, length}
use Rattle.theory.specs.Entries.{AllOf}
use Rattle.rules.specs.History.{History, op}
use Rattle.rules.specs.Outcome.{Pair}
use Rattle.demand3.specs.Forced.{Way, Adds}
use Rattle.demand3.specs.Lists.{PairBefore}
use Rattle.appends_rules.specs.Appends.{key_of}
use Rattle.appends_rules.specs.ListKinds.{element}
use Rattle.appends_laws.specs.ListFits.{AppendOf}

module _ (h : History) (l : ℕ → List ℕ) (C : ℕ → Type 0) where
  -- list read i has the longest clean list of its key: no clean list of the key is longer
  pub record LongestClean (i : ℕ) : Type 0 where
    pub clean : C i
    pub longest : (j : ℕ) → C j → key_of h j ≡ key_of h i → length (l j) ≤ length (l i)

  -- element k of list read i was appended by a
  pub record AppendedBy (i k a : ℕ) : Type 0 where
    pub append : ℕ
    pub is : AppendOf h (key_of h i) (element (l i) k) append
    pub in_tx : (op h append).tx ≡ a

  -- a before b, for a reason
  pub data Depends (a b : ℕ) : ℕ → Type 0 where
    -- "The longest clean list of a key gives write dependencies, reason 16, between the different transactions of neighbouring elements"
    write : {i k : ℕ} → LongestClean i → k + 1 < length (l i) → AppendedBy i k a → AppendedBy i (k + 1) b → (a ≡ b → ⊥) → Depends a b 16
    -- "the last element of each clean list gives a read dependency, reason 4, from its transaction to a different reader"
    read : {i : ℕ} → C i → 0 < length (l i) → AppendedBy i (length (l i) - 1) a → (op h i).tx ≡ b → (a ≡ b → ⊥) → Depends a b 4

  -- "over write dependencies"; "over both"
  abbrev pub WriteDep : ℕ → ℕ → Type 0
  WriteDep a b = Depends a b 16

  abbrev pub AnyDep : ℕ → ℕ → Type 0
  AnyDep a b = (r : ℕ) × Depends a b r

  -- "every reason that holds is in it"
  pub record DepReasons (a b n : ℕ) : Type 0 where
    pub read : ℕ
    pub write : ℕ
    pub adds_4 : Adds (Depends a b 4) 4 read
    pub adds_16 : Adds (Depends a b 16) 16 write
    pub sum : n ≡ read + write

-- ── "by demand 3's rule", over any relation ──

-- "A pair is listed if its second leads to its first"
pub record ListedOver (R : ℕ → ℕ → Type 0) (a b : ℕ) : Type 0 where
  pub is : R a b
  pub back : Way R b a

-- every listed pair once, by first and then second, nothing else
abbrev pub PairsOver : (ℕ → ℕ → Type 0) → List Pair → Type 0
PairsOver R = AllOf PairBefore (λ p. ListedOver R p.one p.two)
