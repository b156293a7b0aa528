-- Document 02's rule of who counts as committed, as a condition in its own terms, apart from the function that computes it.
use Rattle.std.specs.Prelude.{ℕ, ◌≡◌, false, ◌↔◌}
use Rattle.rules.specs.History.{History, tx, op}
use Rattle.demand1.specs.Lawful.{IsOp, IsWrite}

-- a "reads one of its values", u's: a read of a has the key and value of a write of u, whatever kind of read it is
pub record ReadsValueOf (h : History) (a u : ℕ) : Type 0 where
  pub read : ℕ
  pub is_op : IsOp h read
  pub is_read : (op h read).is_write ≡ false
  pub in_reader : (op h read).tx ≡ a
  pub write : ℕ
  pub is_write : IsWrite h (op h read).key (op h read).value write
  pub in_writer : (op h write).tx ≡ u

-- "Status 2 now means unanswered. Such a transaction counts as committed exactly if a transaction counted as committed, other than itself, reads one of
-- its values; the smallest such set is meant. All others count as aborted." Transaction 0 has status 1
pub data Counts (h : History) : ℕ → Type 0 where
  by_status : {t : ℕ} → (tx h t).status ≡ 1 → Counts h t
  by_reader : {a u : ℕ} → (tx h u).status ≡ 2 → Counts h a → (a ≡ u → ⊥) → ReadsValueOf h a u → Counts h u

-- a set that has the committed ones and each unanswered one that another of its members reads
pub record ClosedUnder (h : History) (P : ℕ → Type 0) : Type 0 where
  pub has : (t : ℕ) → (tx h t).status ≡ 1 → P t
  pub gains : (a u : ℕ) → (tx h u).status ≡ 2 → P a → (a ≡ u → ⊥) → ReadsValueOf h a u → P u

-- P is the smallest such set
pub record Smallest (h : History) (P : ℕ → Type 0) : Type 1 where
  pub closed : ClosedUnder h P
  pub within : (Q : ℕ → Type 0) → ClosedUnder h Q → (t : ℕ) → P t → Q t

-- the rule of an unanswered u, for the set P: it is in P "exactly if" a member, other than itself, reads one of its values
abbrev pub ExactlyIfRead : History → (ℕ → Type 0) → ℕ → Type 0
ExactlyIfRead h P u = P u ↔ ((a : ℕ) × P a × (a ≡ u → ⊥) × ReadsValueOf h a u)
