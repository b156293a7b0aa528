-- Document 02, request Five: "Verdicts, orders and pairs stay equal; findings may differ only in operation numbers, so in their order." Two histories that
-- differ by the numbers of their operations, and what judging them then has in common.
use Rattle.std.specs.Prelude.{ℕ, ◌+◌, ◌*◌, ◌<◌, ◌≡◌, List, ◌↔◌, get_or, drop}
use Rattle.theory.specs.Entries.{Number}
use Rattle.rules.specs.Numbers.{le}
use Rattle.rules.specs.History.{History, op, op_count}
use Rattle.rules.specs.Outcome.{rejects, rejecting, reported}
use Rattle.rules.specs.Outcome.{Answer}
use Rattle.demand1.specs.Lawful.{IsOp}
use Rattle.demand2.specs.Kinds.{HasKind}
use Rattle.demand3.specs.Writes.{WriteNumber}
use Rattle.demand3.specs.Lists.{Finding}

-- ── histories ──

-- operation i of h has the number `to i` in g, and operation j of g the number `back j` in h: one to one, with the order kept within each transaction. Number
-- 0, which no operation has, stays
pub record Renumbers (to back : ℕ → ℕ) (h g : History) : Type 0 where
  -- the transactions are the same, with their sessions and statuses
  pub same_txs : g.txs ≡ h.txs
  pub as_many : op_count g ≡ op_count h
  pub none : to 0 ≡ 0
  pub to_op : (i : ℕ) → IsOp h i → IsOp g (to i)
  pub back_op : (j : ℕ) → IsOp g j → IsOp h (back j)
  pub back_to : (i : ℕ) → IsOp h i → back (to i) ≡ i
  pub to_back : (j : ℕ) → IsOp g j → to (back j) ≡ j
  -- the operation is the same: its transaction, read or write, key and value
  pub same_op : (i : ℕ) → IsOp h i → op g (to i) ≡ op h i
  pub keeps : (i j : ℕ) → IsOp h i → IsOp h j → (op h i).tx ≡ (op h j).tx → i < j → to i < to j

-- finding i of h is finding j of g, and they "differ only in operation numbers": transaction, kind, key and value are the same, and the numbers of the read and
-- of its write are the new ones
pub record Corresponds (to : ℕ → ℕ) (h g : History) (i j : ℕ) : Type 0 where
  pub number : j ≡ to i
  pub same_tx : (op g j).tx ≡ (op h i).tx
  pub same_kind : (k : ℕ) → HasKind h i k ↔ HasKind g j k
  pub same_key : (op g j).key ≡ (op h i).key
  pub same_value : (op g j).value ≡ (op h i).value
  pub write : (k w : ℕ) → HasKind h i k → WriteNumber h i k w → WriteNumber g j k (to w)

-- there are as many findings, and each corresponds to one
pub record SameFindings (to back : ℕ → ℕ) (h g : History) : Type 0 where
  pub as_many : (n : ℕ) → Number ◌<◌ (Finding h) n → Number ◌<◌ (Finding g) n
  pub each_to : (i : ℕ) → Finding h i → Finding g (to i) × Corresponds to h g i (to i)
  pub each_back : (j : ℕ) → Finding g j → Finding h (back j) × Corresponds to h g (back j) j

-- ── answers ──

-- entry j of the findings F has become entry k of the findings F': "differ only in operation numbers"
pub record Became (to : ℕ → ℕ) (F : List ℕ) (j : ℕ) (F' : List ℕ) (k : ℕ) : Type 0 where
  pub same_transaction : get_or F' (6 * k) 0 ≡ get_or F (6 * j) 0
  pub same_kind : get_or F' (6 * k + 1) 0 ≡ get_or F (6 * j + 1) 0
  -- the numbers of the read and of its write are the new ones; 0, no write, stays
  pub number : le 2 F' (6 * k + 2) ≡ to (le 2 F (6 * j + 2))
  pub write : le 2 F' (6 * k + 4) ≡ to (le 2 F (6 * j + 4))

-- each of the f findings has become one, at any place ("so in their order"), and each of the other f is what one became; the bytes behind them are the same
pub record FindingsBecame (to : ℕ → ℕ) (f : ℕ) (F F' : List ℕ) : Type 0 where
  pub each_to : (j : ℕ) → j < f → (k : ℕ) × (k < f) × Became to F j F' k
  pub each_from : (k : ℕ) → k < f → (j : ℕ) × (j < f) × Became to F j F' k
  pub behind : drop (6 * f) F' ≡ drop (6 * f) F

-- the answers r and q to two traces, at one level and with buffers of the same content, and what the buffers then hold (F, P, O, and with a prime): "Verdicts,
-- orders and pairs stay equal", the pairs' reasons, all counts and refusals too
pub record AnswersAlike (to : ℕ → ℕ) (r q : Answer) (F P O F' P' O' : List ℕ) : Type 0 where
  pub same_answer : q ≡ r
  pub same_pairs : P' ≡ P
  pub same_order : O' ≡ O
  -- a refusal and an acceptance write no finding
  pub no_findings : ((reported r).verdict ≡ rejects → ⊥) → F' ≡ F
  pub on_rejection : (f p : ℕ) → reported r ≡ rejecting f p → FindingsBecame to f F F'
