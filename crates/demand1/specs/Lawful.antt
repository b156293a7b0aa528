-- What holds of every history that a trace is read into.
use Rattle.std.specs.Prelude.{ℕ, ◌≤◌, ◌≡◌, true}
use Rattle.rules.specs.History.{History, tx, op, tx_count, op_count}

-- i is the number of an operation
pub record IsOp (h : History) (i : ℕ) : Type 0 where
  pub from : 1 ≤ i
  pub to : i ≤ op_count h

-- i is the number of a write of v to x
pub record IsWrite (h : History) (x v i : ℕ) : Type 0 where
  pub is_op : IsOp h i
  pub is_write : (op h i).is_write ≡ true
  pub of_key : (op h i).key ≡ x
  pub of_value : (op h i).value ≡ v

-- c is the status of a transaction that is over, as its close says
pub data Over (c : ℕ) : Type 0 where
  says_aborted : c ≡ 0 → Over c
  says_committed : c ≡ 1 → Over c
  -- "Status 2 now means unanswered."
  says_unanswered : c ≡ 2 → Over c

-- t is the number of a transaction, 0 not among them
pub record IsTx (h : History) (t : ℕ) : Type 0 where
  pub from : 1 ≤ t
  pub to : t ≤ tx_count h

pub record LawfulHistory (h : History) : Type 0 where
  pub few_txs : tx_count h ≤ 127
  pub few_ops : op_count h ≤ 1024
  pub in_tx : (i : ℕ) → IsOp h i → IsTx h (op h i).tx
  -- "Value 0 is a key's initial value, so a write may not have it"
  pub not_zero : (x i : ℕ) → IsWrite h x 0 i → ⊥
  -- no two writes have the same key and value
  pub one_write : (x v i j : ℕ) → IsWrite h x v i → IsWrite h x v j → i ≡ j
  -- each transaction aborted, committed or unanswered: none is open
  pub is_over : (t : ℕ) → IsTx h t → Over (tx h t).status
