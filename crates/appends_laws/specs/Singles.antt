-- Document 02: "Demands 2 and 3 and request Two's set go on reading only the single-value keys": two histories with the same single-value operations, at the
-- same numbers, whatever their appends and list reads are.
use Rattle.std.specs.Prelude.{ℕ, ◌<◌, ◌≤◌, ◌≡◌, true}
use Rattle.rules.specs.History.{History, Op, op, op_count, append_key}
use Rattle.demand1.specs.Lawful.{IsOp}

-- an operation with single values: a read, or a write, of a key as the trace has it
abbrev pub SingleOp : Op → Type 0
SingleOp o = o.key < append_key 0

-- an append or a list read: it is held as a write to a greater key
pub record ListOp (o : Op) : Type 0 where
  pub held : o.is_write ≡ true
  pub beyond : append_key 0 ≤ o.key

-- the same operation with single values in both, or an append or list read in both
pub data SameSingle (o p : Op) : Type 0 where
  single : SingleOp o → p ≡ o → SameSingle o p
  list : ListOp o → ListOp p → SameSingle o p

-- the same transactions, as many operations, and each operation so
pub record SameSingles (h g : History) : Type 0 where
  pub txs : g.txs ≡ h.txs
  pub ops : op_count g ≡ op_count h
  pub each : (i : ℕ) → IsOp h i → SameSingle (op h i) (op g i)
