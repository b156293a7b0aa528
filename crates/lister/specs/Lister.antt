-- What the call puts, and what it asks for.
use Rattle.std.specs.Prelude.{ℕ, ◌+◌, ◌*◌, ◌≡◌, List, length}
use Rattle.base.specs.Base.{joined}
use Rattle.rules.specs.History.{History, tx_count, op_count}
use Rattle.rules.proofs.Singles.{ReadsSingle}
use Rattle.writing.specs.Steps.{step_bytes}
use Rattle.writing.specs.Listing.{history_steps}
use Rattle.blocks.specs.Blocks.{NoneOpen}

-- the bytes of a history's steps
abbrev pub all_bytes : History → List ℕ
all_bytes h = joined step_bytes (history_steps h)

-- a history that a trace was read into: none of its transactions is open, its reads have keys of 32 bits, and it has two steps a transaction and one an operation, sixteen bytes each
pub record Listable (h : History) : Type 0 where
  pub none_open : NoneOpen h
  pub reads : ReadsSingle h
  pub many : length (history_steps h) ≡ 2 * tx_count h + op_count h
  pub long : length (all_bytes h) ≡ 16 * (2 * tx_count h + op_count h)
