-- Two outcomes that a contract admits are the same.
use Prim.Native.Nat.{ℕ}
use mathlib.Core.Path.{◌≡◌, sym, ◌∙◌}
use mathlib.Core.List.{List}
use Rattle.rules.specs.History.{History}
use Rattle.table.specs.Table.{Below, Becomes}

-- of `last_op`, `tx_of`, `prev_op` and `write_of`
pub below_one : {r q x n : ℕ} → Below r x n → Below q x n → r ≡ q
below_one a b = a.is ∙ sym b.is

-- of `clear`, `put_tx`, `close_tx`, `mark`, `put_read` and `put_write`
pub becomes_one : {h k g : List ℕ} {x : History} → Becomes h g x → Becomes k g x → h ≡ k
becomes_one a b = a.is ∙ sym b.is
