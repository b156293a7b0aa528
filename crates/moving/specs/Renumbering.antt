-- Document 02, request Five: what operation each becomes where transactions "become blocks in order of opening".
use Rattle.std.specs.Prelude.{ℕ, ◌+◌, Bool, List, ◌∷◌, map, get_or, eqb}
use Rattle.base.specs.Base.{listed, those}
use Rattle.theory.specs.Order.{place}
use Rattle.rules.specs.History.{History, op, op_count, size}

-- operation i is one of t's
unfoldable pub is_op_of : History → ℕ → ℕ → Bool
is_op_of h t i = eqb (op h i).tx t

-- the numbers of t's operations, in order
unfoldable pub numbers_of : History → ℕ → List ℕ
numbers_of h t = those 1 (op_count h + 1) (is_op_of h t)

-- the numbers of all operations, transaction by transaction
unfoldable pub in_blocks : History → List ℕ
in_blocks h = listed 1 (size h) (numbers_of h)

-- operation i as blocks have it: its place among those; and which operation the j-th of them was. 0, which no operation has, stays 0
unfoldable pub new_number : History → ℕ → ℕ
new_number h i = place i (0 ∷ in_blocks h)

unfoldable pub old_number : History → ℕ → ℕ
old_number h j = get_or (0 ∷ in_blocks h) j 0

-- the history with its transactions as blocks: the same transactions, and the operations in that order
unfoldable pub as_blocks : History → History
as_blocks h = record { txs = h.txs; ops = map (op h) (in_blocks h) }
