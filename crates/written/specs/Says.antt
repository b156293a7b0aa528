-- "What it writes reads back as the same transactions, operations and serials": what a sequence of steps says.
use Rattle.std.specs.Prelude.{ℕ, ◌+◌, ◌≡◌, true, false, List, [], ◌∷◌, ◌++◌, map, length}
use Rattle.base.specs.Base.{joined}
use Rattle.rules.specs.History.{History, Tx, Op}
use Rattle.rules.specs.declared.Event.{Event}
use Rattle.rules.specs.declared.Event.TheVariants.{Open, Read, Write, Close, End, Note, Other}

-- the session that a step opens a transaction of, and the status that one gives
unfoldable pub session_said : Event → List ℕ
session_said (Open s) = s ∷ []
session_said (Read x v) = []
session_said (Write x v) = []
session_said (Close c) = []
session_said (End n) = []
session_said Note = []
session_said Other = []

unfoldable pub status_said : Event → List ℕ
status_said (Open s) = []
status_said (Read x v) = []
status_said (Write x v) = []
status_said (Close c) = c ∷ []
status_said (End n) = []
status_said Note = []
status_said Other = []

-- the operation that a step is, where t transactions have been opened
unfoldable pub op_said : ℕ → Event → List Op
op_said t (Open s) = []
op_said t (Read x v) = record { tx = t; is_write = false; key = x; value = v } ∷ []
op_said t (Write x v) = record { tx = t; is_write = true; key = x; value = v } ∷ []
op_said t (Close c) = []
op_said t (End n) = []
op_said t Note = []
op_said t Other = []

-- the operations of the steps, where t transactions have been opened before them
unfoldable pub ops_said : ℕ → List Event → List Op
ops_said t [] = []
ops_said t (e ∷ es) = op_said t e ++ ops_said (t + length (session_said e)) es

-- "transactions with sessions and statuses in order, operations in order with transaction, kind, key and value": h is what the steps es say
pub record Says (es : List Event) (h : History) : Type 0 where
  pub sessions : map (λ (t : Tx). t.session) h.txs ≡ joined session_said es
  pub statuses : map (λ (t : Tx). t.status) h.txs ≡ joined status_said es
  pub operations : h.ops ≡ ops_said 0 es
