-- What each function puts, and what it asks for.
use Rattle.std.specs.Prelude.{◌≡◌, ℕ, ◌+◌, ◌≤◌, false, List, map, length}
use Rattle.base.specs.Base.{listed}
use Rattle.base.proofs.Fill.{Appended}
use Rattle.rules.specs.History.{History, tx, tx_count, is_open}
use Rattle.writing.specs.declared.Form.{Form}
use Rattle.writing.specs.Listing.{op_step_of}
use Rattle.writing.specs.Forms.{Marked, mark, tx_block, formed}
use Rattle.blocks.specs.declared.Place.{Place}

-- the events of transaction t's operations below n; of the transactions below n
unfoldable pub op_marks : History → ℕ → ℕ → List Marked
op_marks h t n = map (mark (tx h t).session) (listed 1 n (op_step_of h t))

unfoldable pub tx_marks : History → ℕ → List Marked
tx_marks h n = listed 1 n (tx_block h)

-- the events ms were put into o before p, which made b of it: they start at r, behind as many others as r counts, where the first of all has the serial n
pub record PutBefore (form : Form) (n : ℕ) (o : List ℕ) (p : Place) (b : List ℕ) (r : Place) (ms : List Marked) : Type 0 where
  pub is : Appended o r.at b p.at (formed form n r.count ms)
  pub count : r.count + length ms ≡ p.count

-- there is room for them
pub record RoomBefore (form : Form) (o : List ℕ) (p : Place) (ms : List Marked) : Type 0 where
  pub fits : length (formed form 0 0 ms) ≤ p.at
  pub within : p.at ≤ length o
  pub count : length ms ≤ p.count

-- a history that a trace was read into: none of its transactions is open
abbrev pub NoneOpen : History → Type 0
NoneOpen h = (t : ℕ) → 1 ≤ t → t ≤ tx_count h → is_open h t ≡ false
