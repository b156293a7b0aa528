-- Document 02, request One: the steps of a trace, in the document's own terms, and what is promised of turning it into them.
use Rattle.std.specs.Prelude.{ℕ, ◌+◌, ◌*◌, ◌≡◌, false, List, length}
use Rattle.rules.specs.History.{History, tx_count, op_count}
use Rattle.rules.specs.Records.{is_second}
use Rattle.demand1.specs.Rows.{HasHistory}
use Rattle.writing.specs.Filling.{Filled}
use Rattle.written.specs.Steps.{HasStep, kind_behind, session_behind, key_behind, value_behind, Comes}
use Rattle.written.specs.Declined.{steps_length, ListDeclines}
use Rattle.written.specs.Fills.{Fills}
use Rattle.written.specs.Writes.{AllBytes}

-- a field that the kind of the step behind k others does not use is 0
pub data UnusedZero (x : List ℕ) (k : ℕ) : Type 0 where
  in_open : kind_behind x k ≡ 1 → key_behind x k ≡ 0 → value_behind x k ≡ 0 → UnusedZero x k
  in_read : kind_behind x k ≡ 2 → session_behind x k ≡ 0 → UnusedZero x k
  in_write : kind_behind x k ≡ 3 → session_behind x k ≡ 0 → UnusedZero x k
  in_close : kind_behind x k ≡ 4 → key_behind x k ≡ 0 → value_behind x k ≡ 0 → UnusedZero x k

-- x are steps, each lawful where it stands, whose history is that of the trace s, which is edition 1
pub record StepsOf (s : List ℕ) (x : List ℕ) : Type 0 where
  pub first_edition : is_second s ≡ false
  pub is_bytes : AllBytes x
  pub history : History
  pub reads : HasHistory s history
  pub comes : Comes x (2 * tx_count history + op_count history) history
  pub unused : (k : ℕ) → HasStep x k → UnusedZero x k
  pub long : length x ≡ steps_length history

-- what is promised of turning the trace s into steps, in a buffer that held o
abbrev pub ListsSteps : List ℕ → List ℕ → Filled → List ℕ → Type 0
ListsSteps s o = Fills (ListDeclines s (length o)) (StepsOf s) o
