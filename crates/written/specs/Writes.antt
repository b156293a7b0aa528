-- Document 02, request One: the trace that is written, in the document's own terms, and what is promised of writing.
use Rattle.std.specs.Prelude.{ℕ, zero, suc, ◌+◌, ◌%◌, ◌^◌, ◌<◌, ◌≤◌, ◌≡◌, false, List, length, get_or}
use Rattle.rules.specs.History.{History, tx_count}
use Rattle.rules.specs.Records.{is_second}
use Rattle.demand1.specs.Rows.{kind, serial, session, key, value, status, end_number, behind, ReadInto}
use Rattle.writing.specs.Steps.{step_count, steps_in}
use Rattle.writing.specs.Filling.{Filled}
use Rattle.written.specs.Steps.{kind_behind, session_behind, status_behind, key_behind, value_behind}
use Rattle.written.specs.Says.{Says}
use Rattle.written.specs.Declined.{WriteDeclines}
use Rattle.written.specs.Fills.{Fills}

-- each entry is a byte
abbrev pub AllBytes : List ℕ → Type 0
AllBytes s = (i : ℕ) → get_or s i 0 < 256

-- where the record starts that stands behind k others
unfoldable pub record_at : List ℕ → ℕ → ℕ
record_at b zero = 0
record_at b (suc k) = behind b (record_at b k)

-- the record at `at` is the step of s behind k others: of the same kind, with the same fields
pub data IsStepRecord (b : List ℕ) (at : ℕ) (s : List ℕ) (k : ℕ) : Type 0 where
  an_open : kind b at ≡ 1 → kind_behind s k ≡ 1 → session b at ≡ session_behind s k → IsStepRecord b at s k
  a_read : kind b at ≡ 2 → kind_behind s k ≡ 2 → key b at ≡ key_behind s k → value b at ≡ value_behind s k → IsStepRecord b at s k
  a_write : kind b at ≡ 3 → kind_behind s k ≡ 3 → key b at ≡ key_behind s k → value b at ≡ value_behind s k → IsStepRecord b at s k
  a_close : kind b at ≡ 4 → kind_behind s k ≡ 4 → status b at ≡ status_behind s k → IsStepRecord b at s k

-- it is the end record, of n transactions
pub record IsEndRecord (b : List ℕ) (at n : ℕ) : Type 0 where
  pub ends : kind b at ≡ 5
  pub number : end_number b at ≡ n

-- b is the trace of the steps s, with serials from n on
pub record TraceOf (s : List ℕ) (n : ℕ) (b : List ℕ) : Type 0 where
  pub is_bytes : AllBytes b
  -- "Any other trace is edition 1; request One's writer and its promises stay with that edition"
  pub first_edition : is_second b ≡ false
  -- "What it writes reads back as the same transactions, operations ..": it is read, and has no notes
  pub history : History
  pub reads : ReadInto b history 0
  pub says : Says (steps_in s) history
  -- ".. and serials": the starting one and its successors, with the wrap
  pub serials : (k : ℕ) → k ≤ step_count s → serial b (record_at b k) ≡ (n + k) % 2 ^ 32
  -- one record a step, and the end
  pub step_records : (k : ℕ) → k < step_count s → IsStepRecord b (record_at b k) s k
  pub end_record : IsEndRecord b (record_at b (step_count s)) (tx_count history)
  pub no_more : record_at b (step_count s + 1) ≡ length b

-- what is promised of writing the steps s, with serials from n on, into a buffer that held o
abbrev pub WritesTrace : List ℕ → ℕ → List ℕ → Filled → List ℕ → Type 0
WritesTrace s n o = Fills (WriteDeclines s (length o)) (TraceOf s n) o
