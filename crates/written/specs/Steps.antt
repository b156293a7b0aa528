-- Document 02, request One: how far a sequence of steps comes, in the document's own terms, apart from the functions that compute. Rows 7 to 10 are document
-- 01's conditions, by name. The theorems say that the two agree.
use Rattle.std.specs.Prelude.{ℕ, ◌+◌, ◌*◌, ◌<◌, ◌≤◌, ◌≡◌, Bool, true, false, List, length}
use Rattle.rules.specs.History.{History, Op, tx_count, empty, opened, closed, with_op}
use Rattle.demand1.specs.Rows.{Check, lengthField, lengthLow, bytesThere, serialFollows, kindKnown, lengthFits, editionFirst, editionIs2, inPlace, valueLawful, withinLimit, newWrite, oneSort, NoneFails, Misplaced, Unlawful, Excess, Repeated}
use Rattle.writing.specs.Steps.{step_kind, step_session, step_status, step_key, step_value}

-- a step stands behind k others; the steps are used up behind k of them
abbrev pub HasStep : List ℕ → ℕ → Type 0
HasStep s k = 16 * k < length s

abbrev pub NoStep : List ℕ → ℕ → Type 0
NoStep s k = length s ≤ 16 * k

-- its fields
module _ (s : List ℕ) (k : ℕ) where
  abbrev pub kind_behind : ℕ
  kind_behind = step_kind s (16 * k)

  abbrev pub session_behind : ℕ
  session_behind = step_session s (16 * k)

  abbrev pub status_behind : ℕ
  status_behind = step_status s (16 * k)

  abbrev pub key_behind : ℕ
  key_behind = step_key s (16 * k)

  abbrev pub value_behind : ℕ
  value_behind = step_value s (16 * k)

-- "any other kind": none of 1 to 4; "A rest of fewer than sixteen bytes is a step of no kind"
pub data OtherKind (s : List ℕ) (k : ℕ) : Type 0 where
  too_few_bytes : length s < 16 * k + 16 → OtherKind s k
  below_1 : kind_behind s k < 1 → OtherKind s k
  above_4 : 4 < kind_behind s k → OtherKind s k

-- the check fails at the step behind k others, whose history is h. A step has no length, no serial and no edition, and is no end record; appends and list reads
-- are of other kinds, so that it has no number of a list, no offset, and no key with single values and lists
abbrev pub StepFails : List ℕ → ℕ → History → Check → Type 0
StepFails s k h lengthField = ⊥
StepFails s k h lengthLow = ⊥
StepFails s k h bytesThere = ⊥
StepFails s k h serialFollows = ⊥
StepFails s k h kindKnown = OtherKind s k
StepFails s k h lengthFits = ⊥
StepFails s k h editionFirst = ⊥
StepFails s k h editionIs2 = ⊥
StepFails s k h inPlace = Misplaced (kind_behind s k) h
StepFails s k h valueLawful = Unlawful (kind_behind s k) (value_behind s k) (status_behind s k) (tx_count h) 0 h
StepFails s k h withinLimit = Excess (kind_behind s k) h
StepFails s k h newWrite = Repeated (kind_behind s k) (key_behind s k) (value_behind s k) 0 h
StepFails s k h oneSort = ⊥

abbrev pub StepPasses : List ℕ → ℕ → History → Type 0
StepPasses s k h = NoneFails (StepFails s k h)

-- the operation that a read or a write is: it belongs to the latest opened transaction
abbrev pub op_behind : List ℕ → ℕ → History → Bool → Op
op_behind s k h w = record { tx = tx_count h; is_write = w; key = key_behind s k; value = value_behind s k }

-- the history behind the step
pub data StepNext (s : List ℕ) (k : ℕ) (h : History) : History → Type 0 where
  open_step : kind_behind s k ≡ 1 → StepNext s k h (opened h (session_behind s k))
  read_step : kind_behind s k ≡ 2 → StepNext s k h (with_op h (op_behind s k h false))
  write_step : kind_behind s k ≡ 3 → StepNext s k h (with_op h (op_behind s k h true))
  close_step : kind_behind s k ≡ 4 → StepNext s k h (closed h (tx_count h) (status_behind s k))

-- the first k steps pass, and their history is h
pub data Comes (s : List ℕ) : ℕ → History → Type 0 where
  at_start : Comes s 0 empty
  one_more : {k : ℕ} {h g : History} → Comes s k h → HasStep s k → StepPasses s k h → StepNext s k h g → Comes s (k + 1) g
