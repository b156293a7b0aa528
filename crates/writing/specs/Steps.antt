-- Document 02, request One: "a sequence of opens, operations, closes", as bytes and as events.
use Rattle.std.specs.Prelude.{ℕ, ◌+◌, ◌*◌, ◌/◌, List, [], ◌∷◌, ◌++◌, length, ltb, eqb}
use Rattle.base.specs.Base.{pick, listed}
use Rattle.rules.specs.Numbers.{le, bytes}
use Rattle.rules.specs.declared.Event.{Event}
use Rattle.rules.specs.declared.Event.TheVariants.{Open, Read, Write, Close, End, Note, Other}

-- "sixteen a step, little-endian: kind (2), session or status (2), key (4), value (8)": the fields of the step at `at`
module _ (s : List ℕ) (at : ℕ) where
  abbrev pub step_kind : ℕ
  step_kind = le 2 s at

  abbrev pub step_session : ℕ
  step_session = le 2 s (at + 2)

  abbrev pub step_status : ℕ
  step_status = le 2 s (at + 2)

  abbrev pub step_key : ℕ
  step_key = le 4 s (at + 4)

  abbrev pub step_value : ℕ
  step_value = le 8 s (at + 8)

-- "kinds 1 open, 2 read, 3 write, 4 close, as in a record; fields that a kind does not use are not looked at"
unfoldable pub step_of : List ℕ → ℕ → Event
step_of s at =
    pick (eqb (step_kind s at) 1) (Open (step_session s at))
    (pick (eqb (step_kind s at) 2) (Read (step_key s at) (step_value s at))
    (pick (eqb (step_kind s at) 3) (Write (step_key s at) (step_value s at))
    (pick (eqb (step_kind s at) 4) (Close (step_status s at)) Other)))

-- "A rest of fewer than sixteen bytes is a step of no kind"
unfoldable pub step_at : List ℕ → ℕ → Event
step_at s at = pick (ltb (length s) (at + 16)) Other (step_of s at)

-- how many steps there are, the rest being one
abbrev pub step_count : List ℕ → ℕ
step_count s = (length s + 15) / 16

-- all of them, in order; and those from the one on that has k before it
unfoldable pub steps_from : List ℕ → ℕ → List Event
steps_from s k = listed k (step_count s) (λ i. step_at s (16 * i) ∷ [])

abbrev pub steps_in : List ℕ → List Event
steps_in s = steps_from s 0

-- a step as bytes; a field that its kind does not use is 0
unfoldable pub field_bytes : ℕ → ℕ → ℕ → ℕ → List ℕ
field_bytes kind second key value = bytes 2 kind ++ bytes 2 second ++ bytes 4 key ++ bytes 8 value

unfoldable pub step_bytes : Event → List ℕ
step_bytes (Open s) = field_bytes 1 s 0 0
step_bytes (Read x v) = field_bytes 2 0 x v
step_bytes (Write x v) = field_bytes 3 0 x v
step_bytes (Close c) = field_bytes 4 c 0 0
step_bytes (End n) = []
step_bytes Note = []
step_bytes Other = []
