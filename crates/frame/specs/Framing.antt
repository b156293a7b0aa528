-- What framing a record comes to, in edition 2 or not.
use Rattle.std.specs.Prelude.{ℕ, ◌+◌, ◌≤◌, ◌≡◌, Bool, true, false, List, [], ◌∷◌, ◌⊎◌, length, get_or, ltb, Result, Ok, Err, IfOk}
use Rattle.base.specs.Base.{pick, Row, row, first_fit}
use Rattle.rules.specs.Numbers.{le}
use Rattle.rules.specs.Records.{len_at, kind_at, next_at, payload_at, fields_from, number_at, lows, event_of, Sound, is_unknown, is_misfit, is_late, is_other_edition, frame_rows}
use Rattle.rules.specs.declared.Cause.{Cause}
use Rattle.rules.specs.declared.Event.{Event}
use Rattle.rules.specs.declared.Event.TheVariants.{Open, Read, Write, Close, End, Note, Other}
use Rattle.frame.specs.declared.Stated.{Stated}

-- the last of the framing's rows, which go by the record's kind
abbrev pub kind_rows : Bool → List ℕ → ℕ → List Row
kind_rows second s at =
    row (is_unknown second (kind_at s at)) 6
    ∷ row (is_misfit second (kind_at s at) (len_at s at) (number_at s at)) 4
    ∷ row (is_late (kind_at s at) at) 7
    ∷ row (is_other_edition (kind_at s at) (le 2 s (at + 8))) 8
    ∷ []

-- the length of kinds 1 to 5, in edition 2 or not
abbrev pub lengths : Bool → List ℕ
lengths false = 0 ∷ 8 ∷ 18 ∷ 18 ∷ 7 ∷ 8 ∷ []
lengths true = 0 ∷ 8 ∷ 20 ∷ 20 ∷ 9 ∷ 8 ∷ []

-- a kind of lists; any other than 1 to 6
abbrev pub ListKind : ℕ → Type 0
ListKind kind = (kind ≡ 23) ⊎ (kind ≡ 24)

abbrev pub Above : ℕ → Type 0
Above kind = (1 ≤ kind → kind ≤ 6 → ⊥)

-- "Read and write .. and close .. have the session before their other fields": the number that the bytes before these spell in the payload p, in
-- edition 2; edition 1 has none there, and it is 0
abbrev pub session_in : Bool → List ℕ → ℕ
session_in second p = le (fields_from second) p 0

-- the session that a record with the payload p and this event names; 0 where it names none
unfoldable pub session_of : Bool → List ℕ → Event → ℕ
session_of second p (Open n) = le 2 p 0
session_of second p (Read x v) = session_in second p
session_of second p (Write x v) = session_in second p
session_of second p (Close c) = session_in second p
session_of second p (End n) = 0
session_of second p Note = 0
session_of second p Other = 0

-- what a record says: a session and an event
abbrev pub stated : ℕ → Event → Stated
stated n e = record { session = n; event = e }

-- .. one of this kind at `at` with the payload p
abbrev pub stated_of : Bool → ℕ → ℕ → List ℕ → Stated
stated_of second at kind p = stated (session_of second p (event_of second at kind p)) (event_of second at kind p)

-- .. the one at `at`
abbrev pub stated_at : Bool → List ℕ → ℕ → Stated
stated_at second s at = stated_of second at (kind_at s at) (payload_at s at)

-- the number of the first of the framing's rows that refuses the record at `at`, or else what it says; e is the serial that has to come
unfoldable pub framing : Bool → List ℕ → ℕ → ℕ → Result Stated ℕ
framing second s at e =
    pick (ltb 0 (first_fit (frame_rows second s at e))) (Err (first_fit (frame_rows second s at e))) (Ok (stated_at second s at))

-- what a record at `at` says, with an event that is sound there
pub record StatedIs (at : ℕ) (r x : Stated) : Type 0 where
  pub is : r ≡ x
  pub sound : Sound at r.event

-- .. wherever it stands
abbrev pub StatedAnywhere : Stated → Stated → Type 0
StatedAnywhere r x = (at : ℕ) → StatedIs at r x

-- .. of what framing comes to
abbrev pub SoundFramed : ℕ → Result Stated Cause → Type 0
SoundFramed at r = IfOk r (λ x. Sound at x.event)

-- a payload p of m bytes more than the six of kind and serial is as long as its kind needs; one of lists is of edition 2
pub record LongEnough (second : Bool) (kind m : ℕ) : Type 0 where
  pub low : get_or (lows second) kind 0 ≤ m
  pub append : kind ≡ 23 → (second ≡ true) × (20 ≤ m)
  pub list : kind ≡ 24 → (second ≡ true) × (14 ≤ m)

-- the record at `at` lies within the trace, its payload is as long as its kind needs, and in edition 2 as long as a session
pub record Fit (second : Bool) (s : List ℕ) (at : ℕ) : Type 0 where
  pub six : 6 ≤ len_at s at
  pub room : next_at s at ≤ length s
  pub long : LongEnough second (kind_at s at) (len_at s at)
  pub session : second ≡ true → 8 ≤ len_at s at
