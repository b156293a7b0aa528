-- Document 01, "Records": a record is a 2-byte length, a 2-byte kind, a 4-byte serial and a payload. The length counts everything after itself. Document 02,
-- "overlapping transactions": the two editions of the trace; "lists instead of single values": appends and list reads.
use Rattle.std.specs.Prelude.{ℕ, ◌+◌, ◌*◌, ◌%◌, ◌^◌, ◌<◌, ◌≤◌, ◌≡◌, Bool, true, false, not, List, [], ◌∷◌, length, get_or, ltb, leb, eqb}
use Rattle.base.specs.Base.{◌and◌, ◌or◌, pick, Row, row}
use Rattle.rules.specs.Numbers.{le, part}
use Rattle.rules.specs.History.{append_key, list_key}
use Rattle.rules.specs.declared.Event.{Event}
use Rattle.rules.specs.declared.Event.TheVariants.{Open, Read, Write, Close, End, Note, Other}

-- the fields of the record at `at`
abbrev pub len_at : List ℕ → ℕ → ℕ
len_at s at = le 2 s at

abbrev pub kind_at : List ℕ → ℕ → ℕ
kind_at s at = le 2 s (at + 2)

abbrev pub serial_at : List ℕ → ℕ → ℕ
serial_at s at = le 4 s (at + 4)

abbrev pub payload_at : List ℕ → ℕ → List ℕ
payload_at s at = part (at + 8) (at + 2 + len_at s at) s

-- where the next record starts
abbrev pub next_at : List ℕ → ℕ → ℕ
next_at s at = at + 2 + len_at s at

-- "Each later serial is its predecessor plus one; after 4,294,967,295 comes 0."
abbrev pub next_serial : List ℕ → ℕ → ℕ
next_serial s at = (serial_at s at + 1) % 2 ^ 32

-- ── the editions ──

-- "Edition 2 of the trace begins with a kind 16 record": the first record's kind is there and is 16. "Any other trace is edition 1"
unfoldable pub is_second : List ℕ → Bool
is_second s = leb 4 (length s) and eqb (kind_at s 0) 16

-- "Read and write .. and close .. have the session before their other fields": how far these stand from the payload's first byte, in edition 2 or not
abbrev pub fields_from : Bool → ℕ
fields_from true = 2
fields_from false = 0

-- the first of those fields of the record at `at`
abbrev pub fields_at : List ℕ → ℕ → ℕ
fields_at s at = at + 8 + fields_from (is_second s)

-- the session of an open, a read, a write or a close of edition 2, which is their payload's first field
abbrev pub session_at : List ℕ → ℕ → ℕ
session_at s at = le 2 s (at + 8)

-- ── appends and list reads ──

-- "In edition 2 add append (kind 23 ..) and list read (kind 24 ..)"
unfoldable pub is_append : Bool → ℕ → Bool
is_append second kind = second and eqb kind 23

unfoldable pub is_list_read : Bool → ℕ → Bool
is_list_read second kind = second and eqb kind 24

-- the "2-byte number" of the list read at `at`, behind its session and its key
abbrev pub number_at : List ℕ → ℕ → ℕ
number_at s at = le 2 s (at + 14)

-- what is held of a list read at `at` with this number: the offset, which is not 0, since edition 2 begins with another record; of "number 33 and up" 0, so
-- that row 8 refuses it as it does a written 0
unfoldable pub list_place : ℕ → ℕ → ℕ
list_place at n = pick (ltb 32 n) 0 at

-- ── kinds, lengths and payloads, in edition 2 or not ──

-- the table's column "length": the least and the greatest of kinds 1 to 6; in edition 2 "read and write (length 20) and close (length 9)"
abbrev pub lows : Bool → List ℕ
lows false = 0 ∷ 8 ∷ 18 ∷ 18 ∷ 7 ∷ 8 ∷ 6 ∷ []
lows true = 0 ∷ 8 ∷ 20 ∷ 20 ∷ 9 ∷ 8 ∷ []

abbrev pub highs : Bool → List ℕ
highs false = 0 ∷ 8 ∷ 18 ∷ 18 ∷ 7 ∷ 8 ∷ 70 ∷ []
highs true = 0 ∷ 8 ∷ 20 ∷ 20 ∷ 9 ∷ 8 ∷ []

-- the table's columns "kind" and "payload", of the record at `at` with the payload p. A record of kind 16 says the edition and nothing else; "append (..
-- session, key, value) and list read (.. session, key, a 2-byte number ..)" are held as writes
unfoldable pub event_of : Bool → ℕ → ℕ → List ℕ → Event
event_of second at kind p =
    pick (eqb kind 1) (Open (le 2 p 0))
    (pick (eqb kind 2) (Read (le 4 p (fields_from second)) (le 8 p (fields_from second + 4)))
    (pick (eqb kind 3) (Write (le 4 p (fields_from second)) (le 8 p (fields_from second + 4)))
    (pick (eqb kind 4) (Close (le 1 p (fields_from second)))
    (pick (eqb kind 5) (End (le 2 p 0))
    (pick (eqb kind 6) Note
    (pick (is_append second kind) (Write (append_key (le 4 p 2)) (le 8 p 6))
    (pick (is_list_read second kind) (Write (list_key (le 4 p 2)) (list_place at (le 2 p 6))) Other)))))))

unfoldable pub event_at : List ℕ → ℕ → Event
event_at s at = event_of (is_second s) at (kind_at s at) (payload_at s at)

-- the key of a read; the key that a write, an append or a list read is held with, and its value; 0 of any other event
unfoldable pub read_key : Event → ℕ
read_key (Open n) = 0
read_key (Read x v) = x
read_key (Write x v) = 0
read_key (Close c) = 0
read_key (End n) = 0
read_key Note = 0
read_key Other = 0

unfoldable pub written_key : Event → ℕ
written_key (Open n) = 0
written_key (Read x v) = 0
written_key (Write x v) = x
written_key (Close c) = 0
written_key (End n) = 0
written_key Note = 0
written_key Other = 0

unfoldable pub written_value : Event → ℕ
written_value (Open n) = 0
written_value (Read x v) = 0
written_value (Write x v) = v
written_value (Close c) = 0
written_value (End n) = 0
written_value Note = 0
written_value Other = 0

-- what four bytes spell lies below 2^32: so do the keys of single values, and no other has more than 34 bits; of a list read its own offset is held, or 0
pub record Sound (at : ℕ) (e : Event) : Type 0 where
  pub single : read_key e < 4294967296
  pub narrow : written_key e < 17179869184
  pub placed : 8589934592 ≤ written_key e → 0 < written_value e → written_value e ≡ at

-- ── the order of checks ──

-- "The first serial is free": the first record is the one at offset 0. e is the serial that has to come
unfoldable pub breaks : List ℕ → ℕ → ℕ → Bool
breaks s at e = ltb 0 at and not (eqb (serial_at s at) e)

-- kinds 1 to 6; "6 for a note in edition 2"; kind 16 is known in both, 23 and 24 in edition 2
unfoldable pub is_unknown : Bool → ℕ → Bool
is_unknown second kind =
    not (eqb kind 16) and not (is_append second kind or is_list_read second kind) and (ltb kind 1 or ltb (pick second 5 6) kind)

-- "a kind 16 record, payload 2 (2 bytes, length 8)"; "append (kind 23, length 20 ..) and list read (kind 24: .. length 14 plus 8 a value)", of which n is the
-- number
unfoldable pub is_misfit : Bool → ℕ → ℕ → ℕ → Bool
is_misfit second kind len n =
    pick (eqb kind 16) (not (eqb len 8))
    (pick (is_append second kind) (not (eqb len 20))
    (pick (is_list_read second kind) (not (eqb len (14 + 8 * n))) (ltb len (get_or (lows second) kind 0) or ltb (get_or (highs second) kind 0) len)))

-- "in either edition, .. a kind 16 that isn't first"; ".. another payload"
unfoldable pub is_late : ℕ → ℕ → Bool
is_late kind at = eqb kind 16 and ltb 0 at

unfoldable pub is_other_edition : ℕ → ℕ → Bool
is_other_edition kind n = eqb kind 16 and not (eqb n 2)

-- "Within a record: length field present (3), length at least 6 (4), bytes present (3), then 5, 6, length for its kind (4)", and of a kind 16 record 7 and 8
unfoldable pub frame_rows : Bool → List ℕ → ℕ → ℕ → List Row
frame_rows second s at e =
    row (ltb (length s) (at + 2)) 3
    ∷ row (ltb (len_at s at) 6) 4
    ∷ row (ltb (length s) (next_at s at)) 3
    ∷ row (breaks s at e) 5
    ∷ row (is_unknown second (kind_at s at)) 6
    ∷ row (is_misfit second (kind_at s at) (len_at s at) (number_at s at)) 4
    ∷ row (is_late (kind_at s at) at) 7
    ∷ row (is_other_edition (kind_at s at) (le 2 s (at + 8))) 8
    ∷ []
