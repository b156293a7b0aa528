-- Document 02, request Five: "Two calls move 1 to 2 and 2 to 1." Request Eleven: what is refused because of lists.
use Rattle.std.specs.Prelude.{ℕ, zero, suc, ◌+◌, Bool, true, false, not, List, map, length, ltb, eqb}
use Rattle.base.specs.Base.{◌or◌, pick}
use Rattle.rules.specs.History.{History}
use Rattle.rules.specs.Records.{kind_at, serial_at, next_at, is_second}
use Rattle.rules.specs.Reading.{Reading, refused, read, reading}
use Rattle.rules.specs.Traces.{trace}
use Rattle.writing.specs.Filling.{Work, refusal, content, Fill, into}
use Rattle.writing.specs.Forms.{item_in, whole_of}

-- the wanted edition is the one that there is
unfoldable pub is_same : Bool → Bool → Bool
is_same true second = second
is_same false second = not second

-- a history as a trace of edition 2 or 1: "The first serial", n, "is kept and the rest follow it. Notes are left out. Going back, transactions become blocks
-- in order of opening."
unfoldable pub moved_trace : Bool → ℕ → History → List ℕ
moved_trace second n h = trace n (map (item_in second) (whole_of second h))

-- "list kinds": 23 and 24, which only edition 2 has
unfoldable pub is_list_kind : ℕ → Bool
is_list_kind kind = eqb kind 23 or eqb kind 24

-- "the first such record": its offset, from the record at `at` on, of n at most, going from each to the one behind it; the trace's length where there is none.
-- What has no room for a length and a kind is no record
unfoldable pub list_from : ℕ → List ℕ → ℕ → ℕ
list_from zero s at = length s
list_from (suc n) s at =
    pick (ltb (length s) (at + 4)) (length s) (pick (is_list_kind (kind_at s at)) at (list_from n s (next_at s at)))

unfoldable pub first_list : List ℕ → ℕ
first_list s = pick (is_second s) (list_from (length s) s 0) (length s)

-- "A trace already in the wanted edition comes out unchanged, notes too." Else: "20, list kinds in a move to edition 1, place the first such record"; an append
-- or a list read has no record of edition 1
unfoldable pub moved_read : Bool → List ℕ → Reading → Work
moved_read second s (refused n p) = refusal n p
moved_read second s (read h notes) =
    pick (is_same (is_second s) second) (content s)
    (pick (ltb (first_list s) (length s)) (refusal 20 (first_list s)) (content (moved_trace second (serial_at s 0) h)))

-- the trace s, moved to edition 2 or 1, and a lent buffer that holds `out`: "Refusals: 01's for the input, then 16 for the output"; "20, .. before 16"
unfoldable pub moved_to : Bool → List ℕ → List ℕ → Fill
moved_to second s out = into (moved_read second s (reading s)) out
