-- Document 02, request One: the writer.
use Rattle.std.specs.Prelude.{ℕ, ◌+◌, Bool, true, false, List, [], ◌∷◌, ◌++◌, map, ltb, length, drop}
use Rattle.base.specs.Base.{pick, Row, row, first_fit}
use Rattle.rules.specs.Numbers.{le}
use Rattle.rules.specs.History.{History, tx_count, current, empty}
use Rattle.rules.specs.Reading.{step_rows, entered}
use Rattle.rules.specs.Traces.{Item, item, opens, r, w, closes, ends, trace}
use Rattle.rules.specs.declared.Event.{Event}
use Rattle.rules.specs.declared.Event.TheVariants.{Open, Read, Write, Close, End, Note, Other}
use Rattle.writing.specs.Filling.{Work, refusal, content, Fill, fill_of, refusing, into}
use Rattle.writing.specs.Steps.{steps_in}

-- ── the order of checks ──

-- row 6, "any other kind": a step is an open, a read, a write or a close
unfoldable pub is_no_step : Event → Bool
is_no_step (Open s) = false
is_no_step (Read x v) = false
is_no_step (Write x v) = false
is_no_step (Close c) = false
is_no_step (End n) = true
is_no_step Note = true
is_no_step Other = true

-- "Bad steps get 01's numbers 6 (any other kind) to 10 in 01's order": rows 7 to 10 are those of reading
unfoldable pub write_rows : History → Event → List Row
write_rows h e = row (is_no_step e) 6 ∷ step_rows h (current h) e

-- the number of the first row that refuses the step e; 0 where none does
unfoldable pub write_no : History → Event → ℕ
write_no h e = first_fit (write_rows h e)

-- .. that refuses the end record, whose number is that of the transactions opened
unfoldable pub end_no : History → ℕ
end_no h = first_fit (step_rows h (current h) (End (tx_count h)))

-- a sequence is refused, with a number and a place, or it has a history
pub data Followed : Type 0 where
  bad : ℕ → ℕ → Followed
  good : History → Followed

-- step by step, from the history h on, where the next step's number is k: "the step's number, from 1, as place; a sequence that ends inside a
-- transaction gets 7 with the number of steps plus one"
unfoldable pub follow : History → ℕ → List Event → Followed
follow h k [] = pick (ltb 0 (end_no h)) (bad (end_no h) k) (good h)
follow h k (e ∷ es) = pick (ltb 0 (write_no h e)) (bad (write_no h e) k) (follow (entered h (current h) e) (k + 1) es)

-- ── what is written ──

-- a step as a record, but for its serial
unfoldable pub item_of : Event → Item
item_of (Open s) = opens s
item_of (Read x v) = r x v
item_of (Write x v) = w x v
item_of (Close c) = closes c
item_of (End n) = ends n
item_of Note = item 6 []
item_of Other = item 0 []

-- a record for each of these events, with serials from n on
unfoldable pub records_of : ℕ → List Event → List ℕ
records_of n es = trace n (map item_of es)

-- "The writer adds the end record itself": the trace of the steps es, whose history is h
abbrev pub trace_of : ℕ → List Event → History → List ℕ
trace_of n es h = records_of n (es ++ (End (tx_count h) ∷ []))

unfoldable pub wrote : ℕ → List Event → Followed → Work
wrote n es (bad m p) = refusal m p
wrote n es (good h) = content (trace_of n es h)

-- the steps s, the starting serial n and a lent buffer that holds `out`
unfoldable pub written : List ℕ → ℕ → List ℕ → Fill
written s n out = into (wrote n (steps_in s) (follow empty 1 (steps_in s))) out

-- the starting serial, 4 bytes, and the steps behind it, in one. Where there are fewer bytes than a serial has, too few are left: 3, at the first byte
unfoldable pub written_given : List ℕ → List ℕ → Fill
written_given g out = pick (ltb (length g) 4) (fill_of (refusing 3 0) out) (written (drop 4 g) (le 4 g 0) out)
