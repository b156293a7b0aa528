-- Document 02, requests Five, Six and Eleven, in their own terms, apart from the functions that compute: what comes out of a move, when it is refused, and how
-- many notes are then told.
use Rattle.std.specs.Prelude.{ℕ, ◌+◌, ◌*◌, ◌<◌, ◌≤◌, ◌≡◌, Bool, true, false, List, length}
use Rattle.rules.specs.History.{History, op, tx_count, op_count}
use Rattle.rules.specs.Records.{is_second}
use Rattle.demand1.specs.Lawful.{IsOp}
use Rattle.demand1.specs.Rows.{kind, serial, OfLists, Refuses, ReadInto, HasHistory}
use Rattle.writing.specs.Filling.{answering, said, Filled}
use Rattle.writing.specs.Forms.{whole_of}
use Rattle.written.specs.Fills.{Fills}
use Rattle.written.specs.Writes.{record_at}
use Rattle.renumbering.specs.Renumbering.{Renumbers}
use Rattle.moving.specs.Renumbering.{new_number, old_number}
use Rattle.moving.specs.Tally.{tallied_fill, filled_of, Tallied}
use Rattle.noteless.specs.Texts.{NoteCount}
use Rattle.moved.specs.Records.{RecordsAre}

-- g has the transactions of h as "blocks in order of opening", each with its own operations in their order: operation i of h has become operation
-- `new_number h i`
pub record InBlocksOf (h g : History) : Type 0 where
  pub renumbers : Renumbers (new_number h) (old_number h) h g
  pub in_turn : (i j : ℕ) → IsOp g i → IsOp g j → i < j → (op g i).tx ≤ (op g j).tx

-- b is the trace s, moved to edition 2 or 1. That it is then judged alike is a theorem (`moved_alike`)
pub record Moved (second : Bool) (s b : List ℕ) : Type 0 where
  pub history : History
  pub reads : HasHistory s history
  -- it is of the wanted edition, and is read; "Notes are left out"
  pub wanted : is_second b ≡ second
  pub moved_history : History
  pub moved_reads : ReadInto b moved_history 0
  -- "The first serial is kept and the rest follow it": record by record
  pub records : RecordsAre b (serial s 0) (whole_of second history)
  -- "Going back, transactions become blocks in order of opening"; going to edition 2 they are blocks as they were
  pub in_blocks : InBlocksOf history moved_history
  pub same_history : second ≡ true → moved_history ≡ history

-- what comes out of moving s
pub data ComesOut (second : Bool) (s : List ℕ) : List ℕ → Type 0 where
  -- "A trace already in the wanted edition comes out unchanged, notes too."
  unchanged : {h : History} → is_second s ≡ second → HasHistory s h → ComesOut second s s
  was_moved : {b : List ℕ} → (is_second s ≡ second → ⊥) → Moved second s b → ComesOut second s b

-- the bytes of a trace without notes: in edition 1 an open has 10, a read or a write 20, a close 9, the end 10; in edition 2 there are 10 more before them, a
-- read or a write has 22, a close 11
abbrev pub moved_length : Bool → History → ℕ
moved_length false h = 19 * tx_count h + 20 * op_count h + 10
moved_length true h = 21 * tx_count h + 22 * op_count h + 20

-- the record that stands behind k others is an append or a list read
pub record ListRecord (s : List ℕ) (k : ℕ) : Type 0 where
  pub there : record_at s k < length s
  pub of_lists : OfLists (is_second s) (kind s (record_at s k))

-- .. and is the first of them; there is none
pub record FirstList (s : List ℕ) (k : ℕ) : Type 0 where
  pub is_list : ListRecord s k
  pub none_before : (j : ℕ) → j < k → ListRecord s j → ⊥

abbrev pub NoLists : List ℕ → Type 0
NoLists s = (k : ℕ) → ListRecord s k → ⊥

-- moving s, with a buffer of o bytes, is refused with this number and place: "Refusals: 01's for the input, then 16 for the output."
pub data MoveDeclines (second : Bool) (s : List ℕ) (o : ℕ) : ℕ → ℕ → Type 0 where
  trace_refused : {n at : ℕ} → Refuses s n at → MoveDeclines second s o n at
  unchanged_short : {h : History} → is_second s ≡ second → HasHistory s h → o < length s → MoveDeclines second s o 16 (length s)
  -- "20, list kinds in a move to edition 1, place the first such record, before 16"
  lists_declined : {h : History} {k : ℕ} → second ≡ false → HasHistory s h → FirstList s k → MoveDeclines second s o 20 (record_at s k)
  moved_short : {h : History} → (is_second s ≡ second → ⊥) → HasHistory s h → NoLists s → o < moved_length second h
      → MoveDeclines second s o 16 (moved_length second h)

-- what is promised of moving the trace s, in a buffer that held o
abbrev pub Moves : Bool → List ℕ → List ℕ → Filled → List ℕ → Type 0
Moves second s o = Fills (MoveDeclines second s (length o)) (ComesOut second s) o

-- what is promised of moving s to edition 2, in a buffer that held o
pub record MovesToSecond (s o : List ℕ) (r : Tallied) (b : List ℕ) : Type 0 where
  pub moves : Moves true s o (filled_of r) b
  -- "The move to edition 2 now also answers how many notes the trace had": with a length
  pub notes : (n : ℕ) → said (filled_of r) ≡ answering n → NoteCount s (tallied_fill r b).notes
  -- .. and none with a refusal
  pub refused_none : (said (filled_of r)).is_refused ≡ true → (tallied_fill r b).notes ≡ 0
  -- a trace that is edition 2 already had none
  pub second_none : is_second s ≡ true → (tallied_fill r b).notes ≡ 0
