-- Document 02, request Six: "Edition 1 traces that have notes are still judged, with the same verdicts." A trace without its notes, its serials closed up; two
-- traces that differ only in their notes.
use Rattle.std.specs.Prelude.{ℕ, ◌+◌, ◌%◌, ◌^◌, ◌<◌, ◌≡◌, List, [], ◌++◌}
use Rattle.rules.specs.History.{History}
use Rattle.rules.specs.Traces.{Item, note, record_of}
use Rattle.demand1.specs.Rows.{HasHistory}
use Rattle.noteless.specs.Texts.{OtherTexts}

-- the records b are those of s without the notes, whatever the serials of s are, with serials from m on; n is the serial that comes next
pub data ClosedUp : ℕ → List ℕ → List ℕ → ℕ → Type 0 where
  none : {m : ℕ} → ClosedUp m [] [] m
  left_out : {m n : ℕ} {s b : List ℕ} (c : ℕ) (p : List ℕ) → ClosedUp m s b n → ClosedUp m (record_of c (note p) ++ s) b n
  kept : {m n : ℕ} {s b : List ℕ} (c : ℕ) (i : Item) → i.kind < 2 ^ 16 → (i.kind ≡ 6 → ⊥) → ClosedUp ((m + 1) % 2 ^ 32) s b n
      → ClosedUp m (record_of c i ++ s) (record_of m i ++ b) n

-- b is s without its notes: this is its first serial, and the others follow it
pub record WithoutNotes (first : ℕ) (s b : List ℕ) : Type 0 where
  pub low : first < 2 ^ 32
  pub next : ℕ
  pub records : ClosedUp first s b next

-- the trace b is s with other texts in its notes; or s is read, and b is s without its notes, its serials closed up: "The first serial is free"
pub data ButForNotes (s b : List ℕ) : Type 0 where
  other_texts : OtherTexts s b → ButForNotes s b
  without_notes : {h : History} {first : ℕ} → HasHistory s h → WithoutNotes first s b → ButForNotes s b
