-- Document 02, request Six: "Nobody reads notes, and two hosts put passwords into them." Which records of a trace are notes, how many there are, and when two
-- traces differ only in the bytes of their notes' texts.
use Rattle.std.specs.Prelude.{ℕ, ◌+◌, ◌<◌, ◌≤◌, ◌≡◌, List, length, get_or}
use Rattle.theory.specs.Entries.{Number}
use Rattle.demand1.specs.Rows.{kind, behind}
use Rattle.written.specs.Writes.{record_at}

-- the record that stands behind k others is a note
pub record IsNote (s : List ℕ) (k : ℕ) : Type 0 where
  pub there : record_at s k < length s
  pub of_kind : kind s (record_at s k) ≡ 6

-- "how many notes the trace had": n
abbrev pub NoteCount : List ℕ → ℕ → Type 0
NoteCount s = Number ◌<◌ (IsNote s)

-- byte i is of the text of a note: it stands behind the header, whose length, kind and serial are 8 bytes, and within the record
pub record InText (s : List ℕ) (i : ℕ) : Type 0 where
  pub number : ℕ
  pub is_note : IsNote s number
  pub from : record_at s number + 8 ≤ i
  pub to : i < behind s (record_at s number)

-- b is s but for the texts of its notes, which are as long as they were
pub record OtherTexts (s b : List ℕ) : Type 0 where
  pub same_length : length b ≡ length s
  pub elsewhere : (i : ℕ) → (InText s i → ⊥) → get_or b i 0 ≡ get_or s i 0
