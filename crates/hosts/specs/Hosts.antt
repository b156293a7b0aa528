-- What a host has of two calls, and of the notes of a trace that is written again.
use Rattle.std.specs.Prelude.{ℕ, ◌≡◌, List}
use Rattle.demand1.specs.Rows.{serial}
use Rattle.writing.specs.Filling.{answering, said, Filled}
use Rattle.written.specs.Fills.{FilledWith}
use Rattle.written.specs.Writes.{WritesTrace}
use Rattle.noteless.specs.Without.{WithoutNotes}
use Rattle.two.specs.declared.Two.{Two}
use Rattle.writing.specs.Filling.{Filled}

-- the answers of both calls, and what the two buffers then hold
pub record SameAnswers (r : Two Filled) (B B' : List ℕ) : Type 0 where
  pub answer : r.one ≡ r.other
  pub buffer : B ≡ B'

-- the steps s, written twice with serials from n on into buffers that held o and o': each as promised, and, where these held the same, alike
pub record WrittenTwice (s : List ℕ) (n : ℕ) (o o' : List ℕ) (r : Two Filled) (B B' : List ℕ) : Type 0 where
  pub first : WritesTrace s n o r.one B
  pub second : WritesTrace s n o' r.other B'
  pub same : o ≡ o' → SameAnswers r B B'

-- what is answered with a length, of the trace s and a buffer that held o, is s without its notes, its first serial kept
abbrev pub NotesLeftOut : List ℕ → List ℕ → Filled → List ℕ → Type 0
NotesLeftOut s o r B = (m : ℕ) → said r ≡ answering m → FilledWith (WithoutNotes (serial s 0) s) o B m
