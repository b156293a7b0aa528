-- What the functions that put a trace's text together say of their parts.
use Rattle.std.specs.Prelude.{ℕ, ◌≤◌, ◌≡◌, List, ◌++◌, length, take}
use Rattle.rules.specs.Numbers.{over}
use Rattle.rules.specs.History.{History}
use Rattle.text.specs.Lines.{rejected_line}
use Rattle.text.specs.Answer.{block_text, answer_text}
use Rattle.forcing.specs.Forcing.{ReadInto}
use Rattle.entries.specs.declared.Lines.TheVariants.{ReadLines, PairLines}
use Rattle.entries.specs.Entries.{list_text}

-- the text of the trace s was put over o, as far as o reaches, which made b of it; the whole text has n bytes
pub record Written (s o b : List ℕ) (n : ℕ) : Type 0 where
  pub end : n ≡ length (answer_text s)
  pub short : n ≤ 1048576
  pub is : b ≡ over (take (length o) (answer_text s)) o

-- ── the blocks ──

-- some trace was read into the tables h and k
pub record Taken (h k : List ℕ) : Type 0 where
  pub s : List ℕ
  pub from : ReadInto s h k

-- "one block a level": those of a history, one behind the other
abbrev pub blocks_text : History → List ℕ
blocks_text h = block_text h 1 ++ (block_text h 2 ++ block_text h 3)

-- the block of a rejection, of n findings in f and m pairs in p
unfoldable pub rejected_text : ℕ → ℕ → ℕ → List ℕ → List ℕ → List ℕ
rejected_text level n m f p = rejected_line level n m ++ (list_text ReadLines f n ++ list_text PairLines p m)
