-- Document 01, the whole text: "The program `judge` reads standard input, keeping 32,769 bytes at most, and prints one block a level."
use Rattle.std.specs.Prelude.{ℕ, List, ◌++◌, length}
use Rattle.base.specs.Base.{pick, joined}
use Rattle.rules.specs.History.{History, op, origin_of}
use Rattle.rules.specs.Reading.{Reading, refused, read, reading}
use Rattle.rules.specs.Reads.{kind_of}
use Rattle.rules.specs.Levels.{reasons}
use Rattle.rules.specs.Outcome.{Pair, findings, pairs, order, is_accepted}
use Rattle.text.specs.Lines.{refused_line, rejected_line, accepted_line, read_line, pair_line}

-- "`read T OP KIND` lines", and the number of the write "as a fourth field": that of the finding i
unfoldable pub finding_text : History → ℕ → List ℕ
finding_text h i = read_line (op h i).tx i (kind_of h i) (origin_of h i)

-- "`pair A B REASONS` lines"
unfoldable pub pair_text : History → ℕ → Pair → List ℕ
pair_text h level p = pair_line p.one p.two (reasons h level p.one p.two)

-- a level's block. "First line: `rc`, `ra` or `tcc`, then `accepted` and the order, or `rejected`, findings count, pairs count. Then `read T OP KIND`
-- lines, then `pair A B REASONS` lines"
unfoldable pub block_text : History → ℕ → List ℕ
block_text h level =
    pick (is_accepted h level) (accepted_line level (order h level))
    (rejected_line level (length (findings h)) (length (pairs h level))
    ++ (joined (finding_text h) (findings h) ++ joined (pair_text h level) (pairs h level)))

-- "one block a level"; "A refused trace prints only `refused NO PLACE`."
unfoldable pub reading_text : Reading → List ℕ
reading_text (refused n p) = refused_line n p
reading_text (read h notes) = block_text h 1 ++ (block_text h 2 ++ block_text h 3)

-- what is printed of the bytes s
unfoldable pub answer_text : List ℕ → List ℕ
answer_text s = reading_text (reading s)
