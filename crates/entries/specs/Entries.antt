-- A list in a buffer, and the lines that its entries are printed as.
use Rattle.std.specs.Prelude.{ℕ, ◌+◌, ◌*◌, List, [], ◌∷◌, get_or}
use Rattle.base.specs.Base.{listed}
use Rattle.rules.specs.Numbers.{le}
use Rattle.text.specs.Lines.{text, line, read_line}
use Rattle.entries.specs.declared.Lines.{Lines}
use Rattle.entries.specs.declared.Lines.TheVariants.{ReadLines, PairLines, WriteLines, BothLines}

-- how many bytes an entry has. Document 02: "A finding becomes 6 bytes". Document 01: "Pair, 4 bytes"
unfoldable pub width : Lines → ℕ
width ReadLines = 6
width PairLines = 4
width WriteLines = 4
width BothLines = 4

-- the line of the pair i, from 0, behind its word. "Pair, 4 bytes: first, second, reasons, 0."
unfoldable pub pair_entry : List ℕ → List ℕ → ℕ → List ℕ
pair_entry word l i = line word (get_or l (4 * i) 0 ∷ get_or l (4 * i + 1) 0 ∷ get_or l (4 * i + 2) 0 ∷ [])

-- the line of the entry i, from 0. "Finding ..: transaction, kind, operation number (2 bytes little-endian)", and the number of the write "last (2
-- bytes)": "`judge` prints it as a fourth field."
unfoldable pub entry_line : Lines → List ℕ → ℕ → List ℕ
entry_line ReadLines l i = read_line (get_or l (6 * i) 0) (le 2 l (6 * i + 2)) (get_or l (6 * i + 1) 0) (le 2 l (6 * i + 4))
entry_line PairLines l i = pair_entry (text "pair") l i
entry_line WriteLines l i = pair_entry (text "write") l i
entry_line BothLines l i = pair_entry (text "both") l i

-- the lines of its first n entries
unfoldable pub list_text : Lines → List ℕ → ℕ → List ℕ
list_text lines l n = listed 0 n (entry_line lines l)
