-- What the program `lists` prints. Document 02's call "answers all three counts"; the program "prints `lists FINDINGS PAIRS PAIRS`, then `read T OP KIND WRITE`
-- lines, then `write A B REASONS` lines (over write dependencies) and `both A B REASONS` lines; a refused trace prints `refused NO PLACE`". How a line is spelt
-- is `text/specs/Lines.antt`.
use Rattle.std.specs.Prelude.{ℕ, List, [], ◌∷◌, ◌++◌, length}
use Rattle.base.specs.Base.{joined}
use Rattle.rules.specs.History.{History, op}
use Rattle.rules.specs.Reading.{Reading, refused, read, reading}
use Rattle.rules.specs.Outcome.{Pair}
use Rattle.text.specs.Lines.{text, line, refused_line, read_line}
use Rattle.appends_rules.specs.Appends.{lists_in}
use Rattle.appends_rules.specs.ListKinds.{list_kind}
use Rattle.appends_rules.specs.Dependencies.{dep_reasons, write_pairs, dep_pairs}
use Rattle.appends_rules.specs.ListOutcome.{fault_of, list_findings}

-- "`lists FINDINGS PAIRS PAIRS`": how many findings, pairs over write dependencies, pairs over both
unfoldable pub lists_line : ℕ → ℕ → ℕ → List ℕ
lists_line f w b = line (text "lists") (f ∷ w ∷ b ∷ [])

-- "`read T OP KIND WRITE`": that of the finding i; its last field is the append at fault, or 0
unfoldable pub fault_text : History → (ℕ → List ℕ) → ℕ → List ℕ
fault_text h l i = read_line (op h i).tx i (list_kind h l i) (fault_of h l i)

-- "`write A B REASONS`", the reason being 16
unfoldable pub write_text : Pair → List ℕ
write_text p = line (text "write") (p.one ∷ p.two ∷ 16 ∷ [])

-- "`both A B REASONS`"
unfoldable pub both_text : History → (ℕ → List ℕ) → Pair → List ℕ
both_text h l p = line (text "both") (p.one ∷ p.two ∷ dep_reasons h l p.one p.two ∷ [])

-- of a history h and the list l i of each list read i
unfoldable pub told_text : History → (ℕ → List ℕ) → List ℕ
told_text h l =
    lists_line (length (list_findings h l)) (length (write_pairs h l)) (length (dep_pairs h l))
    ++ (joined (fault_text h l) (list_findings h l) ++ (joined write_text (write_pairs h l) ++ joined (both_text h l) (dep_pairs h l)))

-- of the bytes s and what they were read as; "a refused trace prints `refused NO PLACE`"
unfoldable pub lists_read_text : List ℕ → Reading → List ℕ
lists_read_text s (refused n p) = refused_line n p
lists_read_text s (read h notes) = told_text h (lists_in s h)

-- what is printed of the bytes s
unfoldable pub lists_text : List ℕ → List ℕ
lists_text s = lists_read_text s (reading s)
