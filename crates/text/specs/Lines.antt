-- Document 01, the lines that the program `judge` prints: "First line: `rc`, `ra` or `tcc`, then `accepted` and the order, or `rejected`, findings
-- count, pairs count. Then `read T OP KIND` lines, then `pair A B REASONS` lines, fields parted by one space. A refused trace prints only `refused NO
-- PLACE`." Document 02, of the number of a finding's write: "`judge` prints it as a fourth field." A text is the list of its bytes.
use Rattle.std.specs.Prelude.{ℕ, zero, suc, ◌+◌, ◌/◌, ◌%◌, List, [], ◌∷◌, ◌++◌, ltb, eqb}
use Prim.Native.Char.{code}
use Prim.Native.String.{String, [] as nothing, ◌∷◌ as ◌then◌}
use Rattle.base.specs.Base.{pick}

-- a quoted text's bytes; every one quoted here is ASCII
abbrev pub text : String → List ℕ
text nothing = []
text (c then s) = code c ∷ text s

-- the decimal digits of n, the highest first; f is no less than n has digits
unfoldable pub decimal_by : ℕ → ℕ → List ℕ
decimal_by zero n = (48 + n % 10) ∷ []
decimal_by (suc f) n = pick (ltb n 10) ((48 + n) ∷ []) (decimal_by f (n / 10) ++ ((48 + n % 10) ∷ []))

unfoldable pub decimal : ℕ → List ℕ
decimal n = decimal_by n n

-- one space and a number
unfoldable pub field : ℕ → List ℕ
field n = text " " ++ decimal n

-- what follows a line's word: a field for each number, and the line's end
unfoldable pub fields : List ℕ → List ℕ
fields [] = text "\n"
fields (n ∷ ns) = field n ++ fields ns

unfoldable pub line : List ℕ → List ℕ → List ℕ
line word ns = word ++ fields ns

unfoldable pub level_word : ℕ → List ℕ
level_word level = pick (eqb level 1) (text "rc") (pick (eqb level 2) (text "ra") (text "tcc"))

-- the five lines of `judge`
unfoldable pub refused_line : ℕ → ℕ → List ℕ
refused_line number place = line (text "refused") (number ∷ place ∷ [])

unfoldable pub rejected_line : ℕ → ℕ → ℕ → List ℕ
rejected_line level findings pairs = line (level_word level ++ text " rejected") (findings ∷ pairs ∷ [])

unfoldable pub accepted_line : ℕ → List ℕ → List ℕ
accepted_line level order = line (level_word level ++ text " accepted") order

unfoldable pub read_line : ℕ → ℕ → ℕ → ℕ → List ℕ
read_line tx op kind write = line (text "read") (tx ∷ op ∷ kind ∷ write ∷ [])

unfoldable pub pair_line : ℕ → ℕ → ℕ → List ℕ
pair_line first second reasons = line (text "pair") (first ∷ second ∷ reasons ∷ [])

-- how many notes a trace had, as `to_edition_2` tells it
unfoldable pub notes_line : ℕ → List ℕ
notes_line notes = line (text "notes") (notes ∷ [])
