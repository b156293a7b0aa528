-- What the program `claim` prints of an answer: one line. How a line is spelt is `text/specs/Lines.antt`.
use Rattle.std.specs.Prelude.{ℕ, List, [], ◌∷◌}
use Rattle.text.specs.Lines.{text, line, refused_line}
use Rattle.claims_rules.specs.Claims.{Reply, holds, no_read, no_members, no_pair, declined, claimed}

-- `yes`, `no read OP`, `no members`, `no pair A B`, `refused NO PLACE`
unfoldable pub reply_line : Reply → List ℕ
reply_line holds = line (text "yes") []
reply_line (no_read i) = line (text "no read") (i ∷ [])
reply_line no_members = line (text "no members") []
reply_line (no_pair a b) = line (text "no pair") (a ∷ b ∷ [])
reply_line (declined n p) = refused_line n p

-- of the bytes s, a level and the claim o
unfoldable pub claim_text : List ℕ → ℕ → List ℕ → List ℕ
claim_text s level o = reply_line (claimed s level o)
