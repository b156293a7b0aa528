-- Words of every shape, and what each means: one table, whose statement is in proofs/.
use Rattle.std.specs.Prelude.{ℕ, List, [], ◌∷◌}
use Prim.Native.String.{String}
use Rattle.text.specs.Lines.{text}
use Rattle.claims_rules.specs.Words.{level_named, number_named}

pub record WordCase : Type 0 where
  pub word : String
  pub level : ℕ
  pub number : ℕ

abbrev means : String → ℕ → ℕ → WordCase
means w l n = record { word = w; level = l; number = n }

abbrev pub word_table : List WordCase
word_table =
    means "rc" 1 256
    ∷ means "ra" 2 256
    ∷ means "tcc" 3 256
    -- none; other letters, and one more
    ∷ means "" 0 256
    ∷ means "RA" 0 256
    ∷ means "rcx" 0 256
    -- the least, one of each length, the greatest and one more
    ∷ means "0" 0 0
    ∷ means "7" 0 7
    ∷ means "10" 0 10
    ∷ means "255" 0 255
    ∷ means "256" 0 256
    -- a zero before others; what is no digit; four digits
    ∷ means "00" 0 256
    ∷ means "01" 0 256
    ∷ means "1x" 0 256
    ∷ means "-1" 0 256
    ∷ means "1000" 0 256
    ∷ []

abbrev pub now_meant : WordCase → WordCase
now_meant c = means c.word (level_named (text c.word)) (number_named (text c.word))
