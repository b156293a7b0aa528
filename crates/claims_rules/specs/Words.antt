-- What the words mean that the program `claim` is called with: a level, `rc`, `ra` or `tcc`, and then the claimed order, numbers from 0 to 255. A word is the
-- list of its bytes.
use Rattle.std.specs.Prelude.{ℕ, Bool, true, false, not, List, [], ◌∷◌, length, get_or, ltb, eqb}
use Rattle.base.specs.Base.{◌and◌, ◌or◌, pick, some, first}
use Rattle.text.specs.Lines.{level_word}
use Rattle.text.specs.Digits.{denoted}

-- two words are the same
unfoldable pub is_same_word : List ℕ → List ℕ → Bool
is_same_word [] [] = true
is_same_word [] (y ∷ ys) = false
is_same_word (x ∷ xs) [] = false
is_same_word (x ∷ xs) (y ∷ ys) = eqb x y and is_same_word xs ys

-- the word is that of the level
unfoldable pub is_word_of : List ℕ → ℕ → Bool
is_word_of w level = is_same_word w (level_word level)

-- the level that a word names; 0 where it names none
unfoldable pub level_named : List ℕ → ℕ
level_named w = first 0 1 4 (is_word_of w)

-- byte i of the word is none of `0` to `9`
unfoldable pub is_other : List ℕ → ℕ → Bool
is_other w i = ltb (get_or w i 0) 48 or ltb 57 (get_or w i 0)

-- one to three digits, and no zero before them
unfoldable pub is_short : List ℕ → Bool
is_short w = ltb 0 (length w) and ltb (length w) 4 and not (some 0 (length w) (is_other w)) and not (eqb (get_or w 0 0) 48 and ltb 1 (length w))

-- the number that a word names, as `judge` prints numbers; 256 where it names none from 0 to 255
unfoldable pub number_named : List ℕ → ℕ
number_named w = pick (is_short w and ltb (denoted w) 256) (denoted w) 256
