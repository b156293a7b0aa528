-- What is printed of a number, as a condition: its decimal digits, the highest first, and no zero before them. `decimal` computes them (Lines.antt).
use Rattle.std.specs.Prelude.{ℕ, ◌+◌, ◌-◌, ◌*◌, ◌<◌, ◌≤◌, ◌≡◌, List, [], ◌∷◌, length, get_or}

-- the bytes `0` to `9`
pub record IsDigit (d : ℕ) : Type 0 where
  pub from : 48 ≤ d
  pub to : d ≤ 57

abbrev pub EachDigit : List ℕ → Type 0
EachDigit ds = (i : ℕ) → i < length ds → IsDigit (get_or ds i 0)

-- what digits denote behind those that denote a: each makes ten of one
unfoldable pub denoted_from : ℕ → List ℕ → ℕ
denoted_from a [] = a
denoted_from a (d ∷ ds) = denoted_from (10 * a + (d - 48)) ds

unfoldable pub denoted : List ℕ → ℕ
denoted ds = denoted_from 0 ds

-- ds is how n is written
pub record Numeral (n : ℕ) (ds : List ℕ) : Type 0 where
  pub digits : EachDigit ds
  pub some : 1 ≤ length ds
  -- "0" alone begins with a zero
  pub no_leading_zero : get_or ds 0 0 ≡ 48 → length ds ≡ 1
  pub denotes : denoted ds ≡ n
