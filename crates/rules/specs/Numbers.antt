-- Bytes as numbers, and parts of a list of bytes.
use Rattle.std.specs.Prelude.{ℕ, zero, suc, ◌+◌, ◌-◌, ◌*◌, ◌/◌, ◌%◌, List, [], ◌∷◌, ◌++◌, length, get_or, take, drop}

-- "all little-endian": the number that the w bytes from `at` on spell
unfoldable pub le : ℕ → List ℕ → ℕ → ℕ
le zero s at = 0
le (suc w) s at = get_or s at 0 + 256 * le w s (at + 1)

-- .. and the w bytes that spell n
unfoldable pub bytes : ℕ → ℕ → List ℕ
bytes zero n = []
bytes (suc w) n = n % 256 ∷ bytes w (n / 256)

-- the bytes from a to before e
abbrev pub part : ℕ → ℕ → List ℕ → List ℕ
part a e s = take (e - a) (drop a s)

-- "Bytes behind what is written do not change": l written over the front of b
unfoldable pub over : List ℕ → List ℕ → List ℕ
over l b = l ++ drop (length l) b
