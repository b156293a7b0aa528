-- A text put into a buffer, as far as the buffer reaches.
use Rattle.std.specs.Prelude.{ℕ, ◌+◌, ◌≤◌, ◌≡◌, List, [], ◌∷◌, length, set}

-- the buffer o with xs in it from `at` on; a byte that would stand past its end is left out
unfoldable pub laid : List ℕ → ℕ → List ℕ → List ℕ
laid o at [] = o
laid o at (x ∷ xs) = laid (set o at x) (at + 1) xs

-- xs was put into o at `at`, which made b of it; it ends at n, whether or not the buffer reaches so far
pub record Put (o : List ℕ) (at : ℕ) (b : List ℕ) (n : ℕ) (xs : List ℕ) : Type 0 where
  pub end : n ≡ at + length xs
  pub is : b ≡ laid o at xs

-- a text at `at` that ends at 1,048,576 at most: no place is too large a number
pub record Short (at : ℕ) (xs : List ℕ) : Type 0 where
  pub bound : at + length xs ≤ 1048576
