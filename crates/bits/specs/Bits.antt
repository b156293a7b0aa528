-- A table of bits: 128 rows of two words of 64 bits.
use Rattle.std.specs.Prelude.{ℕ, ◌+◌, ◌*◌, ◌/◌, ◌%◌, ◌^◌, ◌≤◌, ◌<◌, ◌≡◌, Bool, true, false, not, List, [], ◌∷◌, eqb, ltb, length, get_or}
use Rattle.base.specs.Base.{◌and◌, ◌or◌}

-- bit k of the word w
unfoldable pub test_bit : ℕ → ℕ → Bool
test_bit w k = eqb (w / 2 ^ k % 2) 1

-- the word u has the bit k, and v has not
unfoldable pub lacks : ℕ → ℕ → ℕ → Bool
lacks u v k = test_bit u k and not (test_bit v k)

-- r is u without the bits of v
pub record Minus (u v r : ℕ) : Type 0 where
  pub is : (k : ℕ) → test_bit r k ≡ lacks u v k

-- bit b of row a
unfoldable pub bit_of : List ℕ → ℕ → ℕ → Bool
bit_of t a b = test_bit (get_or t (2 * a + b / 64) 0) (b % 64)

-- the table t holds the relation f
pub record Holds (t : List ℕ) (f : ℕ → ℕ → Bool) : Type 0 where
  pub room : length t ≡ 256
  pub is : (x y : ℕ) → x < 128 → y < 128 → bit_of t x y ≡ f x y

-- the relation without pairs
unfoldable pub nothing : ℕ → ℕ → Bool
nothing x y = false

-- E or G
unfoldable pub either : (ℕ → ℕ → Bool) → (ℕ → ℕ → Bool) → ℕ → ℕ → Bool
either E G x y = E x y or G x y

-- E and the pair (a, b)
unfoldable pub plus_bit : (ℕ → ℕ → Bool) → ℕ → ℕ → ℕ → ℕ → Bool
plus_bit E a b x y = E x y or (eqb x a and eqb y b)

-- E without the pair (a, b)
unfoldable pub minus_bit : (ℕ → ℕ → Bool) → ℕ → ℕ → ℕ → ℕ → Bool
minus_bit E a b x y = E x y and not (eqb x a and eqb y b)

-- a number from 1 to before n with itself
unfoldable pub is_self : ℕ → ℕ → ℕ → Bool
is_self n x y = eqb x y and ltb 0 x and ltb x n

-- E and these pairs; E without them
unfoldable pub plus_selves : ℕ → (ℕ → ℕ → Bool) → ℕ → ℕ → Bool
plus_selves n E x y = E x y or is_self n x y

unfoldable pub minus_selves : ℕ → (ℕ → ℕ → Bool) → ℕ → ℕ → Bool
minus_selves n E x y = E x y and not (is_self n x y)

-- E and the pairs (a, y) with r y
unfoldable pub plus_row : (ℕ → ℕ → Bool) → ℕ → (ℕ → Bool) → ℕ → ℕ → Bool
plus_row E a r x y = E x y or (eqb x a and r y)

-- the bits of a row whose words are p and q
unfoldable pub row_of : ℕ → ℕ → ℕ → Bool
row_of p q = bit_of (p ∷ q ∷ []) 0

-- E, and what it leads to by way of k
unfoldable pub once_more : (ℕ → ℕ → Bool) → ℕ → ℕ → ℕ → Bool
once_more E k x y = E x y or (E x k and E k y)

-- a table whose pairs are all of numbers below n
pub record Under (n : ℕ) (t : List ℕ) : Type 0 where
  pub room : length t ≡ 256
  pub few : n ≤ 128
  pub pairs : (x y : ℕ) → x < 128 → y < 128 → bit_of t x y ≡ true → (x < n) × (y < n)

-- r is the smallest number from a to before e that passes p; e or more where none does
pub record Least (p : ℕ → Bool) (a e r : ℕ) : Type 0 where
  pub from : a ≤ r
  pub hit : r < e → p r ≡ true
  pub none : (i : ℕ) → a ≤ i → i < r → i < e → p i ≡ false

-- r is the greatest number below n that passes p, and there is one
pub record GreatestBit (p : ℕ → Bool) (n r : ℕ) : Type 0 where
  pub few : r < n
  pub hit : p r ≡ true
  pub none : (i : ℕ) → r < i → i < n → p i ≡ false

-- the word r, of the 64 numbers from 64 * half on, has a, and nothing else
pub record Alone (a half r : ℕ) : Type 0 where
  pub is : (y : ℕ) → y < 64 → test_bit r y ≡ eqb a (64 * half + y)
