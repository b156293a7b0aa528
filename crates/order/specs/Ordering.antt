-- The order that a table of forced pairs leaves. Row b of the table has the numbers that come before b.
use Rattle.std.specs.Prelude.{ℕ, ◌+◌, ◌-◌, ◌≤◌, ◌<◌, ◌≡◌, Bool, not, List, length, take}
use Rattle.base.specs.Base.{◌and◌, some}
use Rattle.theory.specs.Order.{mem, unplaced}
use Rattle.bits.specs.Bits.{test_bit, bit_of, Under}
use Rattle.order.specs.declared.Words.{Words}
use Rattle.order.specs.Sets.{in_words}

-- a comes before b
unfoldable pub stands_before : List ℕ → ℕ → ℕ → Bool
stands_before f a b = bit_of f b a

-- row a of the table has b, and p has not
unfoldable pub waits : List ℕ → Words → ℕ → ℕ → Bool
waits f p a b = bit_of f a b and not (in_words p b)

-- a may come next, after those of p: it is a member, is not placed, and no number of its row is missing there
unfoldable pub is_next : List ℕ → Words → Words → ℕ → Bool
is_next f m p a = in_words m a and not (in_words p a) and not (some 0 128 (waits f p a))

-- the number a, from `base` on, has its bit in `left`, and its row does not keep it back
unfoldable pub is_free : List ℕ → Words → ℕ → ℕ → ℕ → Bool
is_free f p left base a = test_bit left (a - base) and not (some 0 128 (waits f p a))

-- what the recursion needs: p has the first `at` bytes of o, and there is room for the members that are not among them
pub record Orderable (f : List ℕ) (n : ℕ) (m p : Words) (o : List ℕ) (at : ℕ) : Type 0 where
  pub table : Under n f
  pub placed : (x : ℕ) → x < 128 → in_words p x ≡ mem x (take at o)
  pub whole : length o ≡ 128
  pub room : at + unplaced n (in_words m) (take at o) ≤ 128
