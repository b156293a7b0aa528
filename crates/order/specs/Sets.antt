-- Sets of numbers below 128, held in two words.
use Rattle.std.specs.Prelude.{ℕ, ◌+◌, ◌-◌, ◌<◌, ◌≡◌, Bool, not, ltb, eqb}
use Rattle.base.specs.Base.{◌and◌, ◌or◌, pick}
use Rattle.bits.specs.Bits.{test_bit}
use Rattle.order.specs.declared.Words.{Words}

-- the set of two words
abbrev pub words : ℕ → ℕ → Words
words l h = record { lo = l; hi = h }

-- the number a is in w
unfoldable pub in_words : Words → ℕ → Bool
in_words w a = pick (ltb a 64) (test_bit w.lo a) (test_bit w.hi (a - 64))

-- the number a is in m, and not in p
unfoldable pub is_left : Words → Words → ℕ → Bool
is_left m p a = in_words m a and not (in_words p a)

-- v is w and the number a
pub record Plus (w : Words) (a : ℕ) (v : Words) : Type 0 where
  pub is : (x : ℕ) → x < 128 → in_words v x ≡ in_words w x or eqb x a

-- v is the word u, of the 64 numbers from b on, and the number a, if it is one of them
pub record Given (b u a v : ℕ) : Type 0 where
  pub is : (k : ℕ) → k < 64 → test_bit v k ≡ test_bit u k or eqb (b + k) a

-- w has the numbers below n that pass p, and no other
pub record Gathered (p : ℕ → Bool) (n : ℕ) (w : Words) : Type 0 where
  pub is : (x : ℕ) → x < 128 → in_words w x ≡ ltb x n and p x
