-- What is reached from some numbers on, over any relation on numbers.
use Rattle.std.specs.Prelude.{◌≡◌, Bool, true, ℕ, zero, suc}
use Rattle.base.specs.Base.{◌and◌, ◌or◌, some}

-- the smallest set that has each number of s and, with a, each b for which f a b
pub data Reached (s : ℕ → Bool) (f : ℕ → ℕ → Bool) : ℕ → Type 0 where
  from : {a : ℕ} → s a ≡ true → Reached s f a
  on : {a b : ℕ} → Reached s f a → f a b ≡ true → Reached s f b

-- the same as a test: b is reached from s in k rounds at most, through numbers below n
unfoldable pub reach : (ℕ → Bool) → (ℕ → ℕ → Bool) → ℕ → ℕ → ℕ → Bool
reach s f n zero b = s b
reach s f n (suc k) b = s b or some 0 n (λ a. f a b and reach s f n k a)
