-- How many numbers pass a test: as many as a filter leaves of them.
use Prim.Native.Nat.{ℕ, zero, suc, ◌+◌}
use mathlib.Core.Bool.{Bool, true, false, cond}
use mathlib.Core.List.{List, ◌∷◌}
use mathlib.Core.Path.{◌≡◌, refl}
use native.Mathlib.Omega.{arith}
use native.Mathlib.Nat.{sub-zero}
use lib.ListN.{length}
use Rattle.std.specs.List.{filter, range_with_len}
use Rattle.base.specs.Base.{pick, count_of, count}

one_more : (b : Bool) (a : ℕ) (xs : List ℕ) (m : ℕ) → length xs ≡ m → length (cond b (a ∷ xs) xs) ≡ pick b 1 0 + m
unfolding pick
one_more true a xs m e = omega (arith, e)
one_more false a xs m e = omega (arith, e)

filtered : (p : ℕ → Bool) (a n : ℕ) → length (filter p (range_with_len a n)) ≡ count_of p a n
unfolding count_of
filtered p a zero = refl
filtered p a (suc n) = one_more (p a) a (filter p (range_with_len (a + 1) n)) _ (filtered p (a + 1) n)

pub filtered-count : (p : ℕ → Bool) (n : ℕ) → length (filter p (range_with_len 0 n)) ≡ count 0 n p
unfolding count
filtered-count p n = rw (sub-zero n) (filtered p 0 n)
