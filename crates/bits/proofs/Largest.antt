-- The greatest bit of a row.
use Prim.Native.Nat.{ℕ, suc, ◌+◌, ◌-◌, ◌*◌, ◌/◌, ◌^◌, ◌<◌, ◌≤◌}
use mathlib.Core.Path.{◌≡◌, refl, sym, ap, ◌∙◌}
use mathlib.Core.Bool.{true, false}
use mathlib.Core.Logic.{⊎_elim}
use native.Mathlib.Omega.{arith}
use native.Mathlib.Nat.{div-eq_of_lt, div-eq_of_lt-le, lt_of_lt_of_le, pow-suc}
use lib.Count.{count_leading_zeros, leading_top}
use lib.Pow.{pow_mono}
use Rattle.base.specs.Base.{last}
use Rattle.base.proofs.Tests.{split}
use Rattle.base.proofs.Chains.{last-is}
use Rattle.bits.specs.Bits.{test_bit, row_of, GreatestBit}
use Rattle.bits.proofs.Words.{test_bit-zero}
use Rattle.bits.proofs.Smallest.{row_in_low, row_in_high}

-- ── of a word ──

-- a word has no bit from its length on
bit_over : (w m i : ℕ) → w < 2 ^ m → m ≤ i → test_bit w i ≡ false
unfolding test_bit
bit_over w m i h l = let p : w < 2 ^ i = lt_of_lt_of_le h (pow_mono l) in rw (div-eq_of_lt p)

-- and the bit below
bit_top : (w j : ℕ) → 2 ^ j ≤ w → w < 2 ^ suc j → test_bit w j ≡ true
unfolding test_bit
bit_top w j l h =
    let p = pow-suc 2 j in
    let e : w / 2 ^ j ≡ 1 = div-eq_of_lt-le {k = 1} (2 ^ j) {m = w} (omega arith) (omega arith) in
    rw e refl

-- by the powers of 2 that the word lies between
pub greatest_between : (w j : ℕ) → j < 64 → 2 ^ j ≤ w → w < 2 * 2 ^ j → GreatestBit (test_bit w) 64 j
greatest_between w j few l h =
    let t : w < 2 ^ suc j = omega (arith, pow-suc 2 j) in
    record { few = few; hit = bit_top w j l t; none = λ i a b. bit_over w (suc j) i t (omega arith) }

-- by the zeros before it
pub greatest_word : (w : ℕ) → 0 < w → w < 2 ^ 64 → GreatestBit (test_bit w) 64 (63 - count_leading_zeros 64 w)
greatest_word w p h =
    let t = leading_top 64 w p h in
    let e : 63 - count_leading_zeros 64 w ≡ t.0 = omega (arith, t.1) in
    rw e (greatest_between w t.0 (omega (arith, t.1)) t.2 (omega (arith, t.3, pow-suc 2 t.0)))

-- ── of two words ──

module _ (lo hi : ℕ) where
  pub greatest_high : {r : ℕ} → GreatestBit (test_bit hi) 64 r → 64 + r ≡ last (row_of lo hi) 128
  greatest_high {r} g =
      sym
      (last-is (row_of lo hi) 128 (64 + r)
      (λ z. let e : 64 + r - 64 ≡ r = omega arith in (row_in_high lo hi (64 + r) (omega arith) (omega (arith, g.few)) ∙ ap (test_bit hi) e ∙ g.hit, omega (arith, g.few)))
      (λ i a b. row_in_high lo hi i (omega arith) b ∙ g.none (i - 64) (omega arith) (omega arith)))

  -- where the high word is 0
  pub greatest_low : {r : ℕ} → hi ≡ 0 → GreatestBit (test_bit lo) 64 r → r ≡ last (row_of lo hi) 128
  greatest_low {r} z g =
      sym
      (last-is (row_of lo hi) 128 r (λ p. (row_in_low lo hi r g.few ∙ g.hit, omega (arith, g.few)))
      (λ i a b.
      ⊎_elim (λ l. row_in_low lo hi i l ∙ g.none i a l) (λ l. row_in_high lo hi i l b ∙ rw z (test_bit-zero (i - 64))) (split i 64)))

  -- where both are
  pub greatest_none : hi ≡ 0 → lo ≡ 0 → 0 ≡ last (row_of lo hi) 128
  greatest_none z y =
      sym
      (last-is (row_of lo hi) 128 0 (λ p. absurd (omega arith))
      (λ i a b.
      ⊎_elim (λ l. row_in_low lo hi i l ∙ rw y (test_bit-zero i)) (λ l. row_in_high lo hi i l b ∙ rw z (test_bit-zero (i - 64))) (split i 64)))
