-- The smallest bit of a row.
use Prim.Native.Nat.{ℕ, zero, suc, ◌+◌, ◌-◌, ◌*◌, ◌/◌, ◌%◌, ◌^◌, ◌<◌, ◌≤◌}
use mathlib.Core.Path.{◌≡◌, refl, sym, ap, ◌∙◌}
use mathlib.Core.Bool.{Bool, not}
use mathlib.Core.Logic.{⊎_elim}
use native.Mathlib.Omega.{arith}
use native.Mathlib.Nat.{mod-lt}
use lib.Count.{count_trailing_zeros, under, trailing_le}
use lib.Dec.{eqb}
use lib.Pow.{shr-shr}
use borrow.Author.Tests.{eqb-false, eq-eqb, ne_eqb}
use Rattle.base.specs.Base.{◌and◌}
use Rattle.base.proofs.Tests.{split, clash, and_left, and_right, not-true}
use Rattle.bits.specs.Bits.{test_bit, lacks, Minus, row_of, Least}
use Rattle.bits.proofs.Words.{test_bit_one}
use Rattle.bits.proofs.Tables.{row_low, row_high}

-- ── a word's smallest bit ──

pub low_bit : (w : ℕ) → test_bit w 0 ≡ eqb (w % 2) 1
unfolding test_bit
low_bit w = let e : w / 2 ^ 0 ≡ w = omega arith in rw e

shifted_bit : (w j k : ℕ) → test_bit (w / 2 ^ j) k ≡ test_bit w (j + k)
unfolding test_bit
shifted_bit w j k = ap (λ (n : ℕ). eqb (n % 2) 1) (shr-shr w j k)

pub upper_bit : (w k : ℕ) → test_bit (w / 2) k ≡ test_bit w (k + 1)
upper_bit w k = let e : 1 + k ≡ k + 1 = omega arith in rw (← e) (shifted_bit w 1 k)

-- below the lowest bit d stand the zeros of the others, if it is one
least_under : (w k d t : ℕ) → w % 2 ≡ d → Least (test_bit (w / 2)) 0 k t → Least (test_bit w) 0 (suc k) (under d t)
least_under w k zero t e p =
    record {
      from = omega arith;
      hit = λ l. let q : t + 1 ≡ suc t = omega arith in rw (← q) (sym (upper_bit w t) ∙ p.hit (omega arith));
      none =
          λ i a b c.
          ⊎_elim
          (λ z. let q : i - 1 + 1 ≡ i = omega arith in rw (← q) (sym (upper_bit w (i - 1)) ∙ p.none (i - 1) (omega arith) (omega arith) (omega arith)))
          (λ z. let q : i ≡ 0 = omega arith in rw q (low_bit w ∙ ne_eqb (w % 2) 1 (λ n. omega arith))) (split 0 i);
    }
least_under w k (suc d) t e p =
    record {
      from = omega arith;
      hit = λ l. low_bit w ∙ eq-eqb (w % 2) 1 (omega (arith, mod-lt w {m = 2} (omega arith)));
      none = λ i a b c. absurd (omega arith);
    }

least_zeros : (k w : ℕ) → Least (test_bit w) 0 k (count_trailing_zeros k w)
unfolding count_trailing_zeros
least_zeros zero w = record { from = omega arith; hit = λ l. absurd (omega arith); none = λ i a b c. absurd (omega arith) }
least_zeros (suc k) w = least_under w k (w % 2) (count_trailing_zeros k (w / 2)) refl (least_zeros k (w / 2))

pub least_from : (w a : ℕ) → Least (test_bit w) a 64 (a + count_trailing_zeros 64 (w / 2 ^ a))
least_from w a =
    let p = least_zeros 64 (w / 2 ^ a) in
    record {
      from = omega arith;
      hit = λ l. sym (shifted_bit w a (count_trailing_zeros 64 (w / 2 ^ a))) ∙ p.hit (omega arith);
      none =
          λ i f l m.
          let q : a + (i - a) ≡ i = omega arith in
          rw (← q) (sym (shifted_bit w a (i - a)) ∙ p.none (i - a) (omega arith) (omega arith) (omega arith));
    }

pub zeros_few : (w : ℕ) → count_trailing_zeros 64 w ≤ 64
zeros_few w = trailing_le 64 w

-- ── a word that loses its smallest bit ──

module _ {w a u : ℕ} (s : a < 64) (m : Minus w ((1 * 2 ^ a) % 2 ^ 64) u) where
  -- the others stay
  pub lost_bit : (k : ℕ) → test_bit u k ≡ test_bit w k and not (eqb k a)
  unfolding lacks
  lost_bit k = m.is k ∙ ap (λ (b : Bool). test_bit w k and not b) (test_bit_one a k s)

  -- so that the smallest of them is greater
  pub lost_more : {b : ℕ} → Least (test_bit w) 0 64 a → Least (test_bit u) 0 64 b → a < b
  lost_more {b} p q =
      ⊎_elim (λ g. g)
      (λ g.
      let t = sym (lost_bit b) ∙ q.hit (omega arith) in
      absurd
      (⊎_elim (λ x. clash (and_left _ _ t) (p.none b (omega arith) x (omega arith)))
      (λ x. eqb-false b a (not-true _ (and_right _ _ t)) (omega arith)) (split b a)))
      (split a b)

-- ── of two words ──

module _ (lo hi : ℕ) where
  pub row_in_low : (y : ℕ) → y < 64 → row_of lo hi y ≡ test_bit lo y
  row_in_low y l = let e : y % 64 ≡ y = omega arith in row_low lo hi y l ∙ ap (test_bit lo) e

  pub row_in_high : (y : ℕ) → 64 ≤ y → y < 128 → row_of lo hi y ≡ test_bit hi (y - 64)
  row_in_high y l h = let e : y % 64 ≡ y - 64 = omega arith in row_high lo hi y l h ∙ ap (test_bit hi) e

  -- from a number of the high word on
  pub least_high : {a r : ℕ} → 64 ≤ a → Least (test_bit hi) (a - 64) 64 r → Least (row_of lo hi) a 128 (64 + r)
  least_high {a} {r} l p =
      record {
        from = omega (arith, p.from);
        hit =
            λ m.
            let q : 64 + r - 64 ≡ r = omega arith in
            row_in_high (64 + r) (omega arith) m ∙ ap (test_bit hi) q ∙ p.hit (omega arith);
        none = λ i f m n. row_in_high i (omega arith) n ∙ p.none (i - 64) (omega arith) (omega arith) (omega arith);
      }

  -- the low word has one, or not
  pub least_low : {a r : ℕ} → Least (test_bit lo) a 64 r → r < 64 → Least (row_of lo hi) a 128 r
  least_low p l =
      record {
        from = p.from;
        hit = λ m. row_in_low _ l ∙ p.hit l;
        none = λ i f m n. row_in_low i (omega arith) ∙ p.none i f m (omega arith);
      }

  pub least_over : {a b r : ℕ} → a < 64 → Least (test_bit lo) a 64 b → 64 ≤ b → Least (test_bit hi) 0 64 r → Least (row_of lo hi) a 128 (64 + r)
  least_over {a} {b} {r} l p m q =
      let u = least_high {a = 64} (omega arith) q in
      record {
        from = omega arith;
        hit = u.hit;
        none =
            λ i f x y.
            ⊎_elim (λ s. row_in_low i s ∙ p.none i f (omega arith) s) (λ g. u.none i g x y) (split i 64);
      }

pub least_end : (p : ℕ → Bool) → Least p 128 128 128
least_end p = record { from = omega arith; hit = λ l. absurd (omega arith); none = λ i a b c. absurd (omega arith) }
