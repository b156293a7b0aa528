-- The bits of a word.
use Prim.Native.Nat.{ℕ, zero, suc, ◌+◌, ◌-◌, ◌*◌, ◌/◌, ◌%◌, ◌^◌, ◌<◌, min, max}
use mathlib.Core.Path.{◌≡◌, refl, sym, ap, ◌∙◌}
use mathlib.Core.Bool.{Bool, false, not}
use mathlib.Core.Logic.{⊎_elim}
use native.Mathlib.Omega.{arith}
use native.Mathlib.Nat.{one-mul}
use lib.Bits.{bit_and, bit_or, bit_xor}
use lib.Dec.{eqb}
use lib.Pow.{shl_exact}
use borrow.Author.Tests.{eqb-true, eqb-false, eq-eqb}
use Rattle.std.proofs.Common.{w64}
use Rattle.std.proofs.lemmas.Nat.Bits.{bit_at-lt, bit_at-zero, bit_at_and, bit_at_or, bit_at_xor, bit_at_not, bit_at_above, bit_at-pow_same, bit_at-pow_other, same_from_bits_below}
use Rattle.base.specs.Base.{◌and◌, ◌or◌}
use Rattle.base.proofs.Tests.{ifso, split, and_no_left}
use Rattle.bits.specs.Bits.{test_bit, lacks, Minus}

-- no bit of 0
pub test_bit-zero : (k : ℕ) → test_bit 0 k ≡ false
unfolding test_bit
test_bit-zero k = ap (λ (n : ℕ). eqb n 1) (bit_at-zero k)

-- ── two words, bit by bit ──

-- what holds of the four pairs of bits holds of all
on_bits : (P : ℕ → ℕ → Type 0) → P 0 0 → P 0 1 → P 1 0 → P 1 1 → (p q : ℕ) → p < 2 → q < 2 → P p q
on_bits P a b c d zero zero hp hq = a
on_bits P a b c d zero (suc zero) hp hq = b
on_bits P a b c d (suc zero) zero hp hq = c
on_bits P a b c d (suc zero) (suc zero) hp hq = d
on_bits P a b c d zero (suc (suc q)) hp hq = absurd (omega arith)
on_bits P a b c d (suc zero) (suc (suc q)) hp hq = absurd (omega arith)
on_bits P a b c d (suc (suc p)) q hp hq = absurd (omega arith)

pub test_bit_or : (x y k : ℕ) → test_bit (bit_or x y) k ≡ test_bit x k or test_bit y k
unfolding test_bit ◌or◌
test_bit_or x y k =
    ap (λ (n : ℕ). eqb n 1) (bit_at_or x y k)
    ∙ on_bits (λ p q. eqb (max p q) 1 ≡ eqb p 1 or eqb q 1) refl refl refl refl _ _ (bit_at-lt x k) (bit_at-lt y k)

pub test_bit-and : (x y k : ℕ) → test_bit (bit_and x y) k ≡ test_bit x k and test_bit y k
unfolding test_bit ◌and◌
test_bit-and x y k =
    ap (λ (n : ℕ). eqb n 1) (bit_at_and x y k)
    ∙ on_bits (λ p q. eqb (min p q) 1 ≡ eqb p 1 and eqb q 1) refl refl refl refl _ _ (bit_at-lt x k) (bit_at-lt y k)

-- ── a word without the bits of another ──

-- the bits of both, then those of p turned round
pub minus_bits : (m p : ℕ) → Minus m p (bit_xor (bit_or m p) p)
unfolding lacks test_bit ◌and◌
minus_bits m p =
    record {
      is =
          λ k.
          ap (λ (n : ℕ). eqb n 1) (bit_at_xor (bit_or m p) p k ∙ ap (λ (n : ℕ). (n + p / 2 ^ k % 2) % 2) (bit_at_or m p k))
          ∙ on_bits (λ a b. eqb ((max a b + b) % 2) 1 ≡ eqb a 1 and not (eqb b 1)) refl refl refl refl _ _ (bit_at-lt m k) (bit_at-lt p k);
    }

-- the other word turned round, below its length
not_bit : (b : ℕ) → b < 2 → eqb (1 - b) 1 ≡ not (eqb b 1)
not_bit zero h = refl
not_bit (suc zero) h = refl
not_bit (suc (suc b)) h = absurd (omega arith)

pub minus_not : (m p : ℕ) → m < 2 ^ 64 → p < 2 ^ 64 → Minus m p (bit_and m (2 ^ 64 - 1 - p))
unfolding lacks test_bit
minus_not m p hm hp =
    record {
      is =
          λ k.
          test_bit-and m (2 ^ 64 - 1 - p) k
          ∙ ⊎_elim (λ l. ap (λ (b : Bool). test_bit m k and b) (ap (λ (n : ℕ). eqb n 1) (bit_at_not w64 p k hp l) ∙ not_bit _ (bit_at-lt p k)))
          (λ l.
          let e : test_bit m k ≡ false = ap (λ (n : ℕ). eqb n 1) (bit_at_above m 64 k hm l) in
          and_no_left _ _ e ∙ sym (and_no_left _ _ e))
          (split k 64);
    }

-- ── the word with the one bit j ──

test_bit_pow : (j k : ℕ) → test_bit (2 ^ j) k ≡ eqb k j
unfolding test_bit
test_bit_pow j k =
    ifso (eqb k j) (λ t. let e = eqb-true k j t in rw (e, bit_at-pow_same j) (sym (eq-eqb j j refl)))
    (λ t. ap (λ (n : ℕ). eqb n 1) (bit_at-pow_other j k (eqb-false k j t)) ∙ sym t)

-- the same as the machine shifts it
pub test_bit_one : (j k : ℕ) → j < 64 → test_bit ((1 * 2 ^ j) % 2 ^ 64) k ≡ eqb k j
test_bit_one j k h =
    ap (λ (m : ℕ). test_bit m k) (shl_exact {a = 1} 1 j 64 (omega arith) (omega arith) ∙ one-mul _) ∙ test_bit_pow j k

-- ── a word is known by its bits ──

pub word_one : (n x y : ℕ) → x < 2 ^ n → y < 2 ^ n → ((k : ℕ) → k < n → test_bit x k ≡ test_bit y k) → x ≡ y
unfolding test_bit
word_one n x y hx hy h =
    same_from_bits_below n x y hx hy
    (λ i l. on_bits (λ p q. eqb p 1 ≡ eqb q 1 → p ≡ q) (λ e. refl) (λ e. cc) (λ e. cc) (λ e. refl) _ _ (bit_at-lt x i) (bit_at-lt y i) (h i l))
