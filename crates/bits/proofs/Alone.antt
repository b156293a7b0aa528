-- A word, or a row, that has one number and nothing else; a row without the bits of another.
use Prim.Native.Nat.{ℕ, ◌+◌, ◌-◌, ◌*◌, ◌/◌, ◌%◌, ◌^◌, ◌<◌}
use mathlib.Core.Path.{◌≡◌, refl, sym, ◌∙◌}
use mathlib.Core.Bool.{not}
use mathlib.Core.Logic.{⊎_elim}
use native.Mathlib.Omega.{arith}
use native.Mathlib.Nat.{mod-lt}
use lib.Dec.{eqb}
use borrow.Author.Tests.{ne_eqb}
use Rattle.base.specs.Base.{◌and◌}
use Rattle.base.proofs.Tests.{split, same-eqb}
use Rattle.bits.specs.Bits.{lacks, Minus, row_of, Alone}
use Rattle.bits.proofs.Words.{test_bit-zero, test_bit_one}
use Rattle.bits.proofs.Smallest.{row_in_low, row_in_high}

module _ (a half : ℕ) where
  pub alone_in : a / 64 ≡ half → Alone a half ((1 * 2 ^ (a % 64)) % 2 ^ 64)
  alone_in e =
      record {
        is =
            λ y l.
            test_bit_one (a % 64) y (mod-lt a (omega arith)) ∙ same-eqb y (a % 64) a (64 * half + y) (λ q. omega arith) (λ q. omega arith);
      }

  pub alone_out : (a / 64 ≡ half → ⊥) → Alone a half 0
  alone_out n = record { is = λ y l. test_bit-zero y ∙ sym (ne_eqb a (64 * half + y) (λ q. n (omega arith))) }

pub row_alone : {a p q : ℕ} → Alone a 0 p → Alone a 1 q → (t2 : ℕ) → t2 < 128 → row_of p q t2 ≡ eqb a t2
row_alone {a} {p} {q} m n t2 l =
    ⊎_elim
    (λ s.
    let e : 64 * 0 + t2 ≡ t2 = omega arith in
    row_in_low p q t2 s ∙ m.is t2 s ∙ rw e refl)
    (λ s.
    let e : 64 * 1 + (t2 - 64) ≡ t2 = omega arith in
    row_in_high p q t2 s l ∙ n.is (t2 - 64) (omega arith) ∙ rw e refl)
    (split t2 64)

pub row_minus : {lo hi a b p q : ℕ} → Minus lo a p → Minus hi b q → (t2 : ℕ) → t2 < 128 → row_of p q t2 ≡ row_of lo hi t2 and not (row_of a b t2)
unfolding lacks
row_minus {lo} {hi} {a} {b} {p} {q} m n t2 l =
    ⊎_elim (λ s. row_in_low p q t2 s ∙ m.is t2 ∙ rw (row_in_low lo hi t2 s, row_in_low a b t2 s))
    (λ s. row_in_high p q t2 s l ∙ n.is (t2 - 64) ∙ rw (row_in_high lo hi t2 s l, row_in_high a b t2 s l)) (split t2 64)
