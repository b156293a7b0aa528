-- Rows joined one after the other.
use Prim.Native.Nat.{ℕ, ◌+◌, ◌-◌, ◌*◌, ◌<◌, ◌≤◌}
use mathlib.Core.Path.{◌≡◌, sym, ap, ◌∙◌}
use mathlib.Core.Bool.{Bool, false}
use mathlib.Core.List.{List}
use mathlib.Core.Logic.{⊎_elim}
use native.Mathlib.Omega.{arith}
use lib.Bits.{bit_or}
use lib.ListN.{get_or}
use Rattle.base.specs.Base.{◌or◌, some}
use Rattle.base.proofs.Tests.{ifso, split, or_off, or_right}
use Rattle.base.proofs.Searches.{some_end}
use Rattle.base.proofs.Chains.{top_hit, top_miss}
use Rattle.bits.specs.Bits.{row_of}
use Rattle.bits.proofs.Words.{test_bit-zero, test_bit_or}
use Rattle.bits.proofs.Tables.{row_low, row_high, row-own}
use Rattle.order.specs.Sets.{words}
use Rattle.vectors.specs.Vectors.{slot, Small, named, Joined}

-- two words without bits; the bits of either of two rows
pub row_zero : (y : ℕ) → y < 128 → row_of 0 0 y ≡ false
row_zero y h = ⊎_elim (λ l. row_low 0 0 y l ∙ test_bit-zero _) (λ l. row_high 0 0 y l h ∙ test_bit-zero _) (split y 64)

pub row_or : (a b p q y : ℕ) → y < 128 → row_of (bit_or a p) (bit_or b q) y ≡ row_of a b y or row_of p q y
row_or a b p q y h =
    ⊎_elim (λ l. rw (row_low (bit_or a p) (bit_or b q) y l, row_low a b y l, row_low p q y l) (test_bit_or a p _))
    (λ l. rw (row_high (bit_or a p) (bit_or b q) y l h, row_high a b y l h, row_high p q y l h) (test_bit_or b q _)) (split y 64)

-- one more
top_more : (q : ℕ → Bool) (a j : ℕ) → a ≤ j → some a (j + 1) q ≡ some a j q or q j
top_more q a j h =
    ifso (q j) (λ t. top_hit q a j h t ∙ sym (or_right _ _ t)) (λ t. top_miss q a j t ∙ sym (or_off _ _ t))

-- an entry as it is read
pub entry_small : {v : List ℕ} {t : ℕ} (s : ℕ) → s < 128 → Small v t → get_or v (128 * t + s) 0 < 128
unfolding slot
entry_small s l h = h.is s l

-- a loop that has come to column s
pub record Joining (f v : List ℕ) (t width s lo hi : ℕ) : Type 0 where
  pub from : 1 ≤ s
  pub upto : s ≤ 1 + (width - 1)
  pub is : (y : ℕ) → y < 128 → row_of lo hi y ≡ some 1 s (named f v t y)

module _ {f v : List ℕ} {t width : ℕ} where
  pub joining_start : Joining f v t width 1 0 0
  joining_start =
      record { from = omega arith; upto = omega arith; is = λ y h. row_zero y h ∙ sym (some_end (named f v t y) 1 1 (omega arith)) }

  pub joining_step : {s lo hi : ℕ} → s < width → Joining f v t width s lo hi
      → let x = get_or v (128 * t + s) 0 in Joining f v t width (s + 1) (bit_or lo (get_or f (2 * x) 0)) (bit_or hi (get_or f (2 * x + 1) 0))
  unfolding named slot
  joining_step {s} {lo} {hi} l g =
      record {
        from = omega arith;
        upto = omega arith;
        is = λ y h. row_or lo hi _ _ y h ∙ rw (g.is y h, row-own f (get_or v (128 * t + s) 0) y h) (sym (top_more (named f v t y) 1 s g.from));
      }

  pub joining_end : {s lo hi : ℕ} → width ≤ s → Joining f v t width s lo hi → Joined f v t width (words lo hi)
  joining_end {s} l g =
      record {
        is =
            λ y h.
            g.is y h
            ∙ ⊎_elim (λ z. some_end (named f v t y) 1 s (omega (arith, g.upto)) ∙ sym (some_end (named f v t y) 1 width (omega arith)))
            (λ z. let e : s ≡ width = omega (arith, g.upto) in ap (λ (k : ℕ). some 1 k (named f v t y)) e)
            (split width 1);
      }
