-- A table's cells: what a store does to them.
use Prim.Native.Nat.{ℕ, ◌+◌, ◌*◌, ◌<◌, max}
use mathlib.Core.Path.{◌≡◌, sym, ◌∙◌}
use mathlib.Core.Bool.{true, false}
use mathlib.Core.List.{List}
use mathlib.Core.Logic.{⊎_elim}
use native.Mathlib.Omega.{arith}
use lib.Dec.{eqb}
use lib.ListN.{length, set, length-set}
use lib.Seq.{get_or-set_same, get_or-set_other}
use borrow.Author.Tests.{eqb-true, eqb-false}
use Rattle.base.proofs.Tests.{known, split, pick_on, pick_off}
use Rattle.vectors_rules.specs.Latest.{greater}
use Rattle.vectors_rules.proofs.Greatest.{greater_left, greater_right}
use Rattle.vectors.specs.Vectors.{slot, Changed, noted_row}

-- the greater of two, as the machine finds it
pub max_is : (a b : ℕ) → max a b ≡ greater a b
max_is a b =
    ⊎_elim (λ l. let e = greater_right a b (omega arith) in omega arith) (λ l. let e = greater_left a b l in omega arith) (split a b)

-- ── one store ──

-- i is the place of column s of row t
module _ (v : List ℕ) (t s x i : ℕ) (at : i ≡ 128 * t + s) where
  pub cell_same : length v ≡ 16384 → t < 128 → s < 128 → slot (set v i x) t s ≡ x
  unfolding slot
  cell_same h ht hs = rw at (get_or-set_same v (128 * t + s) x 0 (omega arith))

  pub cell_other : (t' s' : ℕ) → s < 128 → s' < 128 → (t' ≡ t → s' ≡ s → ⊥) → slot (set v i x) t' s' ≡ slot v t' s'
  unfolding slot
  cell_other t' s' hs hs' d = get_or-set_other v i (128 * t' + s') x 0 (λ e. d (omega arith) (omega arith))

-- x at column s
pub noted : {v : List ℕ} {y : ℕ} (t s x i : ℕ) → i ≡ 128 * t + s → length v ≡ 16384 → t < 128 → s < 128 → y ≡ greater (slot v t s) x
    → Changed v t (noted_row v t s x) (set v i y)
unfolding noted_row
noted {v} {y} t s x i at h ht hs e =
    record {
      room = length-set v i y ∙ h;
      row =
          λ k hk.
          ⊎_elim
          (λ (b : eqb s k ≡ true).
          let q : s ≡ k = eqb-true s k b in
          rw (pick_on _ x 0 b, ← q) (cell_same v t s y i at h ht hs ∙ e))
          (λ (b : eqb s k ≡ false).
          let d = eqb-false s k b in
          rw (pick_off _ x 0 b) (cell_other v t s y i at t k hs hk (λ p q. d (sym q)) ∙ sym (greater_left (slot v t k) 0 (omega arith))))
          (known (eqb s k));
      others = λ z k hz hk d. cell_other v t s y i at z k hs hk (λ p q. d p);
    }
