-- A row merged into another, column by column and block by block.
use Prim.Native.Nat.{ℕ, ◌+◌, ◌*◌, ◌/◌, ◌<◌, ◌≤◌}
use mathlib.Core.Path.{◌≡◌, refl, sym, ap, ◌∙◌}
use mathlib.Core.List.{List}
use mathlib.Core.Logic.{⊎_elim}
use native.Mathlib.Omega.{arith}
use lib.Dec.{eqb}
use lib.ListN.{length, get_or, set, length-set}
use borrow.Author.Tests.{eqb-true, eqb-false}
use Rattle.base.proofs.Tests.{ifso, split, pick_on, pick_off}
use Rattle.vectors_rules.specs.Latest.{greater}
use Rattle.vectors_rules.proofs.Greatest.{greater_left}
use Rattle.vectors.specs.Vectors.{slot, Changed, NarrowRow, merged_row, merged_block}
use Rattle.vectors.proofs.Cells.{cell_same, cell_other}

-- u is v with row p merged into row t in the columns from a to before e
pub record Merging (v : List ℕ) (t p a e : ℕ) (u : List ℕ) : Type 0 where
  pub from : a ≤ e
  pub room : length u ≡ 16384
  pub done : (k : ℕ) → a ≤ k → k < e → k < 128 → slot u t k ≡ merged_row v t p k
  pub left : (k : ℕ) → (a ≤ k → k < e → ⊥) → k < 128 → slot u t k ≡ slot v t k
  pub others : (x k : ℕ) → x < 128 → k < 128 → (x ≡ t → ⊥) → slot u x k ≡ slot v x k

module _ {v : List ℕ} {t p a : ℕ} where
  pub merging_start : {e : ℕ} → e ≡ a → length v ≡ 16384 → Merging v t p a e v
  merging_start z h =
      record { from = omega arith; room = h; done = λ k l m n. absurd (omega arith); left = λ k l m. refl; others = λ x k hx hk d. refl }

  -- row p is as it was, where it is another, and where it is not, in the columns that are left
  merging_from : {u : List ℕ} {e : ℕ} (k : ℕ) → p < 128 → k < 128 → e ≤ k → Merging v t p a e u → slot u p k ≡ slot v p k
  merging_from {u} {e} k hp hk l g =
      ifso (eqb p t) (λ b. let q : p ≡ t = eqb-true p t b in rw q (g.left k (λ x y. omega arith) hk)) (λ b. g.others p k hp hk (eqb-false p t b))

  -- what both rows have in a column that is left, merged
  merging_value : {u : List ℕ} {e : ℕ} (k : ℕ) → p < 128 → k < 128 → e ≤ k → Merging v t p a e u → greater (slot u t k) (slot u p k) ≡ merged_row v t p k
  unfolding merged_row
  merging_value k hp hk l g = rw (g.left k (λ x y. omega arith) hk, merging_from k hp hk l g)

  -- one column more; i and k are its places in both rows
  pub merging_step : {u : List ℕ} {y e e' : ℕ} (i k : ℕ) → i ≡ 128 * t + e → k ≡ 128 * p + e → e' ≡ e + 1 → t < 128 → p < 128 → e < 128 → Merging v t p a e u
      → y ≡ greater (get_or u i 0) (get_or u k 0) → Merging v t p a e' (set u i y)
  unfolding slot
  merging_step {u} {y} {e} {e'} i k at from next ht hp he g q =
      let value : y ≡ merged_row v t p e =
      q ∙ ap (λ (n : ℕ). greater (get_or u n 0) (get_or u k 0)) at ∙ ap (λ (n : ℕ). greater (get_or u (128 * t + e) 0) (get_or u n 0)) from
      ∙ merging_value e hp he (omega arith) g in
      record {
        from = omega (arith, g.from);
        room = length-set u i y ∙ g.room;
        done =
            λ k l m n.
            ⊎_elim (λ b. cell_other u t e y i at t k he n (λ _ z. omega arith) ∙ g.done k l b n)
            (λ b.
            let z : k ≡ e = omega arith in
            rw z (cell_same u t e y i at g.room ht he ∙ value))
            (split k e);
        left =
            λ k l n.
            cell_other u t e y i at t k he n (λ _ z. l (omega (arith, g.from)) (omega arith)) ∙ g.left k (λ x b. l x (omega arith)) n;
        others = λ x k hx hk d. cell_other u t e y i at x k he hk (λ z _. d z) ∙ g.others x k hx hk d;
      }

module _ {v : List ℕ} {t p : ℕ} where
  -- sixteen columns are a block
  pub merging_block : {u : List ℕ} (j s : ℕ) → 16 ≤ s → s ≤ 16 → Merging v t p (16 * j) (16 * j + s) u → Changed v t (merged_block v t p j) u
  unfolding merged_block
  merging_block {u} j s l m g =
      record {
        room = g.room;
        row =
            λ k h.
            ifso (eqb (k / 16) j)
            (λ b. let q : k / 16 ≡ j = eqb-true (k / 16) j b in rw (pick_on _ (merged_row v t p k) (slot v t k) b) (g.done k (omega arith) (omega arith) h))
            (λ b.
            let d = eqb-false (k / 16) j b in
            rw (pick_off _ (merged_row v t p k) (slot v t k) b) (g.left k (λ x y. d (omega arith)) h));
        others = g.others;
      }

  -- one block more
  pub merging_more : {u w : List ℕ} (j : ℕ) → p < 128 → Merging v t p 0 (16 * j) u → Changed u t (merged_block u t p j) w → Merging v t p 0 (16 * (j + 1)) w
  unfolding merged_block merged_row
  merging_more {u} {w} j hp g h =
      record {
        from = omega arith;
        room = h.room;
        done =
            λ k l m n.
            h.row k n
            ∙ ifso (eqb (k / 16) j)
            (λ b.
            let q : k / 16 ≡ j = eqb-true (k / 16) j b in
            pick_on _ (greater (slot u t k) (slot u p k)) (slot u t k) b ∙ merging_value k hp n (omega arith) g)
            (λ b.
            let d = eqb-false (k / 16) j b in
            pick_off _ (greater (slot u t k) (slot u p k)) (slot u t k) b
            ∙ g.done k l (⊎_elim (λ x. x) (λ x. let q : k / 16 ≡ j = omega arith in absurd (d q)) (split k (16 * j))) n);
        left =
            λ k l n.
            h.row k n
            ∙ ifso (eqb (k / 16) j) (λ b. let q : k / 16 ≡ j = eqb-true (k / 16) j b in absurd (l (omega arith) (omega arith)))
            (λ b. pick_off _ (greater (slot u t k) (slot u p k)) (slot u t k) b ∙ g.left k (λ x y. l x (omega arith)) n);
        others = λ x k hx hk d. h.others x k hx hk d ∙ g.others x k hx hk d;
      }

  -- beyond the last column that has an entry there is nothing to merge
  pub merging_end : {u : List ℕ} {width e : ℕ} → width ≤ e → NarrowRow v p width → Merging v t p 0 e u → Changed v t (merged_row v t p) u
  unfolding merged_row
  merging_end {u} {width} {e} l z g =
      record {
        room = g.room;
        row =
            λ k h.
            ⊎_elim (λ m. g.done k (omega arith) m h)
            (λ m.
            g.left k (λ x y. omega arith) h
            ∙ sym (ap (greater (slot v t k)) (z.is k (omega arith) h) ∙ greater_left (slot v t k) 0 (omega arith)))
            (split k e);
        others = g.others;
      }
