-- The greatest number of which something holds.
use Prim.Native.Nat.{ℕ, ◌<◌, ◌≤◌}
use mathlib.Core.Path.{◌≡◌, ◌∙◌}
use mathlib.Core.Bool.{Bool, true}
use mathlib.Core.Logic.{◌⊎◌, inl, inr, ⊎_elim}
use native.Mathlib.Omega.{arith}
use lib.Dec.{ltb}
use borrow.Author.Tests.{ltb-true, ltb-false}
use Rattle.base.specs.Base.{last}
use Rattle.base.proofs.Tests.{known, clash, pick_on, pick_off, split}
use Rattle.base.proofs.Chains.{last_passes, last_none}
use Rattle.vectors_rules.specs.Latest.{Greatest, greater}

-- there is one at most
pub greatest_one : {P : ℕ → Type 0} {x y : ℕ} → Greatest P x → Greatest P y → x ≡ y
greatest_one {x = x} {y} g h =
    ⊎_elim (λ l. let z = g.most y (omega arith) (h.has (omega arith)) in absurd (omega arith))
    (λ k. ⊎_elim (λ l. let z = h.most x (omega arith) (g.has (omega arith)) in absurd (omega arith)) (λ e. omega arith) (split y x))
    (split x y)

-- only what holds besides 0 counts
pub greatest_same : {P Q : ℕ → Type 0} {x : ℕ} → ((a : ℕ) → 0 < a → P a → Q a) → ((a : ℕ) → 0 < a → Q a → P a) → Greatest P x → Greatest Q x
greatest_same f g h = record { has = λ l. f _ l (h.has l); most = λ a l q. h.most a l (g a l q) }

-- where there is none it is 0
pub greatest_none : {P : ℕ → Type 0} → ((a : ℕ) → 0 < a → P a → ⊥) → Greatest P 0
greatest_none n = record { has = λ l. absurd (omega arith); most = λ a l p. absurd (n a l p) }

-- the last that passes
pub greatest_last : (p : ℕ → Bool) (n : ℕ) → ((a : ℕ) → p a ≡ true → a < n) → Greatest (λ a. p a ≡ true) (last p n)
greatest_last p n h =
    record {
      has = λ l. (last_passes p n l).0;
      most = λ a l t. ⊎_elim (λ k. absurd (clash t (last_none p n a k (h a t)))) (λ g. g) (split (last p n) a);
    }

-- ── the greater of two ──

module _ (x y : ℕ) where
  pub greater_left : y ≤ x → greater x y ≡ x
  unfolding greater
  greater_left l = ⊎_elim (λ t. let z = ltb-true x y t in absurd (omega arith)) (λ t. pick_off _ y x t) (known (ltb x y))

  pub greater_right : x ≤ y → greater x y ≡ y
  unfolding greater
  greater_right l =
      ⊎_elim (λ t. pick_on _ y x t) (λ t. let z = ltb-false x y t in let e : x ≡ y = omega arith in pick_off _ y x t ∙ e) (known (ltb x y))

-- the greatest of those of which either holds
pub greatest_either : {P Q : ℕ → Type 0} {x y : ℕ} → Greatest P x → Greatest Q y → Greatest (λ a. P a ⊎ Q a) (greater x y)
greatest_either {P} {Q} {x} {y} g h =
    ⊎_elim
    (λ l.
    let e : greater x y ≡ y = greater_right x y (omega arith) in
    rw e
    (record {
      has = λ z. inr (h.has z);
      most = λ a z o. ⊎_elim (λ p. let u = g.most a z p in omega arith) (λ q. h.most a z q) o;
    }))
    (λ l.
    let e : greater x y ≡ x = greater_left x y l in
    rw e
    (record {
      has = λ z. inl (g.has z);
      most = λ a z o. ⊎_elim (λ p. g.most a z p) (λ q. let u = h.most a z q in omega arith) o;
    }))
    (split x y)
