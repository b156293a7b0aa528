-- The smallest number that may come next, among the members that are not placed: one half of them after the other.
use Prim.Native.Nat.{ℕ, ◌+◌, ◌-◌, ◌*◌, ◌%◌, ◌^◌, ◌<◌, ◌≤◌}
use mathlib.Core.Path.{◌≡◌, refl, sym, ap, ◌∙◌}
use mathlib.Core.Bool.{Bool, true, false, not}
use mathlib.Core.List.{List}
use mathlib.Core.Logic.{⊎_elim}
use native.Mathlib.Omega.{arith}
use borrow.Author.Tests.{eqb-true}
use Rattle.base.specs.Base.{◌and◌, some, first}
use Rattle.base.proofs.Tests.{ifso, split, clash, is_true, both, and_left, and_no_left, and_no_right}
use Rattle.base.proofs.Searches.{first_cases, first-is}
use Rattle.bits.specs.Bits.{test_bit, lacks, Minus, Least}
use Rattle.bits.proofs.Smallest.{lost_bit}
use Rattle.order.specs.declared.Words.{Words}
use Rattle.order.specs.Sets.{words}
use Rattle.order.specs.Ordering.{waits, is_next, is_free}
use Rattle.order.proofs.Sets.{in_low, in_high}

-- ── one half ──

-- a search that has come to a, of those that `set` has still: all others are kept back, or were never there
pub record Came (f : List ℕ) (p : Words) (left base set a : ℕ) : Type 0 where
  pub least : Least (test_bit set) 0 64 a
  pub within : (k : ℕ) → test_bit set k ≡ true → test_bit left k ≡ true
  pub tried : (k : ℕ) → k < 64 → test_bit set k ≡ false → is_free f p left base (base + k) ≡ false

module _ (f : List ℕ) (p : Words) (left base : ℕ) where
  -- by its bit, and by its row
  free_at : (k : ℕ) → test_bit left k ≡ true → not (some 0 128 (waits f p (base + k))) ≡ true → is_free f p left base (base + k) ≡ true
  unfolding is_free
  free_at k t e = let z : base + k - base ≡ k = omega arith in both _ _ (ap (test_bit left) z ∙ t) e

  lacks_bit : (k : ℕ) → test_bit left k ≡ false → is_free f p left base (base + k) ≡ false
  unfolding is_free
  lacks_bit k t = let z : base + k - base ≡ k = omega arith in and_no_left _ _ (ap (test_bit left) z ∙ t)

  kept_back : (k : ℕ) → not (some 0 128 (waits f p (base + k))) ≡ false → is_free f p left base (base + k) ≡ false
  unfolding is_free
  kept_back k e = and_no_right _ _ e

  pub came_start : {a : ℕ} → Least (test_bit left) 0 64 a → Came f p left base left a
  came_start l = record { least = l; within = λ k t. t; tried = λ k _ t. lacks_bit k t }

  module _ {set a : ℕ} (c : Came f p left base set a) (s : a < 64) {u b : ℕ} (m : Minus set ((1 * 2 ^ a) % 2 ^ 64) u) (l : Least (test_bit u) 0 64 b) where
    -- a is taken out, and no other
    without_is : (k : ℕ) → test_bit u k ≡ true → test_bit set k ≡ true
    without_is k t = and_left _ _ (sym (lost_bit s m k) ∙ t)

    other_stays : (k : ℕ) → test_bit set k ≡ true → test_bit u k ≡ false → k ≡ a
    other_stays k t n = eqb-true k a (is_true _ (λ y. clash (both _ _ t (ap not y)) (sym (lost_bit s m k) ∙ n)))

    pub came_next : {r : Bool} → r ≡ not (some 0 128 (waits f p (base + a))) → r ≡ false → Came f p left base u b
    came_next e q =
        record {
          least = l;
          within = λ k t. c.within k (without_is k t);
          tried =
              λ k x n.
              ifso (test_bit set k) (λ t. let z : k ≡ a = other_stays k t n in rw z (kept_back a (sym e ∙ q))) (λ t. c.tried k x t);
        }

  module _ {set a : ℕ} (c : Came f p left base set a) where
    none_below : (i : ℕ) → base ≤ i → i < base + a → i < base + 64 → is_free f p left base i ≡ false
    none_below i x y z =
        let e : base + (i - base) ≡ i = omega arith in
        rw e at (c.tried (i - base) (omega arith) (c.least.none (i - base) (omega arith) (omega arith) (omega arith)))

    pub came_hit : {r : Bool} → a < 64 → r ≡ not (some 0 128 (waits f p (base + a))) → r ≡ true
        → Least (is_free f p left base) base (base + 64) (base + a) × (base + 64 ≤ base + a → base + a ≡ 128)
    came_hit s e q = (
      record {
        from = omega arith;
        hit = λ _. free_at a (c.within a (c.least.hit s)) (sym e ∙ q);
        none = λ i x y z. none_below i x y z;
      },
      λ g. absurd (omega arith),
    )

    pub came_end : base ≤ 64 → 64 ≤ a → Least (is_free f p left base) base (base + 64) 128 × (base + 64 ≤ 128 → ◌≡◌ {A = ℕ} 128 128)
    came_end few g = (
      record { from = omega arith; hit = λ l. absurd (omega arith); none = λ i x y z. none_below i x (omega arith) z },
      λ _. refl,
    )

-- ── both ──

module _ (f : List ℕ) {mlo plo lo : ℕ} (l : Minus mlo plo lo) (mhi phi : ℕ) where
  -- the members of the low half that are not placed
  low-is : (a : ℕ) → a < 64 → is_free f (words plo phi) lo 0 a ≡ is_next f (words mlo mhi) (words plo phi) a
  unfolding is_free is_next lacks
  low-is a s =
      let z : a - 0 ≡ a = omega arith in
      rw z (rw (in_low (words mlo mhi) a s, in_low (words plo phi) a s) (ap (λ (t : Bool). t and not (some 0 128 (waits f (words plo phi) a))) (l.is a)))

  module _ {n a : ℕ} (few : n ≤ 128) (x : Least (is_free f (words plo phi) lo 0) 0 64 a × (64 ≤ a → a ≡ 128)) where
    below_low : (i : ℕ) → i < a → i < 64 → is_next f (words mlo mhi) (words plo phi) i ≡ false
    below_low i m s = sym (low-is i s) ∙ x.0.none i (omega arith) m s

    pub first-low : a < n → a ≡ first n 0 n (is_next f (words mlo mhi) (words plo phi))
    first-low m =
        let s : a < 64 = ⊎_elim (λ y. y) (λ y. absurd (omega (arith, x.1 y))) (split a 64) in
        sym
        (first-is n (is_next f (words mlo mhi) (words plo phi)) n 0 a
        (record { from = omega arith; to = m; passes = sym (low-is a s) ∙ x.0.hit s; none = λ i _ y. below_low i y (omega arith) }))

    module _ (past : n ≤ a) {hi b : ℕ} (h : Minus mhi phi hi) (y : Least (is_free f (words plo phi) hi 64) 64 128 b × (128 ≤ b → b ≡ 128)) where
      -- .. and of the high one
      high_is : (a : ℕ) → 64 ≤ a → is_free f (words plo phi) hi 64 a ≡ is_next f (words mlo mhi) (words plo phi) a
      unfolding is_free is_next lacks
      high_is a g =
          rw (in_high (words mlo mhi) a g, in_high (words plo phi) a g) (ap (λ (t : Bool). t and not (some 0 128 (waits f (words plo phi) a))) (h.is (a - 64)))

      below_both : (i : ℕ) → i < n → i < b → is_next f (words mlo mhi) (words plo phi) i ≡ false
      below_both i m k =
          ⊎_elim (λ s. below_low i (omega arith) s) (λ g. sym (high_is i g) ∙ y.0.none i g k (omega arith)) (split i 64)

      pub first_high : b < n → b ≡ first n 0 n (is_next f (words mlo mhi) (words plo phi))
      first_high m =
          sym
          (first-is n (is_next f (words mlo mhi) (words plo phi)) n 0 b
          (record {
            from = omega arith;
            to = m;
            passes = sym (high_is b y.0.from) ∙ y.0.hit (omega arith);
            none = λ i _ k. below_both i (omega arith) k;
          }))

      pub first-none : n ≤ b → n ≡ first n 0 n (is_next f (words mlo mhi) (words plo phi))
      first-none g =
          ⊎_elim (λ z. sym z.0) (λ z. absurd (clash z.passes (below_both _ z.to (omega (arith, z.to)))))
          (first_cases n (is_next f (words mlo mhi) (words plo phi)) n 0)
