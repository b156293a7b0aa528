-- The listed pairs as the tables tell them, for any relation and any reasons.
use Prim.Native.Nat.{ℕ, ◌+◌, ◌*◌, ◌<◌, ◌≤◌}
use mathlib.Core.Path.{◌≡◌, refl, ap, sym, ◌∙◌}
use mathlib.Core.Bool.{Bool, true}
use mathlib.Core.List.{List}
use native.Mathlib.Omega.{arith}
use lib.Dec.{ltb}
use lib.ListN.{length}
use borrow.Author.Tests.{ltb-true, lt-ltb}
use Rattle.base.specs.Base.{◌and◌, listed, joined}
use Rattle.base.proofs.Tests.{both, and_left, and_right, and_swap, same_test}
use Rattle.base.proofs.Searches.{joined_length}
use Rattle.theory.specs.Leads.{via, is_listed}
use Rattle.theory.proofs.Leads.{via_within}
use Rattle.theory.proofs.Same.{via-same}
use Rattle.rules.specs.Outcome.{Pair}
use Rattle.bits.specs.Bits.{bit_of, Holds, Under}
use Rattle.bits.proofs.Tables.{holds_same}
use Rattle.pairs.specs.Pairs.{before}
use Rattle.pairs.proofs.Pairs.{before-via}
use Rattle.sifting.specs.Lists.{listed_in, firsts_of, pair_count, row_for, all_for}
use Rattle.sifting.proofs.Pairs.{by_second, all-long, all_fit, told-all}
use Rattle.sifting.proofs.Sifted.{listed-under}
use Rattle.appends_rules.specs.Dependencies.{pairs_by, pairs_over, pair_with}
use Rattle.listings.specs.Listings.{ListsOver}

-- ── sifted ──

-- what leads to what through pairs of numbers below n is of such numbers too
unfoldable inner : ℕ → ℕ → ℕ → Bool
inner n x y = ltb x n and ltb y n

unfoldable inside : List ℕ → ℕ → ℕ → ℕ → Bool
inside f n x y = bit_of f x y and inner n x y

pub closed-under : {f c : List ℕ} {n : ℕ} → Under n f → Holds c (via (bit_of f) n) → Under n c
unfolding inner inside
closed-under {f} {c} {n} u k =
    record {
      room = k.room;
      few = u.few;
      pairs =
          λ x y hx hy e.
          let t =
          via_within (inside f n) n (inner n) (λ a b p. and_right _ _ p) (λ a m b z p q. both _ _ (and_left _ _ p) (and_right _ _ q)) n x y (omega arith)
          (sym (same x y hx hy) ∙ sym (k.is x y hx hy) ∙ e) in
          (ltb-true x n (and_left _ _ t), ltb-true y n (and_right _ _ t));
    }
  where
    same : (x y : ℕ) → x < 128 → y < 128 → via (bit_of f) n x y ≡ via (inside f n) n x y
    same =
        via-same 128 (bit_of f) (inside f n)
        (λ a b la lb.
        same_test _ _ (λ p. let r = u.pairs a b la lb p in both _ _ p (both _ _ (lt-ltb a n r.0) (lt-ltb b n r.1))) (λ p. and_left _ _ p)) n u.few

-- c: what leads to what through f; l: of that, those whose opposite is a pair of f
pub lists_over : {f c l : List ℕ} {n : ℕ} → Under n f → Holds c (via (bit_of f) n) → Holds l (listed_in c f) → ListsOver f n l
unfolding listed_in before is_listed
lists_over {f} {c} {n = n} u k z =
    record {
      under = listed-under c f (closed-under u k) z;
      lists =
          λ F h.
          holds_same z
          (λ x y hx hy. rw ((before-via F n u.few h k).is x y hx hy, h.is y x hy hx) (and_swap (via F n y x) (F x y)));
    }

-- ── the list ──

pub pair-width : (r : ℕ → ℕ → ℕ) (l : List Pair) → length (joined (pair_with r) l) ≡ 4 * length l
unfolding pair_with
pair-width r l = joined_length (pair_with r) 4 (λ p. refl) l

module _ {n : ℕ} {c : List ℕ} (u : Under n c) where
  -- there is room
  pub listed_fit : (g : ℕ → ℕ → ℕ) (at : ℕ) {m : ℕ} → at + 4 * pair_count c n ≤ m → at + length (listed 0 n (row_for (bit_of c) g n)) ≤ m
  unfolding firsts_of
  listed_fit g at l = all_fit (bit_of c) g n at (by_second u) l

  module _ (F : ℕ → ℕ → Bool) (x : Holds c (is_listed n F)) where
    -- the bytes, where g tells the reasons r of the relation's pairs
    pub told_over : (g r : ℕ → ℕ → ℕ) → ((a b : ℕ) → a < n → b < n → F a b ≡ true → g a b ≡ r a b)
        → all_for (bit_of c) g n ≡ joined (pair_with r) (pairs_over n F)
    unfolding pairs_over pairs_by pair_with is_listed
    told_over g r same =
        told-all (pair_with r) (λ q. refl) (λ a b l m. x.is a b (omega (arith, u.few)) (omega (arith, u.few))) (λ a b l m e. same a b l m (and_left _ _ e))

    -- how many
    pub told-number : pair_count c n ≡ length (pairs_over n F)
    unfolding firsts_of
    told-number =
        omega (
          arith,
          by_second u,
          all-long (bit_of c) (λ a b. 0) n,
          ap length (told_over (λ a b. 0) (λ a b. 0) (λ a b l m e. refl)),
          pair-width (λ a b. 0) (pairs_over n F),
        )
