-- What is reached: the test `reach` is right, and as many rounds as there are numbers are enough.
use Prim.Native.Nat.{ℕ, zero, suc, ◌≤◌, ◌<◌}
use mathlib.Core.Path.{◌≡◌, refl}
use mathlib.Core.Bool.{Bool, true, false, not}
use mathlib.Core.Logic.{◌⊎◌, inl, inr, ⊎_elim, ◌↔◌}
use native.Mathlib.Omega.{arith}
use Rattle.base.specs.Base.{◌and◌, some, count}
use Rattle.base.proofs.Tests.{known, is_true, clash, not-true, both, and_left, and_right, or_cases, or_left, or_right}
use Rattle.base.proofs.Searches.{some_at, some_of_lem, none-at, count_most, count_more}
use Rattle.theory.specs.Reached.{Reached, from, on, reach}

-- whatever has the numbers of s and keeps to f has all that is reached
pub reached_within : {s : ℕ → Bool} {f : ℕ → ℕ → Bool} (P : ℕ → Type 0) → ((a : ℕ) → s a ≡ true → P a)
    → ((a b : ℕ) → P a → f a b ≡ true → P b) → {b : ℕ} → Reached s f b → P b
reached_within P has keeps (from e) = has _ e
reached_within P has keeps (on r e) = keeps _ _ (reached_within P has keeps r) e

module _ (s : ℕ → Bool) (f : ℕ → ℕ → Bool) (n : ℕ) where
  -- ── a round ──

  -- what k + 1 rounds reach was there, or comes from what k rounds reach
  pub data Round (k b : ℕ) : Type 0 where
    there : s b ≡ true → Round k b
    comes : (a : ℕ) → a < n → f a b ≡ true → reach s f n k a ≡ true → Round k b

  round_of : (k b : ℕ) → reach s f n (suc k) b ≡ true → Round k b
  unfolding reach
  round_of k b e =
      ⊎_elim (λ t. there t)
      (λ t. let r = some_at _ n 0 t in comes r.at r.to (and_left _ _ r.passes) (and_right _ _ r.passes))
      (or_cases _ _ e)

  of_round : (k b : ℕ) → Round k b → reach s f n (suc k) b ≡ true
  unfolding reach
  of_round k b (there t) = or_left _ _ t
  of_round k b (comes a l g r) = or_right _ _ (some_of_lem _ n 0 a (omega arith) l (both _ _ g r))

  first_round : (k b : ℕ) → s b ≡ true → reach s f n k b ≡ true
  unfolding reach
  first_round zero b t = t
  first_round (suc k) b t = or_left _ _ t

  at_start : (b : ℕ) → reach s f n zero b ≡ true → s b ≡ true
  unfolding reach
  at_start b t = t

  -- what is reached from less is reached from more
  widened : (k l b : ℕ) → ((a : ℕ) → reach s f n k a ≡ true → reach s f n l a ≡ true) → Round k b → Round l b
  widened k l b h (there t) = there t
  widened k l b h (comes a m g r) = comes a m g (h a r)

  -- a round loses nothing
  more : (k b : ℕ) → reach s f n k b ≡ true → reach s f n (suc k) b ≡ true
  more zero b e = of_round 0 b (there (at_start b e))
  more (suc k) b e = of_round (suc k) b (widened k (suc k) b (λ a. more k a) (round_of k b e))

  -- what the rounds reach is reached
  reach_reached : (k b : ℕ) → reach s f n k b ≡ true → Reached s f b
  reach_reached zero b e = from (at_start b e)
  reach_reached (suc k) b e = go (λ a. reach_reached k a) (round_of k b e)
    where
      go : ((a : ℕ) → reach s f n k a ≡ true → Reached s f a) → Round k b → Reached s f b
      go ih (there t) = from t
      go ih (comes a l g r) = on (ih a r) g

  -- ── rounds that add nothing ──

  abbrev Still : ℕ → Type 0
  Still k = (b : ℕ) → reach s f n (suc k) b ≡ true → reach s f n k b ≡ true

  still_on : (k : ℕ) → Still k → Still (suc k)
  still_on k h b e = of_round k b (widened (suc k) k b h (round_of (suc k) b e))

  module _ (s-below : (a : ℕ) → s a ≡ true → a < n) (f-below : (a b : ℕ) → f a b ≡ true → b < n) where
    below : (k b : ℕ) → reach s f n (suc k) b ≡ true → b < n
    below k b e = go (round_of k b e)
      where
        go : Round k b → b < n
        go (there t) = s-below b t
        go (comes a l g r) = f-below a b g

    -- after k rounds nothing more is added, or k numbers have been reached
    grows : (k : ℕ) → Still k ⊎ (k ≤ count 0 n (reach s f n k))
    grows zero = inr (omega arith)
    grows (suc k) =
        ⊎_elim (λ h. inl (still_on k h))
        (λ l.
        ⊎_elim
        (λ (t : some 0 n (λ b. reach s f n (suc k) b and not (reach s f n k b)) ≡ true).
        let r = some_at _ n 0 t in
        inr
        (omega (
          arith,
          l,
          count_more (reach s f n k) (reach s f n (suc k)) r.at n 0 (omega arith) r.to (λ i u v. more k i)
              (not-true _ (and_right _ _ r.passes)) (and_left _ _ r.passes),
        )))
        (λ (t : some 0 n (λ b. reach s f n (suc k) b and not (reach s f n k b)) ≡ false).
        inl
        (still_on k
        (λ b e. is_true _ (λ z. clash (both _ _ e (rw z refl)) (none-at _ n 0 t b (omega arith) (below k b e))))))
        (known (some 0 n (λ b. reach s f n (suc k) b and not (reach s f n k b)))))
        (grows k)

    -- n rounds are enough
    enough : Still n
    enough =
        ⊎_elim (λ h. h)
        (λ l b e.
        is_true _
        (λ z.
        omega (
          arith,
          l,
          count_most (λ i. true) n 0,
          count_more (reach s f n n) (λ i. true) b n 0 (omega arith) (below n b e) (λ i u v t. refl) z refl,
        )))
        (grows n)

    -- ── the test is right ──

    pub reached_below : {b : ℕ} → Reached s f b → b < n
    reached_below r = reached_within (λ b. b < n) s-below (λ a b p. f-below a b) r

    reached_reach : {b : ℕ} → Reached s f b → reach s f n n b ≡ true
    reached_reach (from e) = first_round n _ e
    reached_reach (on r e) = enough _ (of_round n _ (comes _ (reached_below r) e (reached_reach r)))

    pub reach_iff : (b : ℕ) → (reach s f n n b ≡ true) ↔ Reached s f b
    reach_iff b = (reach_reached n b, reached_reach)
