-- The first operation of a key: of all that are the first of their key, it is the only one that has this key.
use Prim.Native.Nat.{ℕ, ◌<◌, ◌≤◌}
use mathlib.Core.Path.{◌≡◌, ap, sym, ◌∙◌}
use mathlib.Core.Bool.{Bool, true, false}
use mathlib.Core.Logic.{⊎_elim}
use native.Mathlib.Omega.{arith}
use borrow.Author.Tests.{eqb-true, eqb-false, eq-eqb, ne_eqb}
use Rattle.base.specs.Base.{◌and◌, first, last}
use Rattle.base.proofs.Tests.{clash, is_false, both, and_left, and_right, and_no_right}
use Rattle.base.proofs.Searches.{Found, first_cases}
use Rattle.base.proofs.Chains.{last-is}
use Rattle.rules.specs.History.{History, op, plain_key}
use Rattle.mixing.specs.Mixing.{mixes_at, has_key, first_like, is_first_of_key}
use Rattle.mixing.proofs.Sorts.{none_decides}

-- operation j is the first of the key x
unfoldable pub opens : History → ℕ → ℕ → Bool
opens h x j = is_first_of_key h j and has_key h x j

first-none : (p : ℕ → Bool) (e : ℕ) → ((i : ℕ) → 1 ≤ i → i < e → p i ≡ false) → first 0 1 e p ≡ 0
first-none p e none =
    ⊎_elim (λ z. z.0) (λ r. absurd (clash r.passes (none (first 0 1 e p) r.from r.to))) (first_cases 0 p e 1)

module _ (h : History) where
  -- where j has the key x, the first like it is the first of x
  like_of : (x j : ℕ) → has_key h x j ≡ true → first_like h j ≡ first 0 1 j (has_key h x)
  unfolding first_like has_key
  like_of x j t = ap (λ (y : ℕ). first 0 1 j (has_key h y)) (eqb-true _ x t)

  first-opens : (x i : ℕ) → Found 0 (has_key h x) 1 i (first 0 1 i (has_key h x)) → opens h x (first 0 1 i (has_key h x)) ≡ true
  unfolding opens is_first_of_key
  first-opens x i r =
      both _ _ (eq-eqb _ 0 (like_of x _ r.passes ∙ first-none (has_key h x) (first 0 1 i (has_key h x)) r.none)) r.passes

  later_not : (x m j : ℕ) → 1 ≤ m → m < j → has_key h x m ≡ true → opens h x j ≡ false
  unfolding opens is_first_of_key
  later_not x m j a b t =
      is_false _
      (λ s.
      let z = sym (like_of x j (and_right _ _ s)) ∙ eqb-true (first_like h j) 0 (and_left _ _ s) in
      ⊎_elim (λ n. clash t (n.1 m a b)) (λ r. omega (arith, z, r.from)) (first_cases 0 (has_key h x) j 1))

  -- so the last such below i is the first operation that has the key, if that is below i
  pub opens-is : (x i : ℕ) → last (opens h x) i ≡ first 0 1 i (has_key h x)
  unfolding opens
  opens-is x i =
      ⊎_elim (λ z. last-is (opens h x) i 0 (λ l. absurd (omega arith)) (λ j a b. and_no_right _ _ (z.1 j a b)) ∙ sym z.0)
      (λ r. last-is (opens h x) i (first 0 1 i (has_key h x)) (λ l. (first-opens x i r, r.to)) (λ j a b. later_not x (first 0 1 i (has_key h x)) j r.from a r.passes))
      (first_cases 0 (has_key h x) i 1)

  -- ── what the first like i says of i ──

  -- it has i's key
  pub like_key : (i : ℕ) → 0 < first_like h i → plain_key (op h (first_like h i)).key ≡ plain_key (op h i).key
  unfolding first_like has_key
  like_key i l =
      ⊎_elim (λ z. absurd (omega (arith, z.0))) (λ r. eqb-true _ _ r.passes) (first_cases 0 (has_key h (plain_key (op h i).key)) i 1)

  -- where there is none, i is the first of its key, and does not mix
  pub alone_first : (i : ℕ) → first_like h i ≡ 0 → is_first_of_key h i ≡ true
  unfolding is_first_of_key
  alone_first i e = eq-eqb _ 0 e

  pub not_first : (i : ℕ) → (first_like h i ≡ 0 → ⊥) → is_first_of_key h i ≡ false
  unfolding is_first_of_key
  not_first i d = ne_eqb _ 0 d

  pub alone_unmixed : (i : ℕ) → first_like h i ≡ 0 → mixes_at h i ≡ false
  unfolding first_like has_key
  alone_unmixed i e =
      none_decides h i
      (λ j a b t.
      ⊎_elim (λ z. eqb-false _ _ (z.1 j a b) t) (λ r. omega (arith, e, r.from)) (first_cases 0 (has_key h (plain_key (op h i).key)) i 1))
