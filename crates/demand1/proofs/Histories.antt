-- Which transaction is open, in either edition.
use Prim.Native.Nat.{ℕ, ◌<◌, ◌≤◌}
use mathlib.Core.Path.{◌≡◌, refl}
use mathlib.Core.Bool.{Bool, true}
use mathlib.Core.Logic.{◌⊎◌, inl, inr, ⊎_elim, ◌↔◌}
use native.Mathlib.Omega.{arith}
use native.Mathlib.Decide.{ℕ_discrete}
use lib.Dec.{eqb}
use borrow.Author.Tests.{eqb-true, eq-eqb, ne_eqb}
use Rattle.base.specs.Base.{last}
use Rattle.base.proofs.Tests.{clash, both, and_left, and_right, pick_on, pick_off, split}
use Rattle.base.proofs.Chains.{last_passes, last_none}
use Rattle.rules.specs.History.{History, tx, tx_count, size, is_open, current, is_open_of, open_of, any_open}
use Rattle.demand1.specs.Lawful.{IsTx}
use Rattle.demand1.specs.Rows.{Inside, OpenOf}

-- ── edition 1 ──

module _ (h : History) where
  -- inside a transaction the open one is the latest
  pub inside-current : Inside h → current h ≡ tx_count h
  unfolding current is_open
  inside-current i = pick_on (eqb (tx h (tx_count h)).status 3) (tx_count h) 0 (eq-eqb (tx h (tx_count h)).status 3 i.1)

  -- transaction 0 is never open
  latest_open : (tx h (tx_count h)).status ≡ 3 → 1 ≤ tx_count h
  unfolding tx
  latest_open e = ⊎_elim (λ l. l) (λ g. let z : tx_count h ≡ 0 = omega arith in absurd (omega (arith, rw z at e))) (split 0 (tx_count h))

  -- outside one none is open
  pub outside_current : (Inside h → ⊥) → current h ≡ 0
  unfolding current is_open
  outside_current d =
      pick_off (eqb (tx h (tx_count h)).status 3) (tx_count h) 0 (ne_eqb (tx h (tx_count h)).status 3 (λ e. d (latest_open e, e)))

  -- a trace is inside a transaction or outside
  pub inside_or_not : Inside h ⊎ (Inside h → ⊥)
  inside_or_not = go (ℕ_discrete (tx h (tx_count h)).status 3)
    where
      go : Dec ((tx h (tx_count h)).status ≡ 3) → Inside h ⊎ (Inside h → ⊥)
      go (yes e) = inl (latest_open e, e)
      go (no d) = inr (λ i. d i.1)

  pub current-inside : 1 ≤ current h → Inside h
  current-inside l = ⊎_elim (λ i. i) (λ d. absurd (omega (arith, outside_current d))) inside_or_not

  pub current_outside : current h ≡ 0 → Inside h → ⊥
  current_outside z i = omega (arith, inside-current i, i.0)

-- ── edition 2 ──

-- a search among all transactions finds one exactly if one passes
found : (p : ℕ → Bool) (h : History) → 0 < last p (size h) → (p (last p (size h)) ≡ true) × IsTx h (last p (size h))
found p h l = let f = last_passes p (size h) l in (f.0, record { from = l; to = omega (arith, f.1) })

known : (p : ℕ → Bool) (h : History) (t : ℕ) → IsTx h t → p t ≡ true → 0 < last p (size h)
known p h t i q =
    ⊎_elim (λ l. l) (λ g. absurd (clash q (last_none p (size h) t (omega (arith, i.from)) (omega (arith, i.to))))) (split 0 (last p (size h)))

module _ (h : History) where
  is_open_lem : (t : ℕ) → (is_open h t ≡ true) ↔ ((tx h t).status ≡ 3)
  unfolding is_open
  is_open_lem t = (eqb-true (tx h t).status 3, eq-eqb (tx h t).status 3)

  -- the open transaction of a session is found where there is one
  pub open_found : (n : ℕ) → 0 < open_of h n → OpenOf h n (open_of h n)
  unfolding open_of is_open_of
  open_found n l =
      let f = found (is_open_of h n) h l in
      record { is_tx = f.1; of_session = eqb-true (tx h (open_of h n)).session n (and_right _ _ f.0); is_open = (is_open_lem (open_of h n)).0 (and_left _ _ f.0) }

  pub open_known : {n t : ℕ} → OpenOf h n t → 0 < open_of h n
  unfolding open_of is_open_of
  open_known {n} {t} o = known (is_open_of h n) h t o.is_tx (both _ _ ((is_open_lem t).1 o.is_open) (eq-eqb (tx h t).session n o.of_session))

  -- any open one likewise
  pub any_found : 0 < any_open h → OpenOf h (tx h (any_open h)).session (any_open h)
  unfolding any_open
  any_found l = let f = found (is_open h) h l in record { is_tx = f.1; of_session = refl; is_open = (is_open_lem (any_open h)).0 f.0 }

  pub any_known : {n t : ℕ} → OpenOf h n t → 0 < any_open h
  unfolding any_open
  any_known {t = t} o = known (is_open h) h t o.is_tx ((is_open_lem t).1 o.is_open)
