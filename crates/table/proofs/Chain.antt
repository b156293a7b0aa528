-- Walks through one transaction's operations, from its last down.
use Prim.Native.Nat.{ℕ, ◌+◌, ◌<◌, ◌≤◌}
use mathlib.Core.Path.{◌≡◌, refl}
use mathlib.Core.List.{List}
use native.Mathlib.Omega.{arith}
use borrow.Author.Tests.{eqb-true}
use Rattle.base.specs.Base.{last}
use Rattle.base.proofs.Chains.{last_passes, last_less}
use Rattle.rules.specs.History.{History, op, op_count}
use Rattle.table.specs.Table.{history_of, of_tx, last_below, last_of, prev_of, Held, HasOp, Below}

-- ── where one stands ──

-- i is an operation of t, or 0, where there are no more
pub record OnChain (h : History) (t i : ℕ) : Type 0 where
  pub to : i ≤ op_count h
  pub of : 0 < i → (op h i).tx ≡ t

-- the last of t's operations below n, where there is one
pub last-own : (h : History) (t n : ℕ) {j : ℕ} → j ≡ last_below h t n → 0 < j → (op h j).tx ≡ t
unfolding last_below of_tx
last-own h t n {j} q z = eqb-true (op h j).tx t (rw (← q) at (last_passes (of_tx h t) n (omega (arith, q))).0)

last_on : (h : History) (t n : ℕ) {j : ℕ} → 1 ≤ n → n ≤ op_count h + 1 → j ≡ last_below h t n → OnChain h t j
unfolding last_below
last_on h t n a b q = record { to = omega (arith, q, last_less (of_tx h t) n a); of = last-own h t n q }

pub on_last : (h : History) (t : ℕ) → OnChain h t (last_of h t)
unfolding last_of
on_last h t = last_on h t (op_count h + 1) (omega arith) (omega arith) refl

module _ {h : History} {t r : ℕ} where
  pub chain_last : Below r (last_of h t) (op_count h + 1) → OnChain h t r
  chain_last b = rw b.is (on_last h t)

  pub chain_prev : {i : ℕ} → OnChain h t i → 0 < i → Below r (prev_of h i) i → OnChain h t r
  unfolding prev_of
  chain_prev {i} p l b = last_on h t i l (omega (arith, p.to)) (rw (p.of l) at b.is)

pub chain_has : {h : List ℕ} {t i : ℕ} → Held h → OnChain (history_of h) t i → 0 < i → HasOp h i
chain_has p o l = record { held = p; from = l; to = o.to }

-- ── a search along it ──

-- what a search s finds below n, it finds up to the last of t's operations below n: so from the last of all, and from one of them to the one before it
module _ {A : Type 0} (h : History) (t : ℕ) (s : ℕ → A) (chain : (n : ℕ) → s n ≡ s (last (of_tx h t) n + 1)) where
  pub sought_last : {r : ℕ} → Below r (last_of h t) (op_count h + 1) → s (op_count h + 1) ≡ s (r + 1)
  unfolding last_of last_below
  sought_last b = rw b.is (chain (op_count h + 1))

  pub sought_prev : {i r : ℕ} → (op h i).tx ≡ t → Below r (prev_of h i) i → s i ≡ s (r + 1)
  unfolding prev_of last_below
  sought_prev {i} e b = rw (b.is, e) (chain i)
