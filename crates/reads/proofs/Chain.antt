-- What a transaction wrote is found among its own operations, from the last one backwards.
use Prim.Native.Nat.{ℕ, ◌+◌, ◌<◌, ◌≤◌}
use mathlib.Core.Path.{◌≡◌, refl, ap, sym, ◌∙◌}
use mathlib.Core.Bool.{Bool, true, false}
use mathlib.Core.Logic.{⊎_elim}
use native.Mathlib.Omega.{arith}
use lib.Dec.{eqb}
use borrow.Author.Tests.{eq-eqb}
use Rattle.base.specs.Base.{◌and◌}
use Rattle.base.proofs.Tests.{and_left, and_right, and-true, split}
use Rattle.base.proofs.Searches.{some_end}
use Rattle.base.proofs.Chains.{top_hit, top_miss, top_chain}
use Rattle.rules.specs.History.{History, op, op_count}
use Rattle.rules.specs.Reads.{writes_at, wrote_between}
use Rattle.table.specs.Table.{of_tx, last_below, last_of, prev_of}
use Rattle.table.proofs.Chain.{last-own}
use Rattle.reads.specs.Verdicts.{writes_key_at, wrote_up_to}

-- t writes by its own operations only
writes_own : (h : History) (t x i : ℕ) → writes_at h t x i ≡ true → of_tx h t i ≡ true
unfolding writes_at of_tx
writes_own h t x i e = and_right (op h i).is_write (eqb (op h i).tx t) (and_left ((op h i).is_write and eqb (op h i).tx t) (eqb (op h i).key x) e)

own_key : (h : History) (x i : ℕ) → writes_at h (op h i).tx x i ≡ writes_key_at h x i
unfolding writes_at writes_key_at
own_key h x i = ap (λ (b : Bool). b and eqb (op h i).key x) (and-true (op h i).is_write _ (eq-eqb (op h i).tx (op h i).tx refl))

-- what t writes below e it writes up to its last operation below e, number j
module _ (h : History) (t x a e j : ℕ) (q : j ≡ last_below h t e) where
  to_last : wrote_between h t x a e ≡ wrote_between h t x a (j + 1)
  unfolding wrote_between last_below
  to_last = rw q (top_chain (writes_at h t x) (a + 1) (of_tx h t) (λ i l s. writes_own h t x i s) e (omega arith))

  pub wrote_below : wrote_between h t x a e ≡ wrote_up_to h x a j
  unfolding wrote_up_to wrote_between
  wrote_below =
      to_last
      ∙ ⊎_elim (λ z. rw (last-own h t e q z) refl) (λ z. some_end (writes_at h t x) (a + 1) (j + 1) (omega arith) ∙ sym (some_end (writes_at h (op h j).tx x) (a + 1) (j + 1) (omega arith)))
      (split 0 j)

module _ (h : History) (x a : ℕ) where
  -- before operation i; at all
  pub wrote-before : (i j : ℕ) → j ≡ prev_of h i → wrote_between h (op h i).tx x a i ≡ wrote_up_to h x a j
  unfolding prev_of
  wrote-before i j q = wrote_below h (op h i).tx x a i j q

  pub wrote_after : (t j : ℕ) → j ≡ last_of h t → wrote_between h t x a (op_count h + 1) ≡ wrote_up_to h x a j
  unfolding last_of
  wrote_after t j q = wrote_below h t x a (op_count h + 1) j q

  -- one step: operation i writes x; it does not; no operation is left
  pub up_to_hit : (i : ℕ) → a < i → writes_key_at h x i ≡ true → wrote_up_to h x a i ≡ true
  unfolding wrote_up_to wrote_between
  up_to_hit i l e = top_hit (writes_at h (op h i).tx x) (a + 1) i (omega arith) (own_key h x i ∙ e)

  pub up_to_miss : (i j : ℕ) → writes_key_at h x i ≡ false → j ≡ prev_of h i → wrote_up_to h x a i ≡ wrote_up_to h x a j
  unfolding wrote_up_to wrote_between
  up_to_miss i j e q = top_miss (writes_at h (op h i).tx x) (a + 1) i (own_key h x i ∙ e) ∙ wrote-before i j q

  pub up_to_end : (i : ℕ) → i ≤ a → wrote_up_to h x a i ≡ false
  unfolding wrote_up_to wrote_between
  up_to_end i l = some_end (writes_at h (op h i).tx x) (a + 1) (i + 1) (omega arith)
