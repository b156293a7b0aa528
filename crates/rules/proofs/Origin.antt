-- Where a value comes from: laws of the write that is found for an operation's key and value, and of its transaction.
use Prim.Native.Nat.{ℕ, ◌+◌, ◌<◌}
use mathlib.Core.Path.{◌≡◌, ap, sym, ◌∙◌}
use native.Mathlib.Omega.{arith}
use native.Mathlib.Decide.{ℕ_discrete}
use borrow.Author.Tests.{eq-eqb, ne_eqb}
use Rattle.base.proofs.Tests.{pick_on, pick_off}
use Rattle.base.proofs.Chains.{last_less}
use Rattle.rules.specs.History.{History, op, op_count, writes_value, write_of, origin_of, source_of}
use Rattle.rules.proofs.History.{op_0}

-- the write that a search finds is an operation, or none
pub write_less : (h : History) (x v : ℕ) → write_of h x v < op_count h + 1
unfolding write_of
write_less h x v = last_less (writes_value h x v) (op_count h + 1) (omega arith)

module _ (h : History) (i : ℕ) where
  -- no write is looked for where the value is 0; elsewhere it is the last of the key and value
  pub origin_zero : (op h i).value ≡ 0 → origin_of h i ≡ 0
  unfolding origin_of
  origin_zero z = pick_on _ _ _ (eq-eqb _ _ z)

  pub origin_search : ((op h i).value ≡ 0 → ⊥) → origin_of h i ≡ write_of h (op h i).key (op h i).value
  unfolding origin_of
  origin_search d = pick_off _ _ _ (ne_eqb _ _ d)

  -- it is an operation's number, or 0
  pub origin_less : origin_of h i < op_count h + 1
  origin_less = by (ℕ_discrete (op h i).value 0)
    where
      by : Dec ((op h i).value ≡ 0) → origin_of h i < op_count h + 1
      by (yes e) = rw (origin_zero e) (omega arith)
      by (no d) = rw (origin_search d) (write_less h (op h i).key (op h i).value)

  -- the transaction is that of the write w; 0 where there is none
  pub source_is : (w : ℕ) → w ≡ origin_of h i → (op h w).tx ≡ source_of h i
  unfolding source_of
  source_is w e = ap (λ (w : ℕ). (op h w).tx) e

  pub source_none : origin_of h i ≡ 0 → source_of h i ≡ 0
  source_none e = sym (source_is 0 (sym e)) ∙ op_0 h
