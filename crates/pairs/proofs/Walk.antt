-- A search for one of a transaction's operations, from its last down.
use Prim.Native.Nat.{ℕ, ◌+◌, ◌<◌, ◌≤◌}
use mathlib.Core.Path.{◌≡◌, sym, ◌∙◌}
use mathlib.Core.Bool.{Bool, true, false}
use native.Mathlib.Omega.{arith}
use Rattle.base.specs.Base.{some, last}
use Rattle.base.proofs.Searches.{some_end}
use Rattle.base.proofs.Chains.{top_hit, top_miss, top_chain}
use Rattle.rules.specs.History.{History, op_count}
use Rattle.table.specs.Table.{of_tx, last_of, prev_of, Below}
use Rattle.table.proofs.Chain.{OnChain, chain_last, chain_prev, sought_last, sought_prev}

-- the search for a q among all operations is one up to i
pub record Walk (h : History) (t : ℕ) (q : ℕ → Bool) (i : ℕ) : Type 0 where
  pub on : OnChain h t i
  pub whole : some 1 (op_count h + 1) q ≡ some 1 (i + 1) q

module _ (h : History) (t : ℕ) (q : ℕ → Bool) (sub : (i : ℕ) → q i ≡ true → of_tx h t i ≡ true) where
  chain : (n : ℕ) → some 1 n q ≡ some 1 (last (of_tx h t) n + 1) q
  chain n = top_chain q 1 (of_tx h t) (λ i _. sub i) n (omega arith)

  pub walk_start : {r : ℕ} → Below r (last_of h t) (op_count h + 1) → Walk h t q r
  walk_start b = record { on = chain_last b; whole = sought_last h t (λ n. some 1 n q) chain b }

  -- past a miss; at a hit; at the end
  pub walk-next : {i r : ℕ} → Walk h t q i → 0 < i → q i ≡ false → Below r (prev_of h i) i → Walk h t q r
  walk-next {i} w l e b =
      record { on = chain_prev w.on l b; whole = w.whole ∙ top_miss q 1 i e ∙ sought_prev h t (λ n. some 1 n q) chain (w.on.of l) b }

  pub walk_hit : {i : ℕ} → Walk h t q i → 0 < i → q i ≡ true → true ≡ some 1 (op_count h + 1) q
  walk_hit {i} w l e = sym (w.whole ∙ top_hit q 1 i l e)

  pub walk_end : {i : ℕ} → Walk h t q i → i ≤ 0 → false ≡ some 1 (op_count h + 1) q
  walk_end {i} w l = sym (w.whole ∙ some_end q 1 (i + 1) (omega arith))
