-- Write dependencies by any clean list: it begins the longest one of its key, so its neighbours are neighbours there.
use Prim.Native.Nat.{ℕ, ◌+◌, ◌-◌, ◌<◌, ◌≤◌}
use mathlib.Core.Path.{◌≡◌, refl, ap}
use mathlib.Core.Bool.{Bool, true, not}
use mathlib.Core.List.{List}
use mathlib.Core.Logic.{⊎_elim}
use native.Mathlib.Omega.{arith}
use lib.ListN.{length}
use lib.Dec.{eqb}
use borrow.Author.Tests.{eqb-true, eq-eqb}
use Rattle.base.specs.Base.{◌and◌, some}
use Rattle.base.proofs.Tests.{same_test, both, and_left, and_right, split}
use Rattle.base.proofs.Searches.{some_at, some_of_lem}
use Rattle.rules.specs.History.{History, op_count}
use Rattle.appends_rules.specs.Appends.{key_of, appender_of}
use Rattle.appends_rules.specs.ListKinds.{element, is_of, is_clean_list, longest_of, is_longest}
use Rattle.appends_rules.specs.Dependencies.{joins, orders, is_write_dep}
use Rattle.appends_rules.proofs.Lines.{begins_short, begins_agree}
use Rattle.appends_rules.proofs.Longest.{longest_below_lem, at_list, at_zero}

-- list read i is clean and has such neighbours
unfoldable pub next_to : History → (ℕ → List ℕ) → ℕ → ℕ → ℕ → Bool
next_to h l a b i = is_clean_list h l i and some 0 (length (l i) - 1) (joins h (key_of h i) (l i) a b)

module _ (h : History) (l : ℕ → List ℕ) (a b : ℕ) where
  -- of a clean list: the longest of its key orders what it does
  longest_orders : (i : ℕ) → 1 ≤ i → i < op_count h + 1 → next_to h l a b i ≡ true → some 1 (op_count h + 1) (orders h l a b) ≡ true
  unfolding next_to orders is_longest longest_of is_of joins
  longest_orders i f t s =
      let q = some_at (joins h (key_of h i) (l i) a b) (length (l i) - 1) 0 (and_right _ _ s) in
      let k = q.at in
      let m = longest_of h l (key_of h i) in
      let r = longest_below_lem h l (key_of h i) (op_count h + 1) in
      let g = r.starts i f t (both _ _ (and_left _ _ s) (eq-eqb (key_of h i) (key_of h i) refl)) in
      let z : 0 < m = ⊎_elim (λ z. z) (λ z. absurd (omega (arith, q.to, begins_short _ _ g, ap length (at_zero h l m (omega arith))))) (split 0 m) in
      let y = rw (at_list h l m z) at g in
      let c = r.clean z in
      let e = eqb-true (key_of h m) (key_of h i) (and_right _ _ c.0) in
      let n = begins_short _ _ y in
      let one : appender_of h (key_of h m) (element (l m) k) ≡ a =
      rw (e, ← begins_agree (l i) (l m) y k (omega (arith, q.to))) (eqb-true _ _ (and_left _ _ q.passes)) in
      let two : appender_of h (key_of h m) (element (l m) (k + 1)) ≡ b =
      rw (e, ← begins_agree (l i) (l m) y (k + 1) (omega (arith, q.to))) (eqb-true _ _ (and_right _ _ q.passes)) in
      some_of_lem (orders h l a b) (op_count h + 1) 1 m z c.1
      (both _ _ (both _ _ (and_left _ _ c.0) (eq-eqb _ _ (ap (longest_of h l) e)))
      (some_of_lem (joins h (key_of h m) (l m) a b) (length (l m) - 1) 0 k (omega arith) (omega (arith, q.to, n)) (both _ _ (eq-eqb _ _ one) (eq-eqb _ _ two))))

  pub write_dep_any : is_write_dep h l a b ≡ not (eqb a b) and some 1 (op_count h + 1) (next_to h l a b)
  unfolding is_write_dep orders is_longest next_to
  write_dep_any =
      ap (λ (p : Bool). not (eqb a b) and p)
      (same_test _ _
      (λ s.
      let q = some_at (orders h l a b) (op_count h + 1) 1 s in
      some_of_lem (next_to h l a b) (op_count h + 1) 1 q.at q.from q.to (both _ _ (and_left _ _ (and_left _ _ q.passes)) (and_right _ _ q.passes)))
      (λ s. let q = some_at (next_to h l a b) (op_count h + 1) 1 s in longest_orders q.at q.from q.to q.passes))
