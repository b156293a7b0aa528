-- Dependencies are of transactions, so that their tables can be closed.
use Prim.Native.Nat.{ℕ, ◌+◌, ◌-◌, ◌<◌, ◌≤◌}
use mathlib.Core.Path.{◌≡◌, refl, ap, ◌∙◌}
use mathlib.Core.Bool.{true, false}
use mathlib.Core.List.{List}
use mathlib.Core.Logic.{⊎_elim}
use native.Mathlib.Omega.{arith}
use lib.ListN.{length}
use borrow.Author.Tests.{eqb-true}
use Rattle.base.specs.Base.{pick}
use Rattle.base.proofs.Tests.{and_left, and_right, or_cases, split}
use Rattle.base.proofs.Searches.{some_at}
use Rattle.rules.specs.History.{History, op, op_count, tx_count, size}
use Rattle.rules.proofs.History.{op_0}
use Rattle.rules.proofs.Origin.{write_less}
use Rattle.table.specs.Table.{history_of, Held}
use Rattle.bits.specs.Bits.{bit_of, Holds, Under, either}
use Rattle.bits.proofs.Tables.{holds_same}
use Rattle.pairs.specs.Pairs.{before}
use Rattle.pairs.proofs.Pairs.{before-under}
use Rattle.appends_rules.specs.Appends.{key_of, append_of, appender_of}
use Rattle.appends_rules.specs.ListKinds.{element, last_element}
use Rattle.appends_rules.specs.Dependencies.{joins, orders, is_write_dep, tells, is_read_dep, is_dep}
use Rattle.ties.specs.Ties.{deps_of}

-- ── what the tables hold ──

module _ (h : History) (l : ℕ → List ℕ) where
  pub write_ties : {t : List ℕ} → Holds t (before (deps_of false h l)) → Holds t (before (is_write_dep h l))
  unfolding deps_of pick before
  write_ties k = holds_same k (λ x y hx hy. refl)

  pub read_ties : {t : List ℕ} → Holds t (before (deps_of true h l)) → Holds t (before (is_read_dep h l))
  unfolding deps_of pick before
  read_ties k = holds_same k (λ x y hx hy. refl)

  -- both sorts in one
  pub both_ties : {w r u : List ℕ} → Holds w (before (is_write_dep h l)) → Holds r (before (deps_of true h l)) → Holds u (either (bit_of r) (bit_of w))
      → Holds u (before (is_dep h l))
  unfolding either before is_dep
  both_ties p q z = holds_same z (λ x y hx hy. rw (p.is x y hx hy, (read_ties q).is x y hx hy))

-- ── of numbers below the number of transactions ──

module _ {h : List ℕ} (p : Held h) (l : ℕ → List ℕ) where
  abbrev H : History
  H = history_of h

  tx_below : (i : ℕ) → 1 ≤ i → i < op_count H + 1 → (op H i).tx < size H
  tx_below i a b = omega (arith, (p.txs_in i a (omega arith)).1)

  appender_below : (x v : ℕ) → appender_of H x v < size H
  unfolding appender_of append_of
  appender_below x v =
      ⊎_elim (λ z. tx_below (append_of H x v) (omega arith) (write_less H _ v))
      (λ z. let e : append_of H x v ≡ 0 = omega arith in omega (arith, ap (λ (w : ℕ). (op H w).tx) e ∙ op_0 H)) (split 0 (append_of H x v))

  write_below : (a b : ℕ) → is_write_dep H l a b ≡ true → (a < size H) × (b < size H)
  unfolding is_write_dep orders joins
  write_below a b e =
      let q = some_at (orders H l a b) (op_count H + 1) 1 (and_right _ _ e) in
      let i = q.at in
      let r = some_at (joins H (key_of H i) (l i) a b) (length (l i) - 1) 0 (and_right _ _ q.passes) in
      let one : appender_of H (key_of H i) (element (l i) r.at) ≡ a = eqb-true _ _ (and_left _ _ r.passes) in
      let two : appender_of H (key_of H i) (element (l i) (r.at + 1)) ≡ b = eqb-true _ _ (and_right _ _ r.passes) in
      (omega (arith, one, appender_below (key_of H i) (element (l i) r.at)), omega (arith, two, appender_below (key_of H i) (element (l i) (r.at + 1))))

  read_below : (a b : ℕ) → is_read_dep H l a b ≡ true → (a < size H) × (b < size H)
  unfolding is_read_dep tells
  read_below a b e =
      let q = some_at (tells H l a b) (op_count H + 1) 1 (and_right _ _ e) in
      let i = q.at in
      let u = and_left _ _ q.passes in
      let one : appender_of H (key_of H i) (last_element (l i)) ≡ a = eqb-true _ _ (and_right _ _ u) in
      let two : (op H i).tx ≡ b = eqb-true _ _ (and_right _ _ q.passes) in
      (omega (arith, one, appender_below (key_of H i) (last_element (l i))), omega (arith, two, tx_below i q.from q.to))

  dep_below : (a b : ℕ) → is_dep H l a b ≡ true → (a < size H) × (b < size H)
  unfolding is_dep
  dep_below a b e = ⊎_elim (read_below a b) (write_below a b) (or_cases _ _ e)

  few : size H ≤ 128
  few = omega (arith, p.few)

  -- .. n being the number that the table says
  module _ {n : ℕ} (e : n ≡ tx_count H) where
    pub writes_under : {t : List ℕ} → Holds t (before (is_write_dep H l)) → Under (n + 1) t
    writes_under k = rw e (before-under (is_write_dep H l) (size H) few k write_below)

    pub both_under : {t : List ℕ} → Holds t (before (is_dep H l)) → Under (n + 1) t
    both_under k = rw e (before-under (is_dep H l) (size H) few k dep_below)
