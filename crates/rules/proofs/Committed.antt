-- Who counts as committed: the rule's step in parts; the smallest set is reached, 0 is in it, and no number past the last transaction's.
use Prim.Native.Nat.{ℕ, ◌+◌, ◌≤◌, ◌<◌}
use mathlib.Core.Path.{◌≡◌, ap}
use mathlib.Core.Bool.{true, false, not}
use mathlib.Core.Logic.{◌↔◌, ⊎_elim}
use mathlib.Core.List.{◌∷◌}
use native.Mathlib.Omega.{arith}
use lib.ListN.{get_or-eq_default}
use borrow.Author.Tests.{eqb-true, eqb-false, eq-eqb, ne_eqb}
use Rattle.base.proofs.Tests.{is_false, not-true, both, and_left, and_right, split}
use Rattle.base.proofs.Searches.{some_at, some_of_lem}
use Rattle.theory.specs.Reached.{Reached, from}
use Rattle.theory.proofs.Reached.{reach_iff, reached_below}
use Rattle.rules.specs.History.{History, Tx, tx, op, op_count, size, zeroth, no_tx, source_of, says_committed, is_unanswered, takes_from, vouches, committed}
use Rattle.rules.proofs.History.{status_0}

-- ── what is said, and the rule's step ──

-- operation i is a read in a, and its value's write is u's
pub record Takes (h : History) (a u i : ℕ) : Type 0 where
  pub is_read : (op h i).is_write ≡ false
  pub in_reader : (op h i).tx ≡ a
  pub of_writer : source_of h i ≡ u

-- u is unanswered, and a, which is another, takes a value from it
pub record Vouches (h : History) (a u : ℕ) : Type 0 where
  pub unanswered : (tx h u).status ≡ 2
  pub other : a ≡ u → ⊥
  pub by : ℕ
  pub from : 1 ≤ by
  pub to : by ≤ op_count h
  pub takes : Takes h a u by

module _ (h : History) where
  pub says_iff : (t : ℕ) → (says_committed h t ≡ true) ↔ ((tx h t).status ≡ 1)
  unfolding says_committed
  says_iff t = (eqb-true _ 1, eq-eqb _ 1)

  pub unanswered_iff : (t : ℕ) → (is_unanswered h t ≡ true) ↔ ((tx h t).status ≡ 2)
  unfolding is_unanswered
  unanswered_iff t = (eqb-true _ 2, eq-eqb _ 2)

  pub takes_iff : (a u i : ℕ) → (takes_from h a u i ≡ true) ↔ Takes h a u i
  unfolding takes_from
  takes_iff a u i = (
    λ e.
        let f = and_left _ _ e in
        record { is_read = not-true _ (and_left _ _ f); in_reader = eqb-true _ a (and_right _ _ f); of_writer = eqb-true _ u (and_right _ _ e) },
    λ t. both _ _ (both _ _ (ap not t.is_read) (eq-eqb _ a t.in_reader)) (eq-eqb _ u t.of_writer),
  )

  pub vouches_iff : (a u : ℕ) → (vouches h a u ≡ true) ↔ Vouches h a u
  unfolding vouches
  vouches_iff a u = (
    λ e.
        let f = and_left _ _ e in
        let r = some_at (takes_from h a u) (op_count h + 1) 1 (and_right _ _ e) in
        record {
          unanswered = (unanswered_iff u).0 (and_left _ _ f);
          other = eqb-false a u (not-true _ (and_right _ _ f));
          by = r.at;
          from = r.from;
          to = omega (arith, r.to);
          takes = (takes_iff a u r.at).0 r.passes;
        },
    λ v.
        both _ _ (both _ _ ((unanswered_iff u).1 v.unanswered) (ap not (ne_eqb a u v.other)))
        (some_of_lem (takes_from h a u) (op_count h + 1) 1 v.by v.from (omega (arith, v.to)) ((takes_iff a u v.by).1 v.takes)),
  )

  -- ── the set ──

  -- past the end there is none
  past : (t : ℕ) → size h ≤ t → tx h t ≡ no_tx
  unfolding tx
  past t l = get_or-eq_default (zeroth ∷ h.txs) no_tx {n = t} (omega arith)

  -- so a number whose status is not 0 is a transaction's
  has_status : (t n : ℕ) → 0 < n → (tx h t).status ≡ n → t < size h
  has_status t n p e = ⊎_elim (λ l. l) (λ g. absurd (omega (arith, ap (λ (x : Tx). x.status) (past t g)))) (split t (size h))

  says_below : (t : ℕ) → says_committed h t ≡ true → t < size h
  says_below t e = has_status t 1 (omega arith) ((says_iff t).0 e)

  vouched_below : (a u : ℕ) → vouches h a u ≡ true → u < size h
  vouched_below a u e = has_status u 2 (omega arith) ((vouches_iff a u).0 e).unanswered

  -- what is computed is the smallest set
  pub committed_iff : (t : ℕ) → (committed h t ≡ true) ↔ Reached (says_committed h) (vouches h) t
  unfolding committed
  committed_iff t = reach_iff (says_committed h) (vouches h) (size h) says_below vouched_below t

  -- "Transaction 0 is committed"
  pub committed_0 : committed h 0 ≡ true
  committed_0 = (committed_iff 0).1 (from ((says_iff 0).1 (status_0 h)))

  -- what counts is a transaction's number
  pub committed_below : (t : ℕ) → committed h t ≡ true → t < size h
  committed_below t e = reached_below (says_committed h) (vouches h) (size h) says_below vouched_below ((committed_iff t).0 e)

  pub committed_past : (t : ℕ) → size h ≤ t → committed h t ≡ false
  committed_past t l = is_false _ (λ e. omega (arith, committed_below t e))
