-- How columns are found: the prior transaction's, and the greatest from the top down.
use Prim.Native.Nat.{ℕ, ◌+◌, ◌-◌, ◌<◌, ◌≤◌}
use mathlib.Core.Path.{◌≡◌, sym, ap, ◌∙◌}
use mathlib.Core.Bool.{true, false}
use mathlib.Core.List.{List}
use mathlib.Core.Logic.{⊎_elim}
use native.Mathlib.Omega.{arith}
use lib.Dec.{eqb}
use lib.ListN.{get_or}
use Rattle.base.specs.Base.{last}
use Rattle.base.proofs.Tests.{split}
use Rattle.base.proofs.Chains.{last-le, last_less, last_hit, last_miss, last-same}
use Rattle.rules.specs.History.{History, size, committed}
use Rattle.rules.proofs.Committed.{committed_past}
use Rattle.bits.proofs.Tables.{Rewritten}
use Rattle.table.specs.Table.{history_of, HasTx}
use Rattle.pairs.specs.Pairs.{Blank, Priors}
use Rattle.pairs.proofs.Pairs.{session_is, is-session, prior_is, prior_over}
use Rattle.pairs.proofs.Priors.{blank_start, blank_end, prior_at}
use Rattle.columns.specs.Columns.{column_at, Numbered, SoFar, is_column, says_column, width_of}
use Rattle.columns.proofs.Columns.{column_is, column_0, column_none, column_same}

-- ── one column ──

module _ {h p : List ℕ} {t : ℕ} (o : HasTx h t) (q : Priors (history_of h) p) (c : committed (history_of h) t ≡ true) where
  -- no one of its session stands before it
  pub column_first : get_or p t 0 ≡ 0 → t ≡ column_at (history_of h) t
  column_first z =
      let x = column_is (history_of h) t o.from c in
      ⊎_elim
      (λ m.
      let s = is-session (history_of h) _ t (record { from = x.from; less = m; first = x.counts; second = c; same = x.same }) in
      absurd (omega (arith, z, x.from, prior_over (history_of h) t _ s, (prior_at o q).is)))
      (λ g. omega (arith, x.upto)) (split (column_at (history_of h) t) t)

  -- or the prior one has its column
  pub column_prior : {d : List ℕ} → SoFar (history_of h) t d → (get_or p t 0 ≡ 0 → ⊥) → get_or d (get_or p t 0) 0 ≡ column_at (history_of h) t
  column_prior m n =
      let b = prior_at o q in
      let f : 0 < get_or p t 0 = omega arith in
      let s = session_is (history_of h) (get_or p t 0) t (rw b.is (prior_is (history_of h) t (rw b.is at f))) in
      m.is (get_or p t 0) b.below ∙ (column_same (history_of h) (get_or p t 0) t s.first c f o.from).1 s.same

-- ── all of them ──

module _ (h : History) {o : List ℕ} (w : Blank o) where
  pub columns_start : Rewritten (column_at h) o o 1
  columns_start = blank_start (column_at h) w (column_0 h)

  pub columns_end : {c : List ℕ} {a : ℕ} → size h ≤ a → Rewritten (column_at h) o c a → Numbered h c
  columns_end l r =
      record { room = r.room ∙ w.room; is = blank_end (column_at h) w (size h) l (λ b m. column_none h b (committed_past h b m)) r }

pub so_far : {h : History} {o c : List ℕ} {t : ℕ} → Rewritten (column_at h) o c t → SoFar h t c
so_far r = record { is = r.done }

-- ── the greatest ──

-- a loop that has come down from n to s, where the search below n is the one below s
module _ (c : List ℕ) (n s : ℕ) where
  -- at a miss; at a column; at the end, 0 being one always
  pub width_miss : last (says_column c) n ≡ last (says_column c) s → 0 < s → says_column c (s - 1) ≡ false → last (says_column c) n ≡ last (says_column c) (s - 1)
  width_miss e l m = let q : s - 1 + 1 ≡ s = omega arith in e ∙ ap (last (says_column c)) (sym q) ∙ last_miss (says_column c) (s - 1) m

  module _ (e : last (says_column c) n ≡ last (says_column c) s) where
    pub width_hit : 0 < s → says_column c (s - 1) ≡ true → s - 1 + 1 ≡ last (says_column c) n + 1
    width_hit l t =
        let q : s - 1 + 1 ≡ s = omega arith in
        let r : last (says_column c) s ≡ s - 1 = rw q at (last_hit (says_column c) (s - 1) t) in
        omega (arith, e, r)

    pub width_end : s ≤ 1 → 1 ≡ last (says_column c) n + 1
    width_end l = ⊎_elim (λ f. omega (arith, e, last_less (says_column c) s f)) (λ g. omega (arith, e, last-le (says_column c) s)) (split 0 s)

-- of the columns of a history it is the history's
pub width_is : {h : History} {c : List ℕ} {n : ℕ} → Numbered h c → n ≡ size h → n ≤ 128 → last (says_column c) n + 1 ≡ width_of h
unfolding width_of is_column says_column
width_is {h} {c} {n} w z few =
    ap (λ (x : ℕ). x + 1)
    (last-same (says_column c) (is_column h) n (λ i l. ap (λ (x : ℕ). eqb x i) (w.is i (omega arith))) ∙ ap (last (is_column h)) z)
