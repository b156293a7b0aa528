-- Columns and sessions: two transactions that count have one column exactly if they have one session.
use Prim.Native.Nat.{ℕ, ◌<◌, ◌≤◌}
use mathlib.Core.Path.{◌≡◌, refl, sym, ap, ◌∙◌}
use mathlib.Core.Bool.{true, false}
use mathlib.Core.Logic.{◌↔◌, ⊎_elim}
use native.Mathlib.Omega.{arith}
use borrow.Author.Tests.{eq-eqb}
use Rattle.base.specs.Base.{first, last}
use Rattle.base.proofs.Tests.{ifso, split, clash, pick_on, pick_off}
use Rattle.base.proofs.Searches.{first_cases, first_end}
use Rattle.base.proofs.Chains.{last_less, last_none}
use Rattle.rules.specs.History.{History, tx, size, committed}
use Rattle.rules.specs.Levels.{is_session}
use Rattle.rules.proofs.Committed.{committed_0, committed_below}
use Rattle.pairs.specs.Pairs.{before}
use Rattle.pairs.proofs.Pairs.{session_is, is-session}
use Rattle.columns.specs.Columns.{opener_of, column_at, is_column, width_of}

-- ── the first of a session ──

-- x is the first transaction of t's session that counts
pub record Opener (h : History) (t x : ℕ) : Type 0 where
  pub from : 0 < x
  pub upto : x ≤ t
  pub counts : committed h x ≡ true
  pub same : (tx h x).session ≡ (tx h t).session
  pub none : (i : ℕ) → 0 < i → i < x → committed h i ≡ true → (tx h i).session ≡ (tx h t).session → ⊥

module _ (h : History) where
  pub opener_found : (t : ℕ) → 0 < t → committed h t ≡ true → Opener h t (opener_of h t)
  unfolding opener_of before
  opener_found t l c =
      let pair : (i : ℕ) → 0 < i → i < t → committed h i ≡ true → (tx h i).session ≡ (tx h t).session → is_session h i t ≡ true =
      λ i f m d e. is-session h i t (record { from = f; less = m; first = d; second = c; same = e }) in
      ⊎_elim
      (λ z.
      rw z.0
      (record { from = l; upto = omega arith; counts = c; same = refl; none = λ i f m d e. clash (pair i f m d e) (z.1 i f m) }))
      (λ r.
      let s = session_is h (first t 1 t (λ a. is_session h a t)) t r.passes in
      record {
        from = s.from;
        upto = omega (arith, r.to);
        counts = s.first;
        same = s.same;
        none = λ i f m d e. clash (pair i f (omega (arith, r.to)) d e) (r.none i f m);
      })
      (first_cases t (λ a. is_session h a t) t 1)

  -- a session has one
  pub opener_one : {a b x y : ℕ} → Opener h a x → Opener h b y → (tx h a).session ≡ (tx h b).session → x ≡ y
  opener_one {x = x} {y} p q e =
      ⊎_elim (λ l. absurd (q.none x p.from l p.counts (p.same ∙ e)))
      (λ g. ⊎_elim (λ l. absurd (p.none y q.from l q.counts (q.same ∙ sym e))) (λ k. omega arith) (split y x)) (split x y)

  -- ── columns ──

  pub column_none : (t : ℕ) → committed h t ≡ false → column_at h t ≡ 0
  unfolding column_at
  column_none t n = pick_off _ _ _ n

  pub column_opens : (t : ℕ) → committed h t ≡ true → column_at h t ≡ opener_of h t
  unfolding column_at
  column_opens t c = pick_on _ _ _ c

  pub column_0 : column_at h 0 ≡ 0
  unfolding opener_of
  column_0 = column_opens 0 (committed_0 h) ∙ first_end _ 0 1 0 (omega arith)

  pub column_is : (t : ℕ) → 0 < t → committed h t ≡ true → Opener h t (column_at h t)
  column_is t l c = rw (column_opens t c) (opener_found t l c)

  pub column_from : (t : ℕ) → 0 < t → committed h t ≡ true → 0 < column_at h t
  column_from t l c = (column_is t l c).from

  pub column_upto : (t : ℕ) → column_at h t ≤ t
  column_upto t =
      ifso (committed h t) (λ c. ⊎_elim (λ l. (column_is t l c).upto) (λ z. let e : t ≡ 0 = omega arith in rw e (omega (arith, column_0))) (split 0 t))
      (λ n. omega (arith, column_none t n))

  pub column_few : (t : ℕ) → column_at h t < size h
  column_few t =
      ifso (committed h t) (λ c. omega (arith, column_upto t, committed_below h t c)) (λ n. omega (arith, column_none t n))

  -- one column, one session
  pub column_same : (a b : ℕ) → committed h a ≡ true → committed h b ≡ true → 0 < a → 0 < b → (column_at h a ≡ column_at h b) ↔ ((tx h a).session ≡ (tx h b).session)
  column_same a b ca cb fa fb = (
    λ e. sym (column_is a fa ca).same ∙ ap (λ (x : ℕ). (tx h x).session) e ∙ (column_is b fb cb).same,
    λ e. opener_one (column_is a fa ca) (column_is b fb cb) e,
  )

  pub columns_basic : (a b : ℕ) → 0 < a → a < b → committed h a ≡ true → committed h b ≡ true → column_at h a ≡ column_at h b → is_session h a b ≡ true
  columns_basic a b f l ca cb e =
      is-session h a b (record { from = f; less = l; first = ca; second = cb; same = (column_same a b ca cb f (omega arith)).0 e })

  -- a column is its own
  pub column_own : (a : ℕ) → column_at h (column_at h a) ≡ column_at h a
  column_own a =
      ⊎_elim
      (λ l.
      ifso (committed h a)
      (λ c. let o = column_is a (omega (arith, column_upto a)) c in opener_one (column_is (column_at h a) o.from o.counts) o o.same)
      (λ n. absurd (omega (arith, column_none a n))))
      (λ z. let e : column_at h a ≡ 0 = omega arith in rw e column_0) (split 0 (column_at h a))

  pub column_below : (a : ℕ) → column_at h a < width_of h
  unfolding width_of is_column
  column_below a =
      ⊎_elim (λ l. absurd (clash (eq-eqb _ _ (column_own a)) (last_none (is_column h) (size h) (column_at h a) l (column_few a)))) (λ g. omega arith)
      (split (last (is_column h) (size h)) (column_at h a))

  pub width_few : width_of h ≤ size h
  unfolding width_of
  width_few = omega (arith, last_less (is_column h) (size h) (omega arith))
