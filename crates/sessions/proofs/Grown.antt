-- Who is open, and of which bucket, as a history grows.
use Prim.Native.Nat.{ℕ, ◌+◌, ◌≤◌, ◌<◌}
use mathlib.Core.Path.{◌≡◌, refl, ap, sym, ◌∙◌}
use mathlib.Core.Bool.{true, false}
use mathlib.Core.Logic.{⊎_elim}
use mathlib.Core.List.{◌∷◌}
use native.Mathlib.Omega.{arith}
use lib.Dec.{eqb}
use lib.ListN.{get_or-eq_default}
use borrow.Author.Tests.{eqb-true, eq-eqb, ne_eqb}
use Rattle.base.specs.Base.{last}
use Rattle.base.proofs.Tests.{and_left, and_right, and_no_left, both, split}
use Rattle.base.proofs.Chains.{last-same}
use Rattle.rules.specs.History.{History, Tx, zeroth, no_tx, tx, tx_count, size, is_open, opened, closed}
use Rattle.rules.proofs.History.{status_0, open_count_lem, open_old, open_new, close_count, close_this, close_other}
use Rattle.sessions.specs.Open.{bucket_for, session_bucket, of_bucket}

-- ── one history ──

module _ (h : History) where
  tx_0 : tx h 0 ≡ zeroth
  unfolding tx
  tx_0 = refl

  past : (t : ℕ) → size h ≤ t → tx h t ≡ no_tx
  unfolding tx
  past t l = get_or-eq_default (zeroth ∷ h.txs) no_tx {n = t} (omega arith)

  -- 0 and the numbers past the latest are not open
  pub open_in : (t : ℕ) → is_open h t ≡ true → (1 ≤ t) × (t < size h)
  unfolding is_open
  open_in t e =
      let s : (tx h t).status ≡ 3 = eqb-true _ 3 e in (
        ⊎_elim (λ l. l) (λ g. let z : t ≡ 0 = omega arith in absurd (omega (arith, rw z at s, status_0 h))) (split 0 t),
        ⊎_elim (λ l. l) (λ g. absurd (omega (arith, sym (ap (λ (x : Tx). x.status) (past t g)) ∙ s))) (split t (size h)),
      )

  pub member_open : (b t : ℕ) → of_bucket h b t ≡ true → is_open h t ≡ true
  unfolding of_bucket
  member_open b t e = and_left _ _ e

  pub member_of : (b t : ℕ) → of_bucket h b t ≡ true → session_bucket h t ≡ b
  unfolding of_bucket
  member_of b t e = eqb-true _ b (and_right _ _ e)

  pub member : (t : ℕ) → is_open h t ≡ true → of_bucket h (session_bucket h t) t ≡ true
  unfolding of_bucket
  member t e = both (is_open h t) _ e (eq-eqb (session_bucket h t) (session_bucket h t) refl)

  pub not_open : (b t : ℕ) → is_open h t ≡ false → of_bucket h b t ≡ false
  unfolding of_bucket
  not_open b t e = and_no_left _ _ e

-- ── two histories with the same transaction i ──

module _ (h k : History) where
  pub like_open : (i : ℕ) → tx k i ≡ tx h i → is_open k i ≡ is_open h i
  unfolding is_open
  like_open i e = ap (λ (x : Tx). eqb x.status 3) e

  pub like_bucket : (i : ℕ) → tx k i ≡ tx h i → session_bucket k i ≡ session_bucket h i
  unfolding session_bucket
  like_bucket i e = ap (λ (x : Tx). bucket_for x.session) e

  pub like_member : (b i : ℕ) → tx k i ≡ tx h i → of_bucket k b i ≡ of_bucket h b i
  unfolding of_bucket
  like_member b i e = rw (like_open i e, like_bucket i e) refl

  -- .. and all those below n
  pub like_last : (b n : ℕ) → ((i : ℕ) → i < n → tx k i ≡ tx h i) → last (of_bucket k b) n ≡ last (of_bucket h b) n
  like_last b n e = last-same (of_bucket k b) (of_bucket h b) n (λ i l. like_member b i (e i l))

-- ── one transaction more ──

module _ (h : History) (s : ℕ) where
  pub opened-other : (i : ℕ) → (i ≡ tx_count h + 1 → ⊥) → tx (opened h s) i ≡ tx h i
  opened-other i d =
      ⊎_elim (λ l. open_old h s i (omega arith)) (λ g. past (opened h s) i (omega (arith, open_count_lem h s)) ∙ sym (past h i (omega arith))) (split i (size h))

  pub opened_open : is_open (opened h s) (tx_count h + 1) ≡ true
  unfolding is_open
  opened_open = rw (open_new h s) refl

  pub opened_bucket : session_bucket (opened h s) (tx_count h + 1) ≡ bucket_for s
  unfolding session_bucket
  opened_bucket = rw (open_new h s) refl

-- ── a transaction gets its status ──

module _ (h : History) (t c : ℕ) where
  pub closed-other : (i : ℕ) → (i ≡ t → ⊥) → tx (closed h t c) i ≡ tx h i
  closed-other i d =
      ⊎_elim
      (λ l.
      ⊎_elim (λ m. close_other h t c i m (omega arith) d) (λ m. let z : i ≡ 0 = omega arith in rw z (tx_0 (closed h t c) ∙ sym (tx_0 h))) (split 0 i))
      (λ g. past (closed h t c) i (omega (arith, close_count h t c)) ∙ sym (past h i g)) (split i (size h))

  pub closed_this : 1 ≤ t → t < size h → (c ≡ 3 → ⊥) → is_open (closed h t c) t ≡ false
  unfolding is_open
  closed_this a b d = rw (close_this h t c a (omega arith)) (ne_eqb c 3 d)
