-- Edition 2: which traces it is, and that "Each session may have one transaction open": so it is in every state that reading comes to.
use Prim.Native.Nat.{ℕ, ◌+◌, ◌≤◌}
use mathlib.Core.Path.{◌≡◌, sym, ◌∙◌}
use mathlib.Core.Bool.{true}
use mathlib.Core.List.{List}
use mathlib.Core.Logic.{◌⊎◌, inl, inr, ⊎_elim}
use native.Mathlib.Omega.{arith}
use lib.ListN.{length}
use borrow.Author.Tests.{le-leb, eq-eqb}
use Rattle.base.proofs.Tests.{clash, both, split}
use Rattle.rules.specs.History.{History, Op, tx, tx_count, opened, closed, with_op}
use Rattle.rules.specs.Records.{is_second}
use Rattle.rules.specs.Reading.{State}
use Rattle.rules.proofs.History.{with_op-tx, open_count_lem, open_old, open_new, close_count, close_this, close_other}
use Rattle.demand1.specs.Lawful.{IsTx}
use Rattle.demand1.specs.Rows.{kind, session, OpenOf, OneOpenEach, open_again, in_second, status_above_2, Passes, inPlace, valueLawful, the_latest, of_its_session, Next, after_open, after_read, after_write, after_append, after_list, after_close, after_note, after_edition, Reaches, start, on}
use Rattle.demand1.proofs.Events.{same_or, at_least}

-- "Edition 2 of the trace begins with a kind 16 record"
pub begins-second : (s : List ℕ) → 4 ≤ length s → kind s 0 ≡ 16 → is_second s ≡ true
unfolding is_second
begins-second s l k = both _ _ (le-leb 4 (length s) l) (eq-eqb (kind s 0) 16 k)

-- a transaction that is open in g is open in h, where it is the same
open_in : {g : History} (h : History) {n t : ℕ} → t ≤ tx_count h → tx g t ≡ tx h t → OpenOf g n t → OpenOf h n t
open_in h l e o =
    record { is_tx = record { from = o.is_tx.from; to = l }; of_session = rw (← e) o.of_session; is_open = rw (← e) o.is_open }

module _ (h : History) where
  -- with one operation more
  with_open : (o : Op) {n t : ℕ} → OpenOf (with_op h o) n t → OpenOf h n t
  unfolding with_op
  with_open o {t = t} q = open_in h q.is_tx.to (with_op-tx h o t) q

  -- with one transaction more: it is an old one, or the new one
  opened_cases : (m : ℕ) {n t : ℕ} → OpenOf (opened h m) n t → OpenOf h n t ⊎ ((t ≡ tx_count h + 1) × (n ≡ m))
  opened_cases m {n} {t} q =
      ⊎_elim
      (λ l.
      let e : t ≡ tx_count h + 1 = omega (arith, open_count_lem h m, q.is_tx.to) in
      inr (e, sym q.of_session ∙ rw (e, open_new h m)))
      (λ l. inl (open_in h l (open_old h m t l) q)) (split (tx_count h) t)

  -- with one closed: another one
  closed_open : (a c : ℕ) → IsTx h a → c ≤ 2 → {n t : ℕ} → OpenOf (closed h a c) n t → OpenOf h n t
  closed_open a c i l {t = t} q =
      same_or t a (λ e. absurd (omega (arith, l, rw (e, close_this h a c i.from i.to) at q.is_open)))
      (λ d.
      let to : t ≤ tx_count h = omega (arith, close_count h a c, q.is_tx.to) in
      open_in h to (close_other h a c t q.is_tx.from to d) q)

-- where each session has one at most, so it is behind a record that passes
one_more : (s : List ℕ) (st : State) → is_second s ≡ true → Passes s st → OneOpenEach st.history → {x : State} → Next s st x → OneOpenEach x.history
one_more s st second p one (after_open k) n t u a b =
    ⊎_elim
    (λ x. ⊎_elim (λ y. one n t u x y) (λ y. absurd (p inPlace (in_second second (open_again k (rw y.1 at x))))) (opened_cases h m b))
    (λ x. ⊎_elim (λ y. absurd (p inPlace (in_second second (open_again k (rw x.1 at y))))) (λ y. x.0 ∙ sym y.0) (opened_cases h m b)) (opened_cases h m a)
  where
    h : History
    h = st.history

    m : ℕ
    m = session s st.at
one_more s st second p one (after_read k w) n t u a b = one n t u (with_open st.history _ a) (with_open st.history _ b)
one_more s st second p one (after_write k w) n t u a b = one n t u (with_open st.history _ a) (with_open st.history _ b)
one_more s st second p one (after_append k w) n t u a b = one n t u (with_open st.history _ a) (with_open st.history _ b)
one_more s st second p one (after_list k w) n t u a b = one n t u (with_open st.history _ a) (with_open st.history _ b)
one_more s st second p one (after_close k (the_latest e)) n t u a b = absurd (clash second e)
one_more s st second p one (after_close k (of_its_session {t = c} e o)) n t u a b =
    let l = at_least _ 2 (λ g. p valueLawful (status_above_2 k g)) in
    one n t u (closed_open st.history c _ o.is_tx l a) (closed_open st.history c _ o.is_tx l b)
one_more s st second p one (after_note k) n t u a b = one n t u a b
one_more s st second p one (after_edition k) n t u a b = one n t u a b

pub one_open_each : {s : List ℕ} {st : State} → Reaches s st → is_second s ≡ true → OneOpenEach st.history
one_open_each start second = λ n t u a b. absurd (omega (arith, a.is_tx.from, a.is_tx.to))
one_open_each {s} (on {st} r p x) second = one_more s st second p (one_open_each r second) x
