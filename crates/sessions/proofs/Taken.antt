-- How the step of any event meets its contract.
use Prim.Native.Nat.{ℕ, ◌≤◌, ◌<◌}
use mathlib.Core.Path.{◌≡◌, refl, ap, ◌∙◌}
use mathlib.Core.Bool.{Bool, true, false}
use mathlib.Core.Logic.{⊎_elim}
use mathlib.Core.List.{List}
use native.Mathlib.Omega.{arith}
use lib.Dec.{ltb, eqb}
use borrow.Author.Tests.{ltb-false, eqb-false, eq-eqb, ne_eqb, lt-ltb}
use Rattle.base.specs.Base.{◌or◌}
use Rattle.base.proofs.Tests.{clash, ifso, pick_on, pick_off, and_left, or_left, or_right, or_on, split}
use Rattle.base.proofs.Rows.{fit_unfit}
use Rattle.base.proofs.Chains.{last_passes}
use Rattle.rules.specs.History.{History, Op, tx, tx_count, size, is_open, is_open_of, open_of, any_open, current, opened, closed, with_op}
use Rattle.rules.proofs.History.{open_count_lem, close_count}
use Rattle.rules.proofs.Meeting.{met_end, met-session}
use Rattle.rules.specs.Reading.{misplaced, unlawful, step_rows, entered, is_end, met_by, met_in}
use Rattle.rules.specs.declared.Event.{Event}
use Rattle.rules.specs.declared.Event.TheVariants.{Open, Read, Write, Close, End, Note, Other}
use Rattle.table.specs.Table.{history_of}
use Rattle.steps.specs.Steps.{step_no, Took}
use Rattle.std.specs.Prelude.{Result}
use Rattle.rules.specs.declared.Cause.{Cause}
use Rattle.steps.specs.declared.Next.{Next}
use Rattle.sessions.specs.Open.{session_bucket, Kept, linked, unlinked, is_close, Placed, kept_by}
use Rattle.sessions.proofs.Grown.{opened_bucket, closed_this}
use Rattle.sessions.proofs.Kept.{kept_with_op, kept-opened, kept-closed}

-- ── what an event meets is open ──

module _ (h : History) (n : ℕ) (e : Event) where
  met_open : 0 < met_by h n e → is_open h (met_by h n e) ≡ true
  unfolding any_open open_of is_open_of
  met_open l =
      ifso (is_end e) (λ t. rw (met_end h n e t) (last_passes (is_open h) (size h) (rw (met_end h n e t) at l)).0)
      (λ t. rw (met-session h n e t) (and_left _ _ (last_passes (is_open_of h n) (size h) (rw (met-session h n e t) at l)).0))

  -- in edition 2, and in edition 1
  second-met : {second : Bool} → second ≡ true → met_in second h n e ≡ met_by h n e
  unfolding met_in
  second-met {second} t = pick_on second _ _ t

  pub second_end : {second : Bool} → second ≡ true → is_end e ≡ true → met_in second h n e ≡ any_open h
  second_end s t = second-met s ∙ met_end h n e t

  pub second-session : {second : Bool} → second ≡ true → is_end e ≡ false → met_in second h n e ≡ open_of h n
  second-session s t = second-met s ∙ met-session h n e t

  pub first-met : {second : Bool} → second ≡ false → met_in second h n e ≡ current h
  unfolding met_in
  first-met {second} t = pick_off second _ _ t

  pub meets_open : {second : Bool} {t : ℕ} → t ≡ met_in second h n e → second ≡ true → 0 < t → is_open h t ≡ true
  meets_open {second} {t} q s l = let e2 : t ≡ met_by h n e = q ∙ second-met s in rw e2 (met_open (rw e2 at l))

-- ── the bytes where neither has changed, and where one has ──

module _ (o : List ℕ) (n t p : ℕ) (h : History) where
  pub kept_same : tx_count h ≡ n → (0 < t → is_open h t ≡ true) → kept_by o n t p h ≡ o
  unfolding kept_by
  kept_same e i =
      pick_on (eqb (tx_count h) n) _ _ (eq-eqb _ _ e)
      ∙ pick_on (eqb t 0 or is_open h t) o (unlinked o t p)
      (⊎_elim (λ l. or_right (eqb t 0) (is_open h t) (i l)) (λ z. or_left (eqb t 0) (is_open h t) (eq-eqb t 0 (omega arith))) (split 0 t))

  pub kept_more : (tx_count h ≡ n → ⊥) → kept_by o n t p h ≡ linked o (tx_count h) (session_bucket h (tx_count h))
  unfolding kept_by
  kept_more d = pick_off (eqb (tx_count h) n) _ _ (ne_eqb _ _ d)

  pub kept_less : tx_count h ≡ n → (t ≡ 0 → ⊥) → is_open h t ≡ false → kept_by o n t p h ≡ unlinked o t p
  unfolding kept_by
  kept_less e d i =
      pick_on (eqb (tx_count h) n) _ _ (eq-eqb _ _ e)
      ∙ pick_off (eqb t 0 or is_open h t) o (unlinked o t p) (or_on (eqb t 0) (is_open h t) (ne_eqb t 0 d) ∙ i)

-- ── a step was refused, or it was lawful and is entered ──

module _ {r : Result Next Cause} {g2 g : List ℕ} {t : ℕ} {e : Event} (x : Took r g2 g t e) where
  by-case : {P : Type 0} → (history_of g2 ≡ history_of g → P)
      → (history_of g2 ≡ entered (history_of g) t e → misplaced t e ≡ false → unlawful (history_of g) e ≡ false → P) → P
  unfolding step_no step_rows
  by-case refused lawful =
      ifso (ltb 0 (step_no (history_of g) t e)) (λ y. refused (x.history ∙ pick_on _ _ _ y))
      (λ y.
      let z : step_no (history_of g) t e ≡ 0 = omega (arith, ltb-false 0 (step_no (history_of g) t e) y) in
      let m = fit_unfit _ 7 _ (omega arith) z in
      lawful (x.history ∙ pick_off _ _ _ y) m.0 (fit_unfit _ 8 _ (omega arith) m.1).0)

-- ── the bytes are those of the history behind the step ──

module _ {o : List ℕ} (h : History) (t p : ℕ) (k : Kept o h) (few : tx_count h ≤ 127) (to : t ≤ tx_count h) (i : 0 < t → is_open h t ≡ true) where
  -- nothing has been entered
  kept_refused : Kept (kept_by o (tx_count h) t p h) h
  kept_refused = rw (kept_same o (tx_count h) t p h refl i) k

  kept_op : (x : Op) → Kept (kept_by o (tx_count h) t p (with_op h x)) (with_op h x)
  unfolding with_op is_open tx
  kept_op x = rw (kept_same o (tx_count h) t p (with_op h x) refl i) (kept_with_op h x k)

  kept_open : (s : ℕ) → tx_count (opened h s) ≤ 127 → Kept (kept_by o (tx_count h) t p (opened h s)) (opened h s)
  kept_open s l =
      rw (kept_more o (tx_count h) t p (opened h s) (λ e. omega (arith, open_count_lem h s)), open_count_lem h s, opened_bucket h s)
      (kept-opened h s k (omega (arith, open_count_lem h s)))

  kept_close : (c : ℕ) → (t ≡ 0 → ⊥) → c ≤ 2 → Placed true o h (Close c) t p → Kept (kept_by o (tx_count h) t p (closed h t c)) (closed h t c)
  unfolding is_close
  kept_close c d l w =
      let from : 0 < t = omega arith in
      let f = w.found refl from refl in
      let shut = closed_this h t c from (omega arith) (λ z. omega arith) in
      rw (kept_less o (tx_count h) t p (closed h t c) (close_count h t c) d shut) (kept-closed h t c k few (i from) (λ z. omega arith) f.0 f.1)

  -- whatever has been entered
  kept-entered : (e : Event) → misplaced t e ≡ false → unlawful h e ≡ false → tx_count (entered h t e) ≤ 127 → Placed true o h e t p
      → Kept (kept_by o (tx_count h) t p (entered h t e)) (entered h t e)
  unfolding entered misplaced unlawful
  kept-entered (Open s) m u l w = kept_open s l
  kept-entered (Read x v) m u l w = kept_op (record { tx = t; is_write = false; key = x; value = v })
  kept-entered (Write x v) m u l w = kept_op (record { tx = t; is_write = true; key = x; value = v })
  kept-entered (Close c) m u l w = kept_close c (eqb-false t 0 m) (ltb-false 2 c u) w
  kept-entered (End n) m u l w = kept_refused
  kept-entered Note m u l w = kept_refused
  kept-entered Other m u l w = kept_refused

pub kept-after : {r : Result Next Cause} {g2 g o : List ℕ} {t : ℕ} {e : Event} (p : ℕ) → Took r g2 g t e → Kept o (history_of g) → tx_count (history_of g) ≤ 127
    → t ≤ tx_count (history_of g) → (0 < t → is_open (history_of g) t ≡ true) → Placed true o (history_of g) e t p
    → Kept (kept_by o (tx_count (history_of g)) t p (history_of g2)) (history_of g2)
kept-after {g = g} {t = t} {e = e} p x k few to i w =
    by-case x (λ q. rw q (kept_refused (history_of g) t p k few to i))
    (λ q m u. rw q (kept-entered (history_of g) t p k few to i e m u (rw (← q) x.held.few) w))

-- no step takes a transaction away
txs_grow : (h : History) (t : ℕ) (e : Event) → tx_count h ≤ tx_count (entered h t e)
unfolding entered with_op
txs_grow h t (Open s) = omega (arith, open_count_lem h s)
txs_grow h t (Read x v) = omega arith
txs_grow h t (Write x v) = omega arith
txs_grow h t (Close c) = omega (arith, close_count h t c)
txs_grow h t (End n) = omega arith
txs_grow h t Note = omega arith
txs_grow h t Other = omega arith

-- one that meets an open one opens none
same_txs : (h : History) (t : ℕ) (e : Event) → 0 < t → misplaced t e ≡ false → tx_count (entered h t e) ≡ tx_count h
unfolding entered misplaced with_op
same_txs h t (Open s) l m = absurd (clash (lt-ltb 0 t l) m)
same_txs h t (Read x v) l m = refl
same_txs h t (Write x v) l m = refl
same_txs h t (Close c) l m = close_count h t c
same_txs h t (End n) l m = refl
same_txs h t Note l m = refl
same_txs h t Other l m = refl

pub as_many : {r : Result Next Cause} {g2 g : List ℕ} {t : ℕ} {e : Event} → Took r g2 g t e → 0 < t → tx_count (history_of g2) ≡ tx_count (history_of g)
as_many {g = g} {t = t} {e = e} x l =
    by-case x (λ q. ap (λ (h : History). tx_count h) q) (λ q m u. ap (λ (h : History). tx_count h) q ∙ same_txs (history_of g) t e l m)

pub never_fewer : {r : Result Next Cause} {g2 g : List ℕ} {t : ℕ} {e : Event} → Took r g2 g t e → tx_count (history_of g) ≤ tx_count (history_of g2)
never_fewer {g = g} {t = t} {e = e} x = by-case x (λ q. rw q (omega arith)) (λ q m u. rw q (txs_grow (history_of g) t e))
