-- A history that has grown by steps is told by just those.
use Prim.Native.Nat.{ℕ, ◌+◌, ◌<◌, ◌≤◌}
use mathlib.Core.Path.{◌≡◌, refl, ap, sym, ◌∙◌}
use mathlib.Core.List.{List, [], ◌∷◌, ◌++◌, append_assoc, append-nil}
use native.Mathlib.Omega.{arith}
use lib.Dec.{eqb}
use lib.ListN.{length}
use borrow.Author.Tests.{eq-eqb, ne_eqb}
use Rattle.base.specs.Base.{pick, listed}
use Rattle.base.proofs.Tests.{pick_on, pick_off}
use Rattle.base.proofs.Searches.{listed_same, listed_more, listed_end}
use Rattle.base.proofs.Empty.{parts_none}
use Rattle.rules.specs.History.{History, Tx, Op, tx, op, tx_count, op_count, is_open, current, empty, opened, closed, with_op}
use Rattle.rules.specs.Reading.{entered}
use Rattle.rules.specs.declared.Event.{Event}
use Rattle.rules.specs.declared.Event.TheVariants.{Open, Read, Write, Close, End, Note, Other}
use Rattle.rules.proofs.History.{with_op-count, with_op_txs, with_op-tx, with_op_old, with_op-new, open_count_lem, open_ops, open_old, open_new, close_count, close_ops, close_whole, close_other}
use Rattle.demand1.proofs.Histories.{current-inside}
use Rattle.writing.specs.Listing.{op_step, op_step_of, close_step, tx_steps, history_steps}
use Rattle.writing.proofs.Rows.{open_taken, read_taken, write_taken, close_taken}
use Rattle.writing.proofs.Grown.{Grown, grown_none, grown_step, OpsIn, counts, latest}

-- the steps of t's operations
abbrev pub op_steps : History → ℕ → List Event
op_steps h t = listed 1 (op_count h + 1) (op_step_of h t)

-- ── one transaction ──

pub tx-steps : (h : History) (t : ℕ) → tx_steps h t ≡ Open (tx h t).session ∷ (op_steps h t ++ close_step h t)
unfolding tx_steps
tx-steps h t = refl

-- by what its steps are made of
steps-same : (g h : History) (t : ℕ) → tx g t ≡ tx h t → op_steps g t ≡ op_steps h t → tx_steps g t ≡ tx_steps h t
unfolding tx_steps close_step is_open
steps-same g h t e o = rw (e, o)

-- its operations, where the operations are the same
ops_same : (g h : History) (t : ℕ) → g.ops ≡ h.ops → op_steps g t ≡ op_steps h t
unfolding op_step_of op
ops_same g h t e = rw e

-- .. with one operation more
ops_with : (h : History) (o : Op) (t : ℕ) → op_steps (with_op h o) t ≡ op_steps h t ++ pick (eqb o.tx t) (op_step o ∷ []) []
unfolding op_step_of
ops_with h o t =
    rw (with_op-count h o)
    (listed_more (op_step_of (with_op h o) t) (op_count h + 1) 1 (omega arith)
    ∙ rw (listed_same (op_step_of (with_op h o) t) (op_step_of h t) (op_count h + 1) 1 (λ i a b. rw (with_op_old h o i (omega arith))), with_op-new h o))

-- none where no operation is t's
ops_none : (h : History) (t : ℕ) → OpsIn h → tx_count h < t → op_steps h t ≡ []
unfolding op_step_of
ops_none h t r l =
    (parts_none (op_step_of h t) 1 (op_count h + 1)).1
    (λ i a b. pick_off (eqb (op h i).tx t) (op_step (op h i) ∷ []) [] (ne_eqb (op h i).tx t (λ e. omega (arith, r i (omega arith)))))

-- its close, while it is open and then
close_none : (h : History) (t : ℕ) → (tx h t).status ≡ 3 → close_step h t ≡ []
unfolding close_step is_open
close_none h t e = pick_on (eqb (tx h t).status 3) [] (Close (tx h t).status ∷ []) (eq-eqb (tx h t).status 3 e)

pub close_one : (h : History) (t c : ℕ) → (tx h t).status ≡ c → c ≤ 2 → close_step h t ≡ Close c ∷ []
unfolding close_step is_open
close_one h t c e l =
    pick_off (eqb (tx h t).status 3) [] (Close (tx h t).status ∷ []) (ne_eqb (tx h t).status 3 (λ f. omega arith)) ∙ rw e

-- ── all of them ──

-- one step more of the latest transaction
steps_more : (g h : History) (e : Event) → 1 ≤ tx_count h → tx_count g ≡ tx_count h → ((t : ℕ) → 1 ≤ t → t < tx_count h → tx_steps g t ≡ tx_steps h t)
    → tx_steps g (tx_count h) ≡ tx_steps h (tx_count h) ++ (e ∷ []) → history_steps g ≡ history_steps h ++ (e ∷ [])
unfolding history_steps
steps_more g h e l n old new =
    rw (n, listed_more (tx_steps g) (tx_count h) 1 l, listed_more (tx_steps h) (tx_count h) 1 l, listed_same (tx_steps g) (tx_steps h) (tx_count h) 1 old, new)
    (sym (append_assoc (listed 1 (tx_count h) (tx_steps h)) (tx_steps h (tx_count h)) (e ∷ [])))

module _ (h : History) (r : OpsIn h) where
  -- a transaction more
  steps_open : (s : ℕ) → history_steps (opened h s) ≡ history_steps h ++ (Open s ∷ [])
  unfolding history_steps
  steps_open s =
      rw (open_count_lem h s, listed_more (tx_steps (opened h s)) (tx_count h + 1) 1 (omega arith), listed_same (tx_steps (opened h s)) (tx_steps h) (tx_count h + 1) 1 old, new)
    where
      old : (t : ℕ) → 1 ≤ t → t < tx_count h + 1 → tx_steps (opened h s) t ≡ tx_steps h t
      old t a b = steps-same (opened h s) h t (open_old h s t (omega arith)) (ops_same (opened h s) h t (open_ops h s))

      new : tx_steps (opened h s) (tx_count h + 1) ≡ Open s ∷ []
      new =
          tx-steps (opened h s) (tx_count h + 1)
          ∙ rw (open_new h s, ops_same (opened h s) h (tx_count h + 1) (open_ops h s), ops_none h (tx_count h + 1) r (omega arith), close_none (opened h s) (tx_count h + 1) (ap (λ (y : Tx). y.status) (open_new h s)))

  -- an operation of the open one
  steps-op : (o : Op) → 0 < current h → o.tx ≡ current h → history_steps (with_op h o) ≡ history_steps h ++ (op_step o ∷ [])
  steps-op o l e =
      steps_more (with_op h o) h (op_step o) (omega (arith, latest h l)) (ap length (with_op_txs h o))
      (λ t a b.
      steps-same (with_op h o) h t (with_op-tx h o t)
      (ops_with h o t ∙ rw (pick_off (eqb o.tx t) (op_step o ∷ []) [] (ne_eqb o.tx t (λ i. omega (arith, latest h l)))) (append-nil (op_steps h t))))
      new
    where
      n : ℕ
      n = tx_count h

      stands_open : (tx h n).status ≡ 3
      stands_open = (current-inside h l).1

      new : tx_steps (with_op h o) n ≡ tx_steps h n ++ (op_step o ∷ [])
      new =
          tx-steps (with_op h o) n
          ∙ rw (close_none (with_op h o) n (rw (with_op-tx h o n) stands_open), with_op-tx h o n, ops_with h o n, pick_on (eqb o.tx n) (op_step o ∷ []) [] (eq-eqb o.tx n (e ∙ latest h l)), tx-steps h n, close_none h n stands_open, append-nil (op_steps h n), append-nil (op_steps h n ++ (op_step o ∷ [])))

  -- it is closed
  steps_close : (c : ℕ) → 0 < current h → c ≤ 2 → history_steps (closed h (current h) c) ≡ history_steps h ++ (Close c ∷ [])
  steps_close c l m =
      rw (latest h l)
      (steps_more (closed h n c) h (Close c) first (close_count h n c)
      (λ t a b. steps-same (closed h n c) h t (close_other h n c t a (omega arith) (λ i. omega arith)) (ops_same (closed h n c) h t (close_ops h n c))) new)
    where
      n : ℕ
      n = tx_count h

      first : 1 ≤ n
      first = omega (arith, latest h l)

      whole : tx (closed h n c) n ≡ record { session = (tx h n).session; status = c }
      whole = close_whole h n c first (omega arith)

      new : tx_steps (closed h n c) n ≡ tx_steps h n ++ (Close c ∷ [])
      new =
          tx-steps (closed h n c) n
          ∙ rw (close_one (closed h n c) n c (ap (λ (y : Tx). y.status) whole) m, whole, ops_same (closed h n c) h n (close_ops h n c), tx-steps h n, close_none h n (current-inside h l).1, append-nil (op_steps h n))

pub told : {es : List Event} {h : History} → Grown es h → history_steps h ≡ es
unfolding entered op_step pick history_steps
told grown_none = listed_end (tx_steps empty) 1 1 (omega arith)
told (grown_step {h = h} (Open s) g (open_taken c l)) = steps_open h (counts g).ops_in s ∙ ap (λ l. l ++ (Open s ∷ [])) (told g)
told (grown_step {h = h} (Read x v) g (read_taken c l)) = steps-op h (counts g).ops_in _ c refl ∙ ap (λ l. l ++ (Read x v ∷ [])) (told g)
told (grown_step {h = h} (Write x v) g (write_taken c p l w)) = steps-op h (counts g).ops_in _ c refl ∙ ap (λ l. l ++ (Write x v ∷ [])) (told g)
told (grown_step {h = h} (Close c) g (close_taken p l)) = steps_close h (counts g).ops_in c p l ∙ ap (λ l. l ++ (Close c ∷ [])) (told g)
told (grown_step {es = es} {h = h} (End _) g x3) = elim x3 [ ]
told (grown_step {es = es} {h = h} Note g x3) = elim x3 [ ]
told (grown_step {es = es} {h = h} Other g x4) = elim x4 [ ]
