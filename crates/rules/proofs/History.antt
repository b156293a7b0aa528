-- How a history's operations and transactions are numbered as it grows.
use Prim.Native.Nat.{ℕ, suc, ◌+◌, ◌≤◌}
use mathlib.Core.Path.{◌≡◌, refl, ap, sym, ◌∙◌}
use mathlib.Core.List.{List, [], ◌∷◌, ◌++◌}
use mathlib.Core.Logic.{⊎_elim}
use native.Mathlib.Omega.{arith}
use native.Mathlib.Numerals.{add-one}
use lib.Dec.{eqb}
use lib.ListN.{length, get_or, length-append, get_or-append}
use lib.Seq.{get_or-append_seam, get_or_at, ext_get_or}
use borrow.Author.Tests.{eq-eqb, ne_eqb}
use Rattle.base.specs.Base.{pick}
use Rattle.base.proofs.Tests.{pick_on, pick_off, split}
use Rattle.base.proofs.Numbered.{numbered-length, numbered-at}
use Rattle.rules.specs.History.{History, Tx, Op, zeroth, no_tx, no_op, tx, op, tx_count, op_count, opened, closed, with_op}

-- ── number 0 ──

-- transaction 0 is committed, and no operation has the number
pub status_0 : (h : History) → (tx h 0).status ≡ 1
unfolding tx
status_0 h = refl

pub op_0 : (h : History) → (op h 0).tx ≡ 0
unfolding op
op_0 h = refl

-- ── one operation more ──

module _ (h : History) (o : Op) where
  pub with_op-count : op_count (with_op h o) ≡ op_count h + 1
  unfolding with_op
  with_op-count = length-append h.ops (o ∷ [])

  pub with_op_txs : (with_op h o).txs ≡ h.txs
  unfolding with_op
  with_op_txs = refl

  pub with_op-tx : (t : ℕ) → tx (with_op h o) t ≡ tx h t
  unfolding with_op tx
  with_op-tx t = refl

  pub with_op_ops : (with_op h o).ops ≡ h.ops ++ (o ∷ [])
  unfolding with_op
  with_op_ops = refl

  pub with_op_old : (i : ℕ) → i ≤ op_count h → op (with_op h o) i ≡ op h i
  unfolding with_op op
  with_op_old i l = get_or-append (no_op ∷ h.ops) (o ∷ []) no_op i (omega arith)

  pub with_op-new : op (with_op h o) (op_count h + 1) ≡ o
  unfolding with_op op
  with_op-new = rw (add-one (op_count h)) (get_or-append_seam h.ops o [] no_op)

-- ── one transaction more ──

module _ (h : History) (s : ℕ) where
  pub open_count_lem : tx_count (opened h s) ≡ tx_count h + 1
  unfolding opened
  open_count_lem = length-append h.txs (record { session = s; status = 3 } ∷ [])

  pub open_ops : (opened h s).ops ≡ h.ops
  unfolding opened
  open_ops = refl

  pub open_txs : (opened h s).txs ≡ h.txs ++ (record { session = s; status = 3 } ∷ [])
  unfolding opened
  open_txs = refl

  pub open_old : (t : ℕ) → t ≤ tx_count h → tx (opened h s) t ≡ tx h t
  unfolding opened tx
  open_old t l = get_or-append (zeroth ∷ h.txs) (record { session = s; status = 3 } ∷ []) no_tx t (omega arith)

  pub open_new : tx (opened h s) (tx_count h + 1) ≡ record { session = s; status = 3 }
  unfolding opened tx
  open_new = rw (add-one (tx_count h)) (get_or-append_seam h.txs (record { session = s; status = 3 }) [] no_tx)

-- ── a transaction gets its status ──

module _ (h : History) (t x : ℕ) where
  abbrev then : ℕ → Tx
  then i = pick (eqb i t) (record { session = (tx h i).session; status = x }) (tx h i)

  pub close_count : tx_count (closed h t x) ≡ tx_count h
  unfolding closed
  close_count = numbered-length (tx_count h) then

  pub close_ops : (closed h t x).ops ≡ h.ops
  unfolding closed
  close_ops = refl

  close_tx_lem : (i : ℕ) → 1 ≤ i → i ≤ tx_count h → tx (closed h t x) i ≡ then i
  unfolding closed tx
  close_tx_lem i a b = numbered-at zeroth no_tx (tx_count h) then i a b

  pub close_whole : 1 ≤ t → t ≤ tx_count h → tx (closed h t x) t ≡ record { session = (tx h t).session; status = x }
  close_whole a b = close_tx_lem t a b ∙ pick_on (eqb t t) (record { session = (tx h t).session; status = x }) (tx h t) (eq-eqb t t refl)

  pub close_this : 1 ≤ t → t ≤ tx_count h → (tx (closed h t x) t).status ≡ x
  close_this a b = ap (λ (y : Tx). y.status) (close_whole a b)

  pub close_other : (i : ℕ) → 1 ≤ i → i ≤ tx_count h → (i ≡ t → ⊥) → tx (closed h t x) i ≡ tx h i
  close_other i a b d = close_tx_lem i a b ∙ pick_off (eqb i t) (record { session = (tx h i).session; status = x }) (tx h i) (ne_eqb i t d)

-- the latest of them: those before it stay
pub close_latest : (h : History) (x : ℕ) (front : List Tx) (y : Tx) → h.txs ≡ front ++ (y ∷ [])
    → (closed h (tx_count h) x).txs ≡ front ++ (record { session = y.session; status = x } ∷ [])
unfolding tx
close_latest h x front y e =
    ext_get_or no_tx (closed h n x).txs (front ++ (z ∷ [])) (close_count h n x ∙ count ∙ sym (length-append front (z ∷ [])))
    (λ i l.
    ⊎_elim
    (λ a.
    close_other h n x (suc i) (omega arith) (omega (arith, count)) (λ q. omega (arith, count))
    ∙ ap (λ (l : List Tx). get_or l i no_tx) e ∙ get_or-append front (y ∷ []) no_tx i a ∙ sym (get_or-append front (z ∷ []) no_tx i a))
    (λ a.
    let q : i ≡ length front = omega (arith, count, close_count h n x) in
    let k : suc i ≡ n = omega (arith, count) in
    let this : tx h n ≡ y = ap (tx h) (sym k) ∙ ap (λ (l : List Tx). get_or l i no_tx) e ∙ get_or_at front y [] no_tx i (sym q) in
    ap (tx (closed h n x)) k ∙ close_whole h n x (omega (arith, count)) (omega arith) ∙ ap (λ (t : Tx). record { session = t.session; status = x }) this
    ∙ sym (get_or_at front z [] no_tx i (sym q)))
    (split i (length front)))
  where
    n : ℕ
    n = tx_count h

    z : Tx
    z = record { session = y.session; status = x }

    count : tx_count h ≡ length front + 1
    count = ap length e ∙ length-append front (y ∷ [])
