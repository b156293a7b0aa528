-- A renumbering: what stays, its inverse, and that the renumbered history is lawful too.
use Prim.Native.Nat.{ℕ, ◌+◌, ◌<◌, ◌≤◌}
use mathlib.Core.Path.{◌≡◌, refl, ap, sym, ◌∙◌, fun_ext}
use mathlib.Core.Logic.{◌↔◌, ⊎_elim}
use mathlib.Core.List.{List}
use native.Mathlib.Omega.{arith}
use lib.ListN.{length}
use Rattle.base.proofs.Tests.{split}
use Rattle.rules.specs.History.{History, Tx, Op, tx, op, tx_count, op_count, size}
use Rattle.demand1.specs.Lawful.{IsOp, IsWrite, IsTx, LawfulHistory}
use Rattle.demand1.proofs.Events.{at_least, below}
use Rattle.renumbering.specs.Renumbering.{Renumbers}

-- number 0 is no operation's, in every history
zeroth-op : (h g : History) → op g 0 ≡ op h 0
unfolding op
zeroth-op h g = refl

-- a write is one in another history at the number that the same operation has there
write_at : {h g : History} {x v i j : ℕ} → IsOp g j → op g j ≡ op h i → IsWrite h x v i → IsWrite g x v j
write_at o e w = record { is_op = o; is_write = rw e w.is_write; of_key = rw e w.of_key; of_value = rw e w.of_value }

-- .. and a transaction where there are as many
tx-at : {h g : History} {t : ℕ} → tx_count g ≡ tx_count h → IsTx h t → IsTx g t
tx-at e i = record { from = i.from; to = omega (arith, i.to, e) }

module _ {to back : ℕ → ℕ} {h g : History} (r : Renumbers to back h g) where
  -- ── the transactions are the same ──

  pub same_tx : tx g ≡ tx h
  unfolding tx
  same_tx = fun_ext (λ t. rw r.same_txs)

  same_count : tx_count g ≡ tx_count h
  same_count = ap (λ (l : List Tx). length l) r.same_txs

  pub same_size : size g ≡ size h
  same_size = ap (λ (n : ℕ). n + 1) same_count

  -- ── the operations, one-to-one ──

  -- of an operation or of number 0
  pub op_or_none : (i : ℕ) → i < op_count h + 1 → op g (to i) ≡ op h i
  op_or_none i l =
      ⊎_elim (λ p. r.same_op i (record { from = p; to = omega arith }))
      (λ z. let q : i ≡ 0 = omega arith in rw (q, r.none) (zeroth-op h g)) (split 0 i)

  op-back : (j : ℕ) → IsOp g j → op h (back j) ≡ op g j
  op-back j o = sym (r.same_op (back j) (r.back_op j o)) ∙ ap (op g) (r.to_back j o)

  -- within a transaction the order is the same
  pub in_order : (i j : ℕ) → IsOp h i → IsOp h j → (op h i).tx ≡ (op h j).tx → (i ≤ j) ↔ (to i ≤ to j)
  in_order i j a b e = (
    λ l.
        ⊎_elim (λ (m : i < j). omega (arith, r.keeps i j a b e m)) (λ (m : j ≤ i). let q : i ≡ j = omega arith in rw q (omega arith)) (split i j),
    λ l. at_least i j (λ m. omega (arith, r.keeps j i b a (sym e) m)),
  )

  -- the inverse is a renumbering too, where it leaves number 0
  pub renumbers_back : back 0 ≡ 0 → Renumbers back to g h
  renumbers_back z =
      record {
        same_txs = sym r.same_txs;
        as_many = sym r.as_many;
        none = z;
        to_op = r.back_op;
        back_op = r.to_op;
        back_to = r.to_back;
        to_back = r.back_to;
        same_op = op-back;
        keeps =
            λ i j a b e l.
            let same : (op h (back j)).tx ≡ (op h (back i)).tx =
            ap (λ (o : Op). o.tx) (op-back j b) ∙ sym e ∙ ap (λ (o : Op). o.tx) (sym (op-back i a)) in
            below _ _
            (λ m. omega (arith, (in_order (back j) (back i) (r.back_op j b) (r.back_op i a) same).0 m, r.to_back i a, r.to_back j b));
      }

  -- ── the renumbered history is lawful ──

  pub write_there : {x v i : ℕ} → IsWrite h x v i → IsWrite g x v (to i)
  write_there {i = i} w = write_at (r.to_op i w.is_op) (r.same_op i w.is_op) w

  pub write_back : {x v j : ℕ} → IsWrite g x v j → IsWrite h x v (back j)
  write_back {j = j} w = write_at (r.back_op j w.is_op) (op-back j w.is_op) w

  pub renumbered_lawful : LawfulHistory h → LawfulHistory g
  renumbered_lawful ok =
      record {
        few_txs = rw same_count ok.few_txs;
        few_ops = rw r.as_many ok.few_ops;
        in_tx = λ j o. rw (← op-back j o) (tx-at same_count (ok.in_tx (back j) (r.back_op j o)));
        not_zero = λ x j w. ok.not_zero x (back j) (write_back w);
        one_write =
            λ x v i j w u.
            sym (r.to_back i w.is_op) ∙ ap to (ok.one_write x v (back i) (back j) (write_back w) (write_back u)) ∙ r.to_back j u.is_op;
        is_over = λ t i. rw same_tx (ok.is_over t (tx-at (sym same_count) i));
      }
