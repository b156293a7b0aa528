-- What the words say is what the history says.
use Prim.Native.Nat.{ℕ, ◌+◌, ◌/◌, ◌%◌, ◌≤◌, ◌<◌}
use mathlib.Core.Path.{◌≡◌, ap, sym}
use mathlib.Core.List.{List}
use native.Mathlib.Omega.{arith}
use lib.ListN.{get_or}
use Rattle.base.proofs.Numbered.{numbered-length, numbered-at}
use Rattle.rules.specs.History.{Op, tx, op, tx_count, op_count, zeroth, no_tx, no_op}
use Rattle.table.specs.Table.{tx_at, op_at, op_of, history_of, last_at, prev_at, head_at, link_at, last_of, prev_of, head_of, link_of, Held, HasTx, HasOp, HasWrite, Below}
use Rattle.table.proofs.Grown.{last_of_less, prev_of_less, head_of_less, link_of_less}

pub tx-count : (h : List ℕ) → tx_count (history_of h) ≡ get_or h 0 0 % 128
unfolding history_of
tx-count h = numbered-length (get_or h 0 0 % 128) (tx_at h)

pub op-count : (h : List ℕ) → op_count (history_of h) ≡ get_or h 0 0 / 128
unfolding history_of
op-count h = numbered-length (get_or h 0 0 / 128) (op_at h)

module _ (h : List ℕ) (t : ℕ) (p : HasTx h t) where
  pub tx-is : tx (history_of h) t ≡ tx_at h t
  unfolding history_of tx
  tx-is = numbered-at zeroth no_tx _ (tx_at h) t p.from (omega (arith, tx-count h, p.to))

  -- its fields fit into 16 bits each
  pub session_small : (tx (history_of h) t).session < 65536
  unfolding tx_at
  session_small = rw tx-is (omega arith)

  pub status_small : (tx (history_of h) t).status < 65536
  unfolding tx_at
  status_small = rw tx-is (omega arith)

  pub last-is-kept : Below (last_at h t) (last_of (history_of h) t) (op_count (history_of h) + 1)
  last-is-kept =
      let e = p.held.lasts t p.from p.to in
      record { is = e; below = omega (arith, e, last_of_less (history_of h) t) }

  -- so its word has room for it
  pub last_small : get_or h t 0 / 262144 % 2048 ≤ 1024
  unfolding last_at
  last_small = omega (arith, last-is-kept.below, p.held.most)

module _ (h : List ℕ) (i : ℕ) (p : HasOp h i) where
  pub op-is : op (history_of h) i ≡ op_at h i
  unfolding history_of op
  op-is = numbered-at no_op no_op _ (op_at h) i p.from (omega (arith, op-count h, p.to))

  -- its key fits into 34 bits
  pub key_small : (op (history_of h) i).key < 17179869184
  unfolding op_at op_of
  key_small = rw op-is (omega arith)

  pub prev_is-kept : Below (prev_at h i) (prev_of (history_of h) i) i
  prev_is-kept =
      let e = p.held.prevs i p.from p.to in
      record { is = e; below = omega (arith, e, prev_of_less (history_of h) i p.from) }

  -- an operation's transaction is one of the table's
  pub tx-kept : Below (op_at h i).tx (op (history_of h) i).tx (tx_count (history_of h) + 1)
  tx-kept = record { is = ap (λ (o : Op). o.tx) (sym op-is); below = omega (arith, ap (λ (o : Op). o.tx) op-is, (p.held.txs_in i p.from p.to).1) }

  pub op_has_tx : HasTx h (op (history_of h) i).tx
  op_has_tx = let r = p.held.txs_in i p.from p.to in record { held = p.held; from = r.0; to = r.1 }

module _ (h : List ℕ) (b : ℕ) (p : Held h) (l : b < 128) where
  pub head_is-kept : Below (head_at h b) (head_of (history_of h) b) (op_count (history_of h) + 1)
  head_is-kept =
      let e = p.heads b l in
      record { is = e; below = omega (arith, e, head_of_less (history_of h) b) }

  -- so a write's word has room for it
  pub head_small : get_or h (2178 + b) 0 ≤ 1024
  unfolding head_at
  head_small = omega (arith, head_is-kept.below, p.most)

pub link_is-kept : (h : List ℕ) (i : ℕ) → HasWrite h i → Below (link_at h i) (link_of (history_of h) i) i
link_is-kept h i p =
    let e = p.there.held.links i p.there.from p.there.to p.writes in
    record { is = e; below = omega (arith, e, link_of_less (history_of h) i p.there.from) }
