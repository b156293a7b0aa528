-- Histories that grow step by step: whatever is followed or read has grown so.
use Prim.Native.Nat.{ℕ, ◌+◌, ◌*◌, ◌<◌, ◌≤◌}
use mathlib.Core.Path.{◌≡◌, refl, ap, ◌∙◌}
use mathlib.Core.Bool.{true, false}
use mathlib.Core.List.{List, [], ◌∷◌, ◌++◌}
use mathlib.Core.Logic.{⊎_elim}
use native.Mathlib.Omega.{arith}
use lib.Dec.{ltb}
use lib.ListN.{length, length-append}
use borrow.Author.Tests.{lt-ltb, le-ltb}
use Rattle.base.specs.Base.{pick}
use Rattle.base.proofs.Tests.{split, pick_on, pick_off}
use Rattle.rules.specs.History.{History, Op, tx, op, tx_count, op_count, is_open, current, empty, opened, closed, with_op}
use Rattle.rules.specs.Reading.{entered}
use Rattle.rules.specs.declared.Event.{Event}
use Rattle.rules.specs.declared.Event.TheVariants.{Open, Read, Write, Close, End, Note, Other}
use Rattle.rules.proofs.History.{with_op-count, with_op_txs, with_op_old, with_op-new, open_count_lem, open_ops, open_new, close_count, close_ops, close_this}
use Rattle.demand1.proofs.Histories.{inside-current, outside_current, current-inside}
use Rattle.writing.proofs.Rows.{Taken, open_taken, read_taken, write_taken, close_taken}

-- the steps es, each taken where it stands, give the history h
pub data Grown : List Event → History → Type 0 where
  grown_none : Grown [] empty
  grown_step : {es : List Event} {h : History} (e : Event) → Grown es h → Taken h e → Grown (es ++ (e ∷ [])) (entered h (current h) e)

-- ── which transaction is open behind a step ──

pub empty-current : current empty ≡ 0
empty-current = outside_current empty (λ i. omega (arith, i.0))

module _ (h : History) where
  pub open_current : (s : ℕ) → current (opened h s) ≡ tx_count h + 1
  open_current s = inside-current (opened h s) (omega (arith, open_count_lem h s), rw (open_count_lem h s) (ap (λ y. y.status) (open_new h s))) ∙ open_count_lem h s

  pub op-current : (o : Op) → current (with_op h o) ≡ current h
  unfolding with_op current is_open tx
  op-current o = refl

  -- inside a transaction the open one is the latest
  pub latest : 0 < current h → current h ≡ tx_count h
  latest l = inside-current h (current-inside h l)

  pub close_current : (c : ℕ) → 0 < current h → c ≤ 2 → current (closed h (current h) c) ≡ 0
  close_current c l m =
      rw (latest l)
      (outside_current (closed h (tx_count h) c)
      (λ i.
      let n = close_count h (tx_count h) c in
      omega (arith, m, rw (close_this h (tx_count h) c (omega (arith, latest l)) (omega arith)) at (rw n at i.1))))

-- ── what holds of every history that has grown ──

-- 1 where a transaction is open
abbrev pub open_count : History → ℕ
open_count h = pick (ltb 0 (current h)) 1 0

pub open_none : (h : History) → current h ≡ 0 → open_count h ≡ 0
open_none h e = pick_off (ltb 0 (current h)) 1 0 (le-ltb 0 (current h) (omega arith))

pub open_one : (h : History) → 0 < current h → open_count h ≡ 1
open_one h l = pick_on (ltb 0 (current h)) 1 0 (lt-ltb 0 (current h) l)

-- each operation is one of the transactions'
abbrev pub OpsIn : History → Type 0
OpsIn h = (i : ℕ) → i ≤ op_count h → (op h i).tx ≤ tx_count h

ops_begin : OpsIn empty
unfolding op
ops_begin i l = let e : i ≡ 0 = omega arith in rw e (omega arith)

ops_kept : (h g : History) → g.ops ≡ h.ops → tx_count h ≤ tx_count g → OpsIn h → OpsIn g
unfolding op
ops_kept h g e l r i m = let q = r i (rw e at m) in rw e (omega (arith, q))

ops_more : (h : History) (o : Op) → o.tx ≤ tx_count h → OpsIn h → OpsIn (with_op h o)
unfolding with_op
ops_more h o l r i m =
    ⊎_elim (λ g. let n : i ≡ op_count h + 1 = omega (arith, with_op-count h o) in rw (n, with_op-new h o) l)
    (λ g. rw (with_op_old h o i g) (r i g)) (split (op_count h) i)

-- how many steps there were, by the numbers of transactions and operations, and how many of those
pub record Counts (es : List Event) (h : History) : Type 0 where
  pub steps : length es + open_count h ≡ 2 * tx_count h + op_count h
  pub few_txs : tx_count h ≤ 127
  pub few_ops : op_count h ≤ 1024
  pub ops_in : OpsIn h

module _ {es : List Event} (h : History) (n : Counts es h) where
  -- an operation of the open transaction
  counts_op : (e : Event) (o : Op) → 0 < current h → op_count h < 1024 → o.tx ≡ current h → Counts (es ++ (e ∷ [])) (with_op h o)
  counts_op e o l m t =
      record {
        steps = rw (op-current h o) (omega (arith, n.steps, length-append es (e ∷ []), with_op-count h o, ap length (with_op_txs h o)));
        few_txs = rw (with_op_txs h o) n.few_txs;
        few_ops = omega (arith, with_op-count h o);
        ops_in = ops_more h o (omega (arith, latest h l)) n.ops_in;
      }

  counts_step : (e : Event) → Taken h e → Counts (es ++ (e ∷ [])) (entered h (current h) e)
  unfolding entered
  counts_step (Open s) (open_taken c l) =
      record {
        steps = omega (arith, n.steps, length-append es (Open s ∷ []), open_none h c, open_one (opened h s) (omega (arith, open_current h s)), open_count_lem h s, ap length (open_ops h s));
        few_txs = omega (arith, open_count_lem h s);
        few_ops = rw (open_ops h s) n.few_ops;
        ops_in = ops_kept h (opened h s) (open_ops h s) (omega (arith, open_count_lem h s)) n.ops_in;
      }
  counts_step (Read x v) (read_taken c l) = counts_op (Read x v) (record { tx = current h; is_write = false; key = x; value = v }) c l refl
  counts_step (Write x v) (write_taken c p l w) = counts_op (Write x v) (record { tx = current h; is_write = true; key = x; value = v }) c l refl
  counts_step (Close c) (close_taken p l) =
      record {
        steps = omega (arith, n.steps, length-append es (Close c ∷ []), open_one h p, open_none (closed h (current h) c) (close_current h c p l), close_count h (current h) c, ap length (close_ops h (current h) c));
        few_txs = rw (close_count h (current h) c) n.few_txs;
        few_ops = rw (close_ops h (current h) c) n.few_ops;
        ops_in = ops_kept h (closed h (current h) c) (close_ops h (current h) c) (omega (arith, close_count h (current h) c)) n.ops_in;
      }
  counts_step (End _) x'' = elim x'' [ ]
  counts_step Note x'' = elim x'' [ ]
  counts_step Other x3 = elim x3 [ ]

pub counts : {es : List Event} {h : History} → Grown es h → Counts es h
counts grown_none = record { steps = omega (arith, open_none empty empty-current); few_txs = omega arith; few_ops = omega arith; ops_in = ops_begin }
counts (grown_step {es} {h} e g t) = counts_step h (counts g) e t
