-- Every history that a trace is read into is lawful: by induction over the records that pass.
use Prim.Native.Nat.{ℕ, ◌+◌, ◌<◌, ◌≤◌}
use mathlib.Core.Path.{◌≡◌, refl, sym, ◌∙◌}
use mathlib.Core.Bool.{Bool, true, false}
use mathlib.Core.List.{List}
use mathlib.Core.Logic.{◌⊎◌, inl, inr, ⊎_elim}
use native.Mathlib.Omega.{arith}
use Rattle.base.proofs.Tests.{clash, ifso, split}
use lib.ListN.{get_or}
use Rattle.rules.specs.History.{History, Op, tx, op, tx_count, op_count, append_key, list_key, empty, opened, closed, with_op}
use Rattle.rules.specs.Records.{is_second, fields_at}
use Rattle.rules.specs.Reading.{State}
use Rattle.demand1.specs.Lawful.{IsOp, IsWrite, IsTx, Over, says_aborted, says_committed, says_unanswered, LawfulHistory}
use Rattle.demand1.specs.Rows.{kind, session, status, op_in, append_in, list_in, Inside, OpenOf, Misplaced, Passes, inPlace, valueLawful, withinLimit, newWrite, open_inside, read_outside, write_outside, close_outside, end_inside, end_with_open, in_first, in_second, written_0, appended_0, status_above_2, open_128th, read_1025th, write_1025th, append_1025th, list_1025th, write_again, append_again, list_again, Whose, the_latest, of_its_session, Next, after_open, after_read, after_write, after_append, after_list, after_close, after_note, after_edition, Reaches, start, on, ReadInto, to_the_end, HasHistory}
use Rattle.rules.proofs.Numbers.{le_small}
use Rattle.rules.proofs.History.{with_op-count, with_op_old, with_op-new, open_ops, open_count_lem, open_old, open_new, close_ops, close_count, close_this, close_other}
use Rattle.demand1.proofs.Events.{same_or, at_least, below, passes_framed, list_behind}
use Rattle.demand1.proofs.Steps.{inside}

-- ── operations ──

-- the part of a lawful history that is about operations
record LawfulOps (h : History) : Type 0 where
  pub few_ops : op_count h ≤ 1024
  pub in_tx : (i : ℕ) → IsOp h i → IsTx h (op h i).tx
  pub not_zero : (x i : ℕ) → IsWrite h x 0 i → ⊥
  pub one_write : (x v i j : ℕ) → IsWrite h x v i → IsWrite h x v j → i ≡ j

-- a write of one history is a write of another that has the same operation at its number
write_in : {g : History} (h : History) {x v i : ℕ} → i ≤ op_count h → op g i ≡ op h i → IsWrite g x v i → IsWrite h x v i
write_in h l e w =
    record {
      is_op = record { from = w.is_op.from; to = l };
      is_write = rw (← e) w.is_write;
      of_key = rw (← e) w.of_key;
      of_value = rw (← e) w.of_value;
    }

-- a transaction stays one where no transaction goes
tx_in : {h : History} (g : History) {t : ℕ} → tx_count h ≤ tx_count g → IsTx h t → IsTx g t
tx_in g l i = record { from = i.from; to = omega (arith, i.to) }

-- the operations stay and no transaction goes
ops_kept : {h : History} (g : History) → g.ops ≡ h.ops → tx_count h ≤ tx_count g → LawfulOps h → LawfulOps g
unfolding op
ops_kept {h} g e l r =
    let same : (i : ℕ) → op g i ≡ op h i = λ i. rw e in
    let write : (x v i : ℕ) → IsWrite g x v i → IsWrite h x v i = λ x v i w. write_in h (rw e at w.is_op.to) (same i) w in
    record {
      few_ops = rw e r.few_ops;
      in_tx = λ i o. rw (same i) (tx_in g l (r.in_tx i (record { from = o.from; to = rw e at o.to })));
      not_zero = λ x i w. r.not_zero x i (write x 0 i w);
      one_write = λ x v i j w u. r.one_write x v i j (write x v i w) (write x v j u);
    }

-- an operation that may be entered
record Fresh (h : History) (o : Op) : Type 0 where
  pub room : op_count h < 1024
  pub in_tx : IsTx h o.tx
  pub not_zero : o.is_write ≡ true → o.value ≡ 0 → ⊥
  pub new : o.is_write ≡ true → (i : ℕ) → IsWrite h o.key o.value i → ⊥

module _ (h : History) (o : Op) where
  -- the new operation as a write
  record NewWrite (x v i : ℕ) : Type 0 where
    pub last : i ≡ op_count h + 1
    pub is_write : o.is_write ≡ true
    pub of_key : o.key ≡ x
    pub of_value : o.value ≡ v

  -- an operation is one of the old ones or the new one
  old_or_new : {i : ℕ} → IsOp (with_op h o) i → ((i ≤ op_count h) × (op (with_op h o) i ≡ op h i)) ⊎ ((i ≡ op_count h + 1) × (op (with_op h o) i ≡ o))
  old_or_new {i} p =
      ⊎_elim (λ l. let n : i ≡ op_count h + 1 = omega (arith, with_op-count h o, p.to) in inr (n, rw n (with_op-new h o))) (λ g. inl (g, with_op_old h o i g))
      (split (op_count h) i)

  -- a write is one of the old ones or the new one
  write_cases : {x v i : ℕ} → IsWrite (with_op h o) x v i → IsWrite h x v i ⊎ NewWrite x v i
  write_cases w =
      ⊎_elim (λ a. inl (write_in h a.0 a.1 w))
      (λ n.
      inr (record { last = n.0; is_write = rw n.1 at w.is_write; of_key = rw n.1 at w.of_key; of_value = rw n.1 at w.of_value }))
      (old_or_new w.is_op)

  -- a fresh operation leaves them lawful
  ops_more : LawfulOps h → Fresh h o → LawfulOps (with_op h o)
  unfolding with_op
  ops_more r f =
      record {
        few_ops = omega (arith, with_op-count h o, f.room);
        in_tx = λ i p.
            ⊎_elim (λ a. rw a.1 (tx_in (with_op h o) (omega arith) (r.in_tx i (record { from = p.from; to = a.0 }))))
            (λ n. rw n.1 (tx_in (with_op h o) (omega arith) f.in_tx)) (old_or_new p);
        not_zero = λ x i w. ⊎_elim (λ a. r.not_zero x i a) (λ n. f.not_zero n.is_write n.of_value) (write_cases w);
        one_write = λ x v i j w u.
            ⊎_elim (λ a. ⊎_elim (λ b. r.one_write x v i j a b) (λ n. absurd (repeat n a)) (write_cases u))
            (λ n. ⊎_elim (λ b. absurd (repeat n b)) (λ m. n.last ∙ sym m.last) (write_cases u)) (write_cases w);
      }
    where
      repeat : {x v i j : ℕ} → NewWrite x v i → IsWrite h x v j → ⊥
      repeat {x} {v} {i} {j} n a = f.new n.is_write j (rw (n.of_key, n.of_value) a)

-- ── transactions ──

-- a status that row 8 leaves is that of a transaction that is over
over : (c : ℕ) → c ≤ 2 → Over c
over c l = ⊎_elim (λ z. says_aborted (omega arith)) (λ a. ⊎_elim (λ z. says_committed (omega arith)) (λ z. says_unanswered (omega arith)) (split c 2)) (split c 1)

-- .. and the other way round
pub over_most : {c : ℕ} → Over c → c ≤ 2
over_most (says_aborted e) = omega arith
over_most (says_committed e) = omega arith
over_most (says_unanswered e) = omega arith

-- each is over or open; in edition 1 none but the latest is open
record LawfulTxs (second : Bool) (h : History) : Type 0 where
  pub few_txs : tx_count h ≤ 127
  pub so_far : (t : ℕ) → IsTx h t → Over (tx h t).status ⊎ (((tx h t).status ≡ 3) × (second ≡ false → t ≡ tx_count h))

-- where none is open each is over
all-over : {second : Bool} {h : History} → LawfulTxs second h → (second ≡ false → Inside h → ⊥) → (second ≡ true → (n t : ℕ) → OpenOf h n t → ⊥) → (t : ℕ)
    → IsTx h t → Over (tx h t).status
all-over {second} {h} r out none t i = ⊎_elim (λ o. o) (λ l. absurd (ifso second (λ e. two e l) (λ e. one e l))) (r.so_far t i)
  where
    one : second ≡ false → ((tx h t).status ≡ 3) × (second ≡ false → t ≡ tx_count h) → ⊥
    one e l = let q = l.1 e in out e (omega (arith, i.from), rw (← q) l.0)

    two : second ≡ true → ((tx h t).status ≡ 3) × (second ≡ false → t ≡ tx_count h) → ⊥
    two e l = none e (tx h t).session t (record { is_tx = i; of_session = refl; is_open = l.0 })

-- the transactions stay
txs_kept : {second : Bool} {h : History} (g : History) → g.txs ≡ h.txs → LawfulTxs second h → LawfulTxs second g
unfolding tx
txs_kept {h = h} g e r =
    record { few_txs = rw e r.few_txs; so_far = λ t i. rw e (r.so_far t (record { from = i.from; to = rw e at i.to })) }

-- one more is open; in edition 1 it is the only one
txs_more : {second : Bool} {h : History} (s : ℕ) → LawfulTxs second h → (second ≡ false → Inside h → ⊥) → tx_count h < 127 → LawfulTxs second (opened h s)
txs_more {second} {h} s r out l =
    record {
      few_txs = omega (arith, open_count_lem h s);
      so_far = λ t i.
          ⊎_elim (λ g. let n : t ≡ tx_count h + 1 = omega (arith, open_count_lem h s, i.to) in inr (rw (n, open_new h s), λ _. n ∙ sym (open_count_lem h s)))
          (λ o. rw (open_old h s t o) (old t (record { from = i.from; to = o }))) (split (tx_count h) t);
    }
  where
    old : (t : ℕ) → IsTx h t → Over (tx h t).status ⊎ (((tx h t).status ≡ 3) × (second ≡ false → t ≡ tx_count (opened h s)))
    old t i =
        ⊎_elim inl (λ x. inr (x.0, λ e. let q = x.1 e in absurd (out e (omega (arith, i.from), rw (← q) x.0)))) (r.so_far t i)

-- transaction a is closed
txs_close : {second : Bool} {h : History} (a x : ℕ) → LawfulTxs second h → IsTx h a → x ≤ 2 → LawfulTxs second (closed h a x)
txs_close {second} {h} a x r at l =
    record {
      few_txs = omega (arith, close_count h a x, r.few_txs);
      so_far = λ t i.
          let to : t ≤ tx_count h = omega (arith, close_count h a x, i.to) in
          same_or t a (λ e. inl (rw (e, close_this h a x at.from at.to) (over x l)))
          (λ d. rw (close_other h a x t i.from to d, close_count h a x) (r.so_far t (record { from = i.from; to = to })));
    }

-- ── by induction ──

-- what holds between two records
record Growing (second : Bool) (h : History) : Type 0 where
  pub ops : LawfulOps h
  pub txs : LawfulTxs second h

-- before the first record
growing_begin : (second : Bool) → Growing second empty
growing_begin second =
    record {
      ops = record {
        few_ops = omega arith;
        in_tx = λ i o. absurd (omega (arith, o.from, o.to));
        not_zero = λ x i w. omega (arith, w.is_op.from, w.is_op.to);
        one_write = λ x v i j w u. absurd (omega (arith, w.is_op.from, w.is_op.to));
      };
      txs = record { few_txs = omega arith; so_far = λ t i. absurd (omega (arith, i.from, i.to)) };
    }

-- one operation more, of a transaction
grown_op : {second : Bool} {h : History} (o : Op) → Growing second h → IsTx h o.tx → op_count h < 1024 → (o.is_write ≡ true → o.value ≡ 0 → ⊥)
    → (o.is_write ≡ true → (i : ℕ) → IsWrite h o.key o.value i → ⊥) → Growing second (with_op h o)
unfolding with_op
grown_op {h = h} o g i l z n =
    record { ops = ops_more h o g.ops (record { room = l; in_tx = i; not_zero = z; new = n }); txs = txs_kept (with_op h o) refl g.txs }

module _ (s : List ℕ) (st : State) (p : Passes s st) (g : Growing (is_second s) st.history) where
  -- what a record belongs to is a transaction
  whose_tx : {t : ℕ} → Whose s st t → ((Inside st.history → ⊥) → Misplaced (kind s st.at) st.history) → IsTx st.history t
  whose_tx (the_latest e) m = record { from = (inside s st p e m).0; to = omega arith }
  whose_tx (of_its_session e o) m = o.is_tx

  -- .. which in edition 2 its session has
  in_second-tx : {t : ℕ} → Whose s st t → is_second s ≡ true → IsTx st.history t
  in_second-tx (the_latest e) q = absurd (clash q e)
  in_second-tx (of_its_session e o) q = o.is_tx

  -- a passing record leaves the history growing
  grown : {x : State} → Next s st x → Growing (is_second s) x.history
  unfolding opened closed
  grown (after_open k) =
      record {
        ops = ops_kept (opened st.history (session s st.at)) refl (omega (arith, open_count_lem st.history (session s st.at))) g.ops;
        txs = txs_more (session s st.at) g.txs (λ e i. p inPlace (in_first e (open_inside k i))) (below _ 127 (λ l. p withinLimit (open_128th k l)));
      }
  grown (after_read {t} k w) =
      grown_op (op_in s st.at t false) g (whose_tx w (read_outside k)) (below _ 1024 (λ l. p withinLimit (read_1025th k l))) (λ w. absurd (clash w refl))
      (λ w. absurd (clash w refl))
  grown (after_write {t} k w) =
      grown_op (op_in s st.at t true) g (whose_tx w (write_outside k)) (below _ 1024 (λ l. p withinLimit (write_1025th k l)))
      (λ _ z. p valueLawful (written_0 k z)) (λ _ i w. p newWrite (write_again k w))
  grown (after_append {t} k w) =
      grown_op (append_in s st.at t) g (in_second-tx w ((passes_framed st p).sized.append_second k)) (below _ 1024 (λ l. p withinLimit (append_1025th k l)))
      (λ _ z. p valueLawful (appended_0 k z)) (λ _ i w. p newWrite (append_again k w))
  grown (after_list {t} k w) =
      grown_op (list_in s st.at t) g (in_second-tx w ((passes_framed st p).sized.list_second k)) (below _ 1024 (λ l. p withinLimit (list_1025th k l)))
      (λ _ z. omega (arith, list_behind (passes_framed st p) k)) (λ _ i w. p newWrite (list_again k w))
  grown (after_close {t} k w) =
      let h = st.history in
      record {
        ops = ops_kept (closed h t (status s st.at)) refl (omega (arith, close_count h t (status s st.at))) g.ops;
        txs = txs_close t (status s st.at) g.txs (whose_tx w (close_outside k)) (at_least _ 2 (λ l. p valueLawful (status_above_2 k l)));
      }
  grown (after_note k) = g
  grown (after_edition k) = g

-- the history of a state that reading comes to
growing : {s : List ℕ} {st : State} → Reaches s st → Growing (is_second s) st.history
growing {s} start = growing_begin (is_second s)
growing {s} (on {st} r p n) = grown s st p (growing r) n

-- a trace that is read gives a lawful history
pub lawful_history : {s : List ℕ} {h : History} → HasHistory s h → LawfulHistory h
lawful_history {s} x = of x.reads
  where
    of : {h : History} {notes : ℕ} → ReadInto s h notes → LawfulHistory h
    of (to_the_end l r p k e) =
        let g = growing r in
        record {
          few_txs = g.txs.few_txs;
          few_ops = g.ops.few_ops;
          in_tx = g.ops.in_tx;
          not_zero = g.ops.not_zero;
          one_write = g.ops.one_write;
          is_over = all-over g.txs (λ e i. p inPlace (in_first e (end_inside k i))) (λ e n t o. p inPlace (in_second e (end_with_open k o)));
        }

-- ── list reads stand behind one another ──

-- those of the history stand before `at`
abbrev ListsBefore : History → ℕ → Type 0
ListsBefore h at = (x p i : ℕ) → IsWrite h (list_key x) p i → p < at

-- the operations stay, and reading goes on
lists_kept : {h : History} (g : History) → g.ops ≡ h.ops → {at to : ℕ} → at ≤ to → ListsBefore h at → ListsBefore g to
unfolding op
lists_kept {h} g e l b x p i w = omega (arith, b x p i (write_in h (rw e at w.is_op.to) (rw e) w))

-- one more, which has another key or stands where reading is
lists_more : (h : History) (o : Op) {at to : ℕ} → at < to → ((x : ℕ) → o.key ≡ list_key x → o.value ≡ at) → ListsBefore h at → ListsBefore (with_op h o) to
lists_more h o l f b x p i w = ⊎_elim (λ a. omega (arith, b x p i a)) (λ n. omega (arith, f x n.of_key, n.of_value)) (write_cases h o w)

-- a key of four bytes is none that a list read is held with, nor is that of an append
no_list_key : (k x : ℕ) → k < 4294967296 → k ≡ list_key x → ⊥
no_list_key k x l e = omega arith

no_append_key : (k x : ℕ) → k < 4294967296 → append_key k ≡ list_key x → ⊥
no_append_key k x l e = omega arith

module _ (s : List ℕ) (u : (i : ℕ) → get_or s i 0 < 256) where
  before_on : {st next : State} → ListsBefore st.history st.at → Next s st next → ListsBefore next.history next.at
  before_on {st} b (after_open k) = lists_kept (opened st.history (session s st.at)) (open_ops st.history (session s st.at)) (omega arith) b
  before_on {st} b (after_read {t} k w) =
      lists_more st.history (op_in s st.at t false) (omega arith) (λ x e. absurd (no_list_key _ x (le_small 4 s (fields_at s st.at) u) e)) b
  before_on {st} b (after_write {t} k w) =
      lists_more st.history (op_in s st.at t true) (omega arith) (λ x e. absurd (no_list_key _ x (le_small 4 s (fields_at s st.at) u) e)) b
  before_on {st} b (after_append {t} k w) =
      lists_more st.history (append_in s st.at t) (omega arith) (λ x e. absurd (no_append_key _ x (le_small 4 s (fields_at s st.at) u) e)) b
  before_on {st} b (after_list {t} k w) = lists_more st.history (list_in s st.at t) (omega arith) (λ x e. refl) b
  before_on {st} b (after_close {t} k w) =
      lists_kept (closed st.history t (status s st.at)) (close_ops st.history t (status s st.at)) (omega arith) b
  before_on {st} b (after_note k) = lists_kept st.history refl (omega arith) b
  before_on {st} b (after_edition k) = lists_kept st.history refl (omega arith) b

  lists_before : {st : State} → Reaches s st → ListsBefore st.history st.at
  lists_before start = λ x p i w. absurd (omega (arith, w.is_op.from, w.is_op.to))
  lists_before (on {st} r p n) = before_on (lists_before r) n

  -- no list read repeats one: `Repeated.list_again` is met by no trace
  pub list_read-new : {st : State} → Reaches s st → (x i : ℕ) → IsWrite st.history (list_key x) st.at i → ⊥
  list_read-new {st} r x i w = omega (arith, lists_before r x st.at i w)
