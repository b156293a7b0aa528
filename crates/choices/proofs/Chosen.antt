-- Laws of a history with chosen outcomes: what stays, what changes, and how it grows.
use Prim.Native.Nat.{ℕ, zero, suc, ◌+◌, ◌<◌, ◌≤◌}
use mathlib.Core.Path.{◌≡◌, refl, ap, sym, ◌∙◌}
use mathlib.Core.Bool.{Bool}
use mathlib.Core.List.{List, [], ◌∷◌, ◌++◌}
use mathlib.Core.Logic.{⊎_elim}
use native.Mathlib.Omega.{arith}
use lib.Dec.{eqb}
use lib.ListN.{get_or-eq_default}
use lib.Seq.{ext_get_or}
use borrow.Author.Tests.{eqb-true, eqb-false, eq-eqb, ne_eqb}
use Rattle.base.specs.Base.{pick, numbered}
use Rattle.base.proofs.Tests.{ifso, split, pick_on, pick_off}
use Rattle.base.proofs.Chains.{last-same}
use Rattle.base.proofs.Numbered.{numbered-length, numbered-at, numbered_more}
use Rattle.rules.specs.History.{History, Tx, Op, zeroth, no_tx, tx, op, tx_count, op_count, size, is_open, current, is_open_of, open_of, any_open, writes_value, write_of, clashes, mixes_key, opened, closed, with_op}
use Rattle.rules.proofs.History.{open_count_lem, open_txs, open_old, open_new, close_count, close_whole, close_other}
use Rattle.demand1.specs.Lawful.{IsOp, IsWrite, IsTx, Over, says_aborted, says_committed, says_unanswered, LawfulHistory}
use Rattle.demand1.proofs.Events.{same_or}
use Rattle.choices.specs.Choices.{outcome_of, status_by, chosen}

-- ── a status ──

module _ (f : ℕ → Bool) (t : ℕ) where
  -- aborted or committed
  pub outcome_most : outcome_of f t ≤ 1
  unfolding outcome_of
  outcome_most = ifso (f t) (λ e. rw (pick_on {X = ℕ} (f t) 1 0 e) (omega arith)) (λ e. rw (pick_off {X = ℕ} (f t) 1 0 e) (omega arith))

  pub status-chosen : {c : ℕ} → c ≡ 2 → status_by f t c ≡ outcome_of f t
  unfolding status_by
  status-chosen {c} e = pick_on (eqb c 2) (outcome_of f t) c (eq-eqb c 2 e)

  pub status-kept : {c : ℕ} → (c ≡ 2 → ⊥) → status_by f t c ≡ c
  unfolding status_by
  status-kept {c} d = pick_off (eqb c 2) (outcome_of f t) c (ne_eqb c 2 d)

  -- none is unanswered still
  pub status-answered : (c : ℕ) → status_by f t c ≡ 2 → ⊥
  status-answered c e =
      ifso (eqb c 2) (λ q. omega (arith, status-chosen (eqb-true c 2 q), outcome_most))
      (λ q. eqb-false c 2 q (sym (status-kept (eqb-false c 2 q)) ∙ e))

  -- an open one is open still, and no other
  pub status_open : (c : ℕ) → eqb (status_by f t c) 3 ≡ eqb c 3
  status_open c =
      ifso (eqb c 2)
      (λ q. let e = eqb-true c 2 q in ne_eqb (status_by f t c) 3 (λ x. omega (arith, status-chosen e, outcome_most)) ∙ sym (ne_eqb c 3 (λ x. omega arith)))
      (λ q. ap (λ (x : ℕ). eqb x 3) (status-kept (eqb-false c 2 q)))

  -- the chosen outcome says that it committed exactly if it was chosen so
  pub outcome_says : eqb (outcome_of f t) 1 ≡ f t
  unfolding outcome_of pick
  outcome_says = ifso (f t) (λ e. rw e) (λ e. rw e)

module _ (f : ℕ → Bool) (h : History) where
  -- ── what stays ──

  pub chosen-op-count : op_count (chosen f h) ≡ op_count h
  unfolding chosen
  chosen-op-count = refl

  pub chosen-op : (i : ℕ) → op (chosen f h) i ≡ op h i
  unfolding chosen op
  chosen-op i = refl

  pub chosen_write : (x v : ℕ) → write_of (chosen f h) x v ≡ write_of h x v
  unfolding chosen write_of writes_value op
  chosen_write x v = refl

  pub chosen-mixes : (x : ℕ) → mixes_key (chosen f h) x ≡ mixes_key h x
  unfolding chosen mixes_key clashes op
  chosen-mixes x = refl

  abbrev then : ℕ → Tx
  then t = record { session = (tx h t).session; status = status_by f t (tx h t).status }

  pub chosen-count : tx_count (chosen f h) ≡ tx_count h
  unfolding chosen
  chosen-count = numbered-length (tx_count h) then

  -- ── a transaction ──

  -- there is none past the end
  past : (t : ℕ) → tx_count h < t → (tx h t ≡ no_tx) × (tx (chosen f h) t ≡ no_tx)
  unfolding tx
  past t l = (
    get_or-eq_default (zeroth ∷ h.txs) no_tx {n = t} (omega arith),
    get_or-eq_default (zeroth ∷ (chosen f h).txs) no_tx {n = t} (omega (arith, chosen-count)),
  )

  -- each has its session, and the status that the choice leaves it
  within : (t : ℕ) → 1 ≤ t → t ≤ tx_count h → tx (chosen f h) t ≡ then t
  unfolding tx chosen
  within t a b = numbered-at zeroth no_tx (tx_count h) then t a b

  pub chosen-tx : (t : ℕ) → tx (chosen f h) t ≡ record { session = (tx h t).session; status = status_by f t (tx h t).status }
  unfolding tx
  chosen-tx zero = ap (λ (c : ℕ). record { session = 0; status = c }) (sym (status-kept f 0 {c = 1} (λ e. omega arith)))
  chosen-tx (suc t) =
      ⊎_elim
      (λ l.
      let p = past (suc t) l in
      p.1 ∙ rw p.0 (ap (λ (c : ℕ). record { session = 0; status = c }) (sym (status-kept f (suc t) {c = 0} (λ e. omega arith)))))
      (λ g. within (suc t) (omega arith) g) (split (tx_count h) (suc t))

  pub chosen-session : (t : ℕ) → (tx (chosen f h) t).session ≡ (tx h t).session
  chosen-session t = ap (λ (x : Tx). x.session) (chosen-tx t)

  pub chosen-status : (t : ℕ) → (tx (chosen f h) t).status ≡ status_by f t (tx h t).status
  chosen-status t = ap (λ (x : Tx). x.status) (chosen-tx t)

  -- an open one is open still, and no other
  pub chosen_open : (t : ℕ) → is_open (chosen f h) t ≡ is_open h t
  unfolding is_open
  chosen_open t = ap (λ (c : ℕ). eqb c 3) (chosen-status t) ∙ status_open f t (tx h t).status

  pub chosen-current : current (chosen f h) ≡ current h
  unfolding current
  chosen-current = rw (chosen-count, chosen_open (tx_count h))

  -- so each session has the same one open, and any one is
  still_open : (n t : ℕ) → is_open_of (chosen f h) n t ≡ is_open_of h n t
  unfolding is_open_of
  still_open n t = rw (chosen_open t, chosen-session t)

  pub chosen_open_of : (n : ℕ) → open_of (chosen f h) n ≡ open_of h n
  unfolding open_of
  chosen_open_of n = rw chosen-count (last-same (is_open_of (chosen f h) n) (is_open_of h n) (size h) (λ t l. still_open n t))

  pub chosen_any : any_open (chosen f h) ≡ any_open h
  unfolding any_open
  chosen_any = rw chosen-count (last-same (is_open (chosen f h)) (is_open h) (size h) (λ t l. chosen_open t))

  -- ── how it grows ──

  pub chosen_with_op : (o : Op) → chosen f (with_op h o) ≡ with_op (chosen f h) o
  unfolding chosen with_op tx
  chosen_with_op o = refl

-- histories whose transactions are the same, one by one
same_txs : (g h : History) → tx_count g ≡ tx_count h → ((t : ℕ) → 1 ≤ t → t ≤ tx_count g → tx g t ≡ tx h t) → g.txs ≡ h.txs
unfolding tx
same_txs g h n e = ext_get_or no_tx g.txs h.txs n (λ i l. e (suc i) (omega arith) (omega arith))

module _ (f : ℕ → Bool) where
  -- its transactions
  chosen_txs : (h : History) → (chosen f h).txs ≡ numbered (tx_count h) (then f h)
  unfolding chosen
  chosen_txs h = refl

  then_same : (g h : History) (t : ℕ) → tx g t ≡ tx h t → then f g t ≡ then f h t
  then_same g h t e = ap (λ (x : Tx). record { session = x.session; status = status_by f t x.status }) e

  -- one more, which is open
  opened_txs : (h : History) (s : ℕ) → (chosen f (opened h s)).txs ≡ (opened (chosen f h) s).txs
  opened_txs h s =
      chosen_txs (opened h s) ∙ ap (λ (n : ℕ). numbered n (then f (opened h s))) (open_count_lem h s)
      ∙ numbered_more (tx_count h) (then f (opened h s)) (then f h) new (λ i a b. then_same (opened h s) h i (open_old h s i b))
      (ap (λ (x : Tx). record { session = x.session; status = status_by f (tx_count h + 1) x.status }) (open_new h s)
      ∙ ap (λ (c : ℕ). record { session = s; status = c }) (status-kept f (tx_count h + 1) {c = 3} (λ e. omega arith)))
      ∙ sym (open_txs (chosen f h) s ∙ ap (λ (l : List Tx). l ++ (new ∷ [])) (chosen_txs h))
    where
      new : Tx
      new = record { session = s; status = 3 }

  pub chosen-opened : (h : History) (s : ℕ) → chosen f (opened h s) ≡ opened (chosen f h) s
  unfolding chosen opened
  chosen-opened h s = λ i. record { txs = opened_txs h s i; ops = h.ops }

  -- transaction t gets its status: the chosen one where that is 2
  module _ (h : History) (t c : ℕ) where
    closed-tx : (i : ℕ) → 1 ≤ i → i ≤ tx_count h → tx (chosen f (closed h t c)) i ≡ tx (closed (chosen f h) t (status_by f t c)) i
    closed-tx i a b =
        chosen-tx f (closed h t c) i
        ∙ same_or i t
        (λ e. rw e
        (ap (λ (x : Tx). record { session = x.session; status = status_by f t x.status }) (close_whole h t c (omega arith) (omega arith))
        ∙ ap (λ (n : ℕ). record { session = n; status = status_by f t c }) (sym (chosen-session f h t))
        ∙ sym (close_whole (chosen f h) t (status_by f t c) (omega arith) (omega (arith, chosen-count f h)))))
        (λ d.
        then_same (closed h t c) h i (close_other h t c i a b d)
        ∙ sym (close_other (chosen f h) t (status_by f t c) i a (omega (arith, chosen-count f h)) d ∙ chosen-tx f h i))

    closed-count : tx_count (chosen f (closed h t c)) ≡ tx_count h
    closed-count = chosen-count f (closed h t c) ∙ close_count h t c

    closed_txs : (chosen f (closed h t c)).txs ≡ (closed (chosen f h) t (status_by f t c)).txs
    closed_txs =
        same_txs (chosen f (closed h t c)) (closed (chosen f h) t (status_by f t c))
        (closed-count ∙ sym (close_count (chosen f h) t (status_by f t c) ∙ chosen-count f h)) (λ i a b. closed-tx i a (omega (arith, closed-count)))

    pub chosen-closed : chosen f (closed h t c) ≡ closed (chosen f h) t (status_by f t c)
    unfolding chosen closed
    chosen-closed = λ i. record { txs = closed_txs i; ops = h.ops }

-- ── it is lawful where the history is ──

module _ (f : ℕ → Bool) where
  -- a transaction that is over is over still
  over-chosen : (t : ℕ) {c : ℕ} → Over c → Over (status_by f t c)
  unfolding outcome_of
  over-chosen t (says_aborted e) = says_aborted (status-kept f t (λ q. omega arith) ∙ e)
  over-chosen t (says_committed e) = says_committed (status-kept f t (λ q. omega arith) ∙ e)
  over-chosen t (says_unanswered e) =
      ifso (f t) (λ q. says_committed (status-chosen f t e ∙ pick_on (f t) 1 0 q)) (λ q. says_aborted (status-chosen f t e ∙ pick_off (f t) 1 0 q))

  module _ (h : History) where
    -- its numbers of operations, transactions and writes
    op-back : {i : ℕ} → IsOp (chosen f h) i → IsOp h i
    op-back o = record { from = o.from; to = omega (arith, o.to, chosen-op-count f h) }

    tx-back : {t : ℕ} → IsTx (chosen f h) t → IsTx h t
    tx-back i = record { from = i.from; to = omega (arith, i.to, chosen-count f h) }

    write_back : {x v i : ℕ} → IsWrite (chosen f h) x v i → IsWrite h x v i
    write_back {x} {v} {i} w =
        let e = chosen-op f h i in
        record {
          is_op = op-back w.is_op;
          is_write = rw e at w.is_write;
          of_key = rw e at w.of_key;
          of_value = rw e at w.of_value;
        }

    pub chosen_lawful : LawfulHistory h → LawfulHistory (chosen f h)
    chosen_lawful l =
        record {
          few_txs = omega (arith, l.few_txs, chosen-count f h);
          few_ops = omega (arith, l.few_ops, chosen-op-count f h);
          in_tx = λ i o.
              let n = l.in_tx i (op-back o) in
              rw (chosen-op f h i) (record { from = n.from; to = omega (arith, n.to, chosen-count f h) });
          not_zero = λ x i w. l.not_zero x i (write_back w);
          one_write = λ x v i j w u. l.one_write x v i j (write_back w) (write_back u);
          is_over = λ t i. rw (chosen-status f h t) (over-chosen t (l.is_over t (tx-back i)));
        }
