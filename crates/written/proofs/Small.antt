-- The fields of the steps of a trace that is read, of either edition and with notes or without, fit the bytes that records have for them, if it has no lists.
use Prim.Native.Nat.{ℕ, ◌+◌, ◌<◌, ◌≤◌}
use mathlib.Core.Path.{◌≡◌, ap}
use mathlib.Core.Bool.{Bool, true, false}
use mathlib.Core.List.{List, [], ◌∷◌}
use mathlib.Core.Logic.{⊎_elim}
use native.Mathlib.Omega.{arith}
use lib.Dec.{eqb}
use lib.ListN.{length, get_or, get_or-eq_default}
use Rattle.base.specs.Base.{pick}
use Rattle.base.proofs.Tests.{clash, split}
use Rattle.theory.specs.Entries.{In, here, there}
use Rattle.theory.proofs.Entries.{in_none, entry_in, in_either, among_iff}
use Rattle.rules.specs.History.{History, Op, tx, op, tx_count, op_count, size, is_open, empty, opened, closed, with_op}
use Rattle.rules.specs.Records.{is_second, fields_at}
use Rattle.rules.specs.Reading.{State}
use Rattle.rules.specs.declared.Event.{Event}
use Rattle.rules.specs.declared.Event.TheVariants.{Read, Write, Close, Other}
use Rattle.rules.proofs.History.{with_op-count, with_op_txs, with_op-tx, with_op_old, with_op-new, open_count_lem, open_ops, open_old, open_new, close_count, close_ops, close_whole, close_other}
use Rattle.demand1.specs.Lawful.{IsOp, IsTx}
use Rattle.demand1.specs.Rows.{kind, OfLists, appends, lists, Passes, Next, after_open, after_read, after_write, after_append, after_list, after_close, after_note, after_edition, Reaches, start, on, ReadInto, to_the_end, HasHistory}
use Rattle.demand1.proofs.Events.{same_or, passes_framed}
use Rattle.writing.specs.Listing.{op_step, op_step_of, close_step, tx_steps, history_steps}
use Rattle.written.specs.Writes.{AllBytes}
use Rattle.written.proofs.Slim.{Slim, EachSlim, slim_other, le_below}
use Rattle.rules.proofs.Singles.{Singles}

-- ── a history whose numbers fit ──

record SmallOp (o : Op) : Type 0 where
  pub key : o.key < 4294967296
  pub value : o.value < 18446744073709551616

record Small (h : History) : Type 0 where
  pub sessions : (t : ℕ) → IsTx h t → (tx h t).session < 65536
  pub ops : (i : ℕ) → IsOp h i → SmallOp (op h i)

-- the operations of another that has the same
same_ops : (h g : History) → g.ops ≡ h.ops → ((i : ℕ) → IsOp h i → SmallOp (op h i)) → (i : ℕ) → IsOp g i → SmallOp (op g i)
unfolding op
same_ops h g e s i o = let l : i ≤ op_count h = omega (arith, o.to, ap length e) in rw e (s i (record { from = o.from; to = l }))

module _ (h : History) (s : Small h) where
  small_open : (n : ℕ) → n < 65536 → Small (opened h n)
  small_open n l =
      record {
        sessions = λ t i.
            ⊎_elim
            (λ g. let e : t ≡ tx_count h + 1 = omega (arith, open_count_lem h n, i.to) in rw (e, open_new h n) l)
            (λ g. rw (open_old h n t g) (s.sessions t (record { from = i.from; to = g })))
            (split (tx_count h) t);
        ops = same_ops h (opened h n) (open_ops h n) s.ops;
      }

  small_op : (o : Op) → SmallOp o → Small (with_op h o)
  small_op o l =
      record {
        sessions = λ t i. let g : t ≤ tx_count h = omega (arith, i.to, ap length (with_op_txs h o)) in rw (with_op-tx h o t) (s.sessions t (record { from = i.from; to = g }));
        ops = λ i j.
            ⊎_elim
            (λ g. let e : i ≡ op_count h + 1 = omega (arith, with_op-count h o, j.to) in rw (e, with_op-new h o) l)
            (λ g. rw (with_op_old h o i g) (s.ops i (record { from = j.from; to = g })))
            (split (op_count h) i);
      }

  small_close : (t c : ℕ) → Small (closed h t c)
  small_close t c =
      record {
        sessions = λ i j.
            let g : i ≤ tx_count h = omega (arith, close_count h t c, j.to) in
            let k = s.sessions i (record { from = j.from; to = g }) in
            same_or i t (λ e. rw (← e, close_whole h i c j.from g) k) (λ d. rw (close_other h t c i j.from g d) k);
        ops = same_ops h (closed h t c) (close_ops h t c) s.ops;
      }

small_empty : Small empty
small_empty = record { sessions = λ t i. absurd (omega (arith, i.from, i.to)); ops = λ j i. absurd (omega (arith, i.from, i.to)) }

-- ── what is read ──

-- no record that passes is an append or a list read
abbrev pub SingleValues : List ℕ → Type 0
SingleValues s = (st : State) → Reaches s st → Passes s st → OfLists (is_second s) (kind s st.at) → ⊥

-- .. as in edition 1
pub first_single : {s : List ℕ} → is_second s ≡ false → SingleValues s
first_single first st r p (appends q _) = clash q first
first_single first st r p (lists q _) = clash q first

module _ (s : List ℕ) (b : AllBytes s) (single : SingleValues s) where
  small_next : {st x : State} → Reaches s st → Passes s st → Small st.history → Next s st x → Small x.history
  small_next {st} r p h (after_open k) = small_open st.history h _ (le_below 2 s (st.at + 8) b)
  small_next {st} r p h (after_read k w) = small_op st.history h _ (record { key = le_below 4 s (fields_at s st.at) b; value = le_below 8 s (fields_at s st.at + 4) b })
  small_next {st} r p h (after_write k w) = small_op st.history h _ (record { key = le_below 4 s (fields_at s st.at) b; value = le_below 8 s (fields_at s st.at + 4) b })
  small_next {st} r p h (after_append k w) = absurd (single st r p (appends ((passes_framed st p).sized.append_second k) k))
  small_next {st} r p h (after_list k w) = absurd (single st r p (lists ((passes_framed st p).sized.list_second k) k))
  small_next {st} r p h (after_close {t} k w) = small_close st.history h t _
  small_next r p h (after_note k) = h
  small_next r p h (after_edition k) = h

  small_reached : {st : State} → Reaches s st → Small st.history
  small_reached start = small_empty
  small_reached (on r p n) = small_next r p (small_reached r) n

-- ── its steps ──

-- by what each of them is
each_slim : (es : List Event) → ((e : Event) → In e es → Slim e) → EachSlim es
each_slim es f i =
    ⊎_elim (λ l. f (get_or es i Other) (entry_in es i Other l)) (λ (g : length es ≤ i). rw (get_or-eq_default es Other {n = i} g) slim_other) (split i (length es))

slim_op : (o : Op) → SmallOp o → Slim (op_step o)
unfolding op_step Slim pick
slim_op o l = by o.is_write
  where
    by : (w : Bool) → Slim (pick w (Write o.key o.value) (Read o.key o.value))
    by true = (l.key, l.value)
    by false = (l.key, l.value)

-- an entry of one that is there or not
in_pick : {e f : Event} (b : Bool) → In e (pick b (f ∷ []) []) → e ≡ f
unfolding pick
in_pick true (here q) = q
in_pick true (there i) = absurd (in_none i)
in_pick false i = absurd (in_none i)

in_other : {e f : Event} (b : Bool) → In e (pick b [] (f ∷ [])) → e ≡ f
unfolding pick
in_other true i = absurd (in_none i)
in_other false (here q) = q
in_other false (there i) = absurd (in_none i)

slim_tx : (h : History) → Small h → (t : ℕ) → IsTx h t → (e : Event) → In e (tx_steps h t) → Slim e
unfolding tx_steps op_step_of close_step Slim
slim_tx h s t k e (here q) = rw q (s.sessions t k)
slim_tx h s t k e (there i) =
    ⊎_elim
    (λ a.
    let m = (among_iff (op_step_of h t) (op_count h + 1) 1 e).0 a in
    let q : e ≡ op_step (op h m.at) = in_pick (eqb (op h m.at).tx t) m.is in
    rw q (slim_op (op h m.at) (s.ops m.at (record { from = m.from; to = omega (arith, m.to) }))))
    (λ a. let q : e ≡ Close (tx h t).status = in_other (is_open h t) a in rw q tt) (in_either _ i)

slim_steps_of : (h : History) → Small h → EachSlim (history_steps h)
unfolding history_steps
slim_steps_of h s =
    each_slim (history_steps h)
    (λ e i.
    let m = (among_iff (tx_steps h) (size h) 1 e).0 i in
    slim_tx h s m.at (record { from = m.from; to = omega (arith, m.to) }) e m.is)

-- ── a trace that is read ──

module _ (s : List ℕ) (b : AllBytes s) (single : SingleValues s) {h : History} (x : HasHistory s h) where
  small_read : Small h
  small_read = of x.reads
    where
      of : {h : History} {notes : ℕ} → ReadInto s h notes → Small h
      of (to_the_end l r p k e) = small_reached s b single r

  pub slim_read : EachSlim (history_steps h)
  slim_read = slim_steps_of h small_read

  -- no operation's key is one of lists
  pub read_singles : Singles h
  read_singles i l m = (small_read.ops i (record { from = l; to = m })).key
