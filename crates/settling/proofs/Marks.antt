-- The way through the queue.
use Prim.Native.Nat.{ℕ, ◌+◌, ◌≤◌, ◌<◌}
use mathlib.Core.Path.{◌≡◌, refl, sym, ◌∙◌}
use mathlib.Core.Bool.{true, false}
use mathlib.Core.List.{List}
use mathlib.Core.Logic.{⊎_elim}
use native.Mathlib.Omega.{arith}
use native.Mathlib.Decide.{ℕ_discrete}
use lib.ListN.{get_or}
use lib.Seq.{get_or-set_other}
use borrow.Author.Tests.{eq-eqb}
use Rattle.base.proofs.Tests.{clash, is_false, same_test, split}
use Rattle.base.proofs.Chains.{last_none}
use Rattle.theory.specs.Reached.{Reached, from, on}
use Rattle.theory.proofs.Reached.{reached_within}
use Rattle.rules.specs.History.{History, tx, op, tx_count, op_count, says_committed, is_unanswered, origin_of, takes_from, vouches}
use Rattle.rules.proofs.History.{status_0}
use Rattle.rules.proofs.Origin.{source_is, source_none}
use Rattle.rules.proofs.Committed.{unanswered_iff, takes_iff, vouches_iff, committed_iff, committed_below}
use Rattle.table.specs.Table.{history_of, marked, of_tx, last_below, last_of, prev_of, Held, HasTx, HasOp, Below}
use Rattle.table.proofs.Chain.{OnChain, chain_last, chain_prev}
use Rattle.settling.specs.Settling.{TxPassing, Admitted, Remarked, Marks, Further, TakenUp, Gains, LookedAt, Ends, Settles}
use Rattle.settling.proofs.Queues.{queue_few, queue_more, remarked_none, remarked_then, word_whole, MarkedAs, marked_as}

-- ── whom operation i makes count ──

module _ (h : List ℕ) (i : ℕ) where
  pub gain_write : (op (history_of h) i).is_write ≡ true → TakenUp h i
  gain_write e = λ u t a. absurd (clash e ((takes_iff _ _ u i).0 t).is_read)

  -- w is the write whose value it reads
  module _ {w : ℕ} (e : w ≡ origin_of (history_of h) i) where
    pub gain_unwritten : w ≡ 0 → TakenUp h i
    gain_unwritten z =
        λ u t a.
        let q : u ≡ 0 = sym ((takes_iff _ _ u i).0 t).of_writer ∙ source_none _ i (sym e ∙ z) in
        absurd (omega (arith, (unanswered_iff (history_of h) 0).0 (rw q at a), status_0 (history_of h)))

    module _ {u : ℕ} (f : u ≡ (op (history_of h) w).tx) where
      gain_old : (is_unanswered (history_of h) u ≡ true → marked h u ≡ true) → TakenUp h i
      gain_old m = λ y t a. let q : y ≡ u = sym ((takes_iff _ _ y i).0 t).of_writer ∙ sym (source_is _ i w e) ∙ sym f in rw q (m (rw q at a))

      pub gain_answered : ((tx (history_of h) u).status ≡ 2 → ⊥) → TakenUp h i
      gain_answered d = gain_old (λ a. absurd (d ((unanswered_iff (history_of h) u).0 a)))

      pub gain_marked : marked h u ≡ true → TakenUp h i
      gain_marked m = gain_old (λ a. m)

      pub gain_new : (op (history_of h) i).is_write ≡ false → HasTx h u → (tx (history_of h) u).status ≡ 2 → marked h u ≡ false → Gains h i u
      gain_new r p s m =
          record {
            there = p;
            unanswered = (unanswered_iff (history_of h) u).1 s;
            takes = (takes_iff _ _ u i).1 (record { is_read = r; in_reader = refl; of_writer = sym (source_is _ i w e) ∙ sym f });
            new = m;
          }

-- .. the transaction of a write is there
pub writer_there : {h : List ℕ} {w u n : ℕ} → Held h → (w ≡ 0 → ⊥) → w < op_count (history_of h) + 1 → Below u (op (history_of h) w).tx n
    → HasTx h u
writer_there {w = w} p z l b =
    let t = p.txs_in w (⊎_elim (λ m. m) (λ m. absurd (z (omega arith))) (split 0 w)) (omega arith) in
    record { held = p; from = omega (arith, b.is, t.0); to = omega (arith, b.is, t.1) }

-- ── it counts from now on ──

pub further_none : {h q : List ℕ} {n : ℕ} → Marks h q n → Further h q n h q n
further_none m = record { remarked = remarked_none; marks = m; more = omega arith; places = λ i l. refl; kept = λ t e. e }

pub further_then : {h q g p f o : List ℕ} {n r s : ℕ} → Further h q n g p r → Further g p r f o s → Further h q n f o s
further_then a b =
    record {
      remarked = remarked_then a.remarked b.remarked;
      marks = b.marks;
      more = omega (arith, a.more, b.more);
      places = λ i l. b.places i (omega (arith, a.more)) ∙ a.places i l;
      kept = λ t e. b.kept t (a.kept t e);
    }

module _ {h q : List ℕ} {n : ℕ} (m : Marks h q n) where
  pub marks_few : n ≤ 127
  marks_few = omega (arith, queue_few m.queue, m.held.few)

  module _ {i u : ℕ} (p : HasOp h i) (c : marked h (op (history_of h) i).tx ≡ true) (w : Gains h i u) where
    reader : TxPassing (history_of h) (marked h) (op (history_of h) i).tx
    reader = let t = p.held.txs_in i p.from p.to in record { from = t.0; to = t.1; passes = c }

    -- "other than itself": the reader is marked, u is not yet
    gain_vouched : vouches (history_of h) (op (history_of h) i).tx u ≡ true
    gain_vouched =
        (vouches_iff _ _ u).1
        (record {
          unanswered = (unanswered_iff (history_of h) u).0 w.unanswered;
          other = λ e. clash (rw e at c) w.new;
          by = i;
          from = p.from;
          to = p.to;
          takes = (takes_iff _ _ u i).0 w.takes;
        })

    module _ {g o : List ℕ} {r : ℕ} (a : Admitted h q n u g o r) where
      marks_u : MarkedAs h g u true
      marks_u = marked_as 1 (omega arith) w.there a.marks

      kept_on : (t : ℕ) → Dec (t ≡ u) → marked h t ≡ true → marked g t ≡ true
      kept_on t (yes e) b = rw e marks_u.this
      kept_on t (no d) b = marks_u.other t d ∙ b

      right_on : (t : ℕ) → Dec (t ≡ u) → TxPassing (history_of h) (marked g) t → Reached (says_committed (history_of h)) (vouches (history_of h)) t
      right_on t (yes e) b = rw e (on (m.right _ reader) gain_vouched)
      right_on t (no d) b = m.right t (record { from = b.from; to = b.to; passes = sym (marks_u.other t d) ∙ b.passes })

      admitted_marks : Marks g o r
      admitted_marks =
          record {
            held = marks_u.held;
            right = rw marks_u.remarked.same (λ t. right_on t (ℕ_discrete t u));
            said = rw marks_u.remarked.same (λ t b. kept_on t (ℕ_discrete t u) (m.said t b));
            tops = rw marks_u.remarked.same (λ t a b. marks_u.tops t (λ d. m.tops t a b));
            queue =
                rw (marks_u.remarked.same, a.queue, a.end)
                (queue_more m.queue _ u w.there.from w.there.to (omega (arith, marks_few)) w.new marks_u.this marks_u.other);
          }

      pub further_one : Further h q n g o r
      further_one =
          record {
            remarked = marks_u.remarked;
            marks = admitted_marks;
            more = omega (arith, a.end);
            places = λ k l. rw a.queue (get_or-set_other q n k u 0 (λ e. omega arith));
            kept = λ t. kept_on t (ℕ_discrete t u);
          }

      pub taken_one : TakenUp g i
      taken_one =
          rw marks_u.remarked.same (λ y t b. let e : y ≡ u = sym ((takes_iff _ _ y i).0 t).of_writer ∙ ((takes_iff _ _ u i).0 w.takes).of_writer in rw e marks_u.this)

-- ── the operations of t ──

-- a loop through them has come to operation i, or to the end, where i is 0: those above it were looked at
pub record Looking (h : List ℕ) (t i : ℕ) : Type 0 where
  pub on : OnChain (history_of h) t i
  pub up : (u k : ℕ) → i < k → k ≤ op_count (history_of h) → takes_from (history_of h) t u k ≡ true → is_unanswered (history_of h) u ≡ true
      → marked h u ≡ true

-- above the last of t's operations below n there is none
none_taken : (x : History) (t u n j k : ℕ) → j ≡ last_below x t n → j < k → k < n → takes_from x t u k ≡ true → ⊥
unfolding last_below of_tx
none_taken x t u n j k e a b c = clash (eq-eqb _ t ((takes_iff x t u k).0 c).in_reader) (last_none (of_tx x t) n k (omega (arith, e)) b)

module _ {h : List ℕ} {t : ℕ} where
  pub looking_start : {r : ℕ} → Below r (last_of (history_of h) t) (op_count (history_of h) + 1) → Looking h t r
  unfolding last_of
  looking_start b =
      record { on = chain_last b; up = λ u k l m c a. absurd (none_taken _ t u _ _ k b.is l (omega arith) c) }

  pub looking_kept : {q g p : List ℕ} {n r i : ℕ} → Further h q n g p r → Looking h t i → Looking g t i
  looking_kept f l =
      record { on = rw f.remarked.same l.on; up = rw f.remarked.same (λ u k a b c d. f.kept u (l.up u k a b c d)) }

  pub looking_next : {i r : ℕ} → Looking h t i → 0 < i → TakenUp h i → Below r (prev_of (history_of h) i) i → Looking h t r
  unfolding prev_of
  looking_next {i} {r} l z c b =
      let e : (op (history_of h) i).tx ≡ t = l.on.of z in
      record {
        on = chain_prev l.on z b;
        up =
            λ u k d m f a.
            ⊎_elim (λ j. absurd (none_taken _ t u i r k (rw e at b.is) d j f))
            (λ j.
            ⊎_elim (λ y. l.up u k y m f a) (λ y. let w : k ≡ i = omega arith in c u (rw (e, ← w) f) a) (split i k))
            (split k i);
      }

  pub looking_end : {i : ℕ} → i ≤ 0 → Looking h t i → LookedAt h t
  looking_end z l u v =
      let s = (vouches_iff (history_of h) t u).0 v in
      l.up u s.by (omega (arith, s.from)) s.to ((takes_iff (history_of h) t u s.by).1 s.takes) ((unanswered_iff (history_of h) u).1 s.unanswered)

-- ── the queue ──

-- the loop through the queue has come to place j, and has made h of the table f
pub record Going (f h q : List ℕ) (n j : ℕ) : Type 0 where
  pub remarked : Remarked f h
  pub marks : Marks h q n
  pub within : j ≤ n
  pub done : (i : ℕ) → i < j → LookedAt h (get_or q i 0)

pub going_start : {h q : List ℕ} {n : ℕ} → Marks h q n → Going h h q n 0
going_start m = record { remarked = remarked_none; marks = m; within = omega arith; done = λ i l. absurd (omega arith) }

module _ {f h q : List ℕ} {n j : ℕ} (s : Going f h q n j) where
  pub going_next : {g p : List ℕ} {r : ℕ} → j < n → Further h q n g p r → LookedAt g (get_or q j 0) → Going f g p r (j + 1)
  going_next {g} {p} l t d =
      record {
        remarked = remarked_then s.remarked t.remarked;
        marks = t.marks;
        within = omega (arith, t.more);
        done =
            λ i m.
            rw (t.places i (omega arith))
            (⊎_elim (λ y. rw t.remarked.same (λ u v. t.kept u (s.done i y u v))) (λ y. let e : i ≡ j = omega arith in rw e d) (split i j));
      }

  -- transaction 0 has no operation
  zeroth_reads : (u : ℕ) → vouches (history_of h) 0 u ≡ false
  zeroth_reads u =
      is_false _
      (λ v.
      let k = (vouches_iff (history_of h) 0 u).0 v in
      omega (arith, k.takes.in_reader, (s.marks.held.txs_in k.by k.from k.to).0))

  pub going_end : n ≤ j → Ends f h
  going_end l =
      record {
        remarked = s.remarked;
        settled =
            record {
              held = s.marks.held;
              counts =
                  λ t a b.
                  same_test _ _ (λ m. (committed_iff _ t).1 (s.marks.right t (record { from = a; to = b; passes = m })))
                  (λ e. (whole ((committed_iff _ t).0 e)).1 a);
            };
        tops = s.marks.tops;
      }
    where
      Whole : ℕ → Type 0
      Whole t = Reached (says_committed (history_of h)) (vouches (history_of h)) t × (1 ≤ t → marked h t ≡ true)

      low : (t : ℕ) → Reached (says_committed (history_of h)) (vouches (history_of h)) t → t ≤ tx_count (history_of h)
      low t r = omega (arith, committed_below (history_of h) t ((committed_iff (history_of h) t).1 r))

      has : (t : ℕ) → says_committed (history_of h) t ≡ true → Whole t
      has t e = (from e, λ a. s.marks.said t (record { from = a; to = low t (from e); passes = e }))

      looked : (t u : ℕ) → 1 ≤ t → Whole t → vouches (history_of h) t u ≡ true → marked h u ≡ true
      looked t u a w v =
          let k = s.marks.queue.all t (record { from = a; to = low t w.0; passes = w.1 a }) in
          s.done k.at (omega (arith, k.to)) u (rw k.is v)

      keeps : (t u : ℕ) → Whole t → vouches (history_of h) t u ≡ true → Whole u
      keeps t u w v = (
        on w.0 v,
        λ a.
            ⊎_elim (λ b. looked t u b w v) (λ b. let e : t ≡ 0 = omega arith in absurd (clash (rw e at v) (zeroth_reads u))) (split 0 t),
      )

      whole : {t : ℕ} → Reached (says_committed (history_of h)) (vouches (history_of h)) t → Whole t
      whole r = reached_within Whole has keeps r

-- ── all ──

-- the first pass made g of h, and the way through the queue f of g
pub settles : {h g f : List ℕ} → Remarked h g → Ends g f → Settles h f
settles {f = f} a e =
    let r = remarked_then a e.remarked in
    record {
      same = r.same;
      settled = e.settled;
      words =
          λ t i l.
          let m : t ≤ tx_count (history_of f) = rw r.same l in
          rw (← r.under t, ← r.same) (word_whole f t _ (e.tops t i m) (e.settled.counts t i m));
      rest = r.rest;
    }
