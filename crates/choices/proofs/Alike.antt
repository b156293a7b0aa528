-- Two histories that differ in who counts only: what carries over from the one with fewer, where its readers' sources are the same.
use Prim.Native.Nat.{ℕ}
use mathlib.Core.Path.{◌≡◌, refl, ap, sym, ◌∙◌}
use mathlib.Core.Bool.{Bool}
use mathlib.Core.Logic.{inl, inr, ⊎_elim}
use native.Mathlib.Omega.{arith}
use Rattle.base.specs.Base.{◌and◌}
use Rattle.base.proofs.Tests.{both, and_left, and_right}
use Rattle.rules.specs.History.{History, Op, tx, op, tx_count, op_count, committed}
use Rattle.demand1.specs.Lawful.{IsWrite, LawfulHistory}
use Rattle.demand2.specs.Counts.{ReadsValueOf, Counts}
use Rattle.demand2.specs.Kinds.{WriteIn, WriteOf, JudgedRead, FromOther, Fits, thin_air, aborted, future, not_my_last, not_my_own, intermediate, AllClean}
use Rattle.demand2.specs.Axiom.{Member, SO, from_0, in_session, Source, initial, written, ReadFrom, WR, Writes, initially, later, SoWr, Causal, one, more, Sees, earlier, direct, causal, HasOrder, ByTest}
use Rattle.demand2.proofs.Pairs.{member, in_members, source_member, reader_member, so_members}

-- a value of u's that a reads: its write, and the read, which is judged where a counts
pub read_write : {h : History} {a u : ℕ} (v : ReadsValueOf h a u) → WriteOf h u (op h v.read).key (op h v.read).value v.write
read_write v =
    let k = v.is_write in
    record {
      in_it = record { from = k.is_op.from; to = k.is_op.to; is_write = k.is_write; in_tx = v.in_writer; of_key = k.of_key };
      of_value = k.of_value;
    }

pub judged-read : {h : History} {a u : ℕ} (v : ReadsValueOf h a u) → Counts h a → JudgedRead h v.read
judged-read v c = record { from = v.is_op.from; to = v.is_op.to; is_read = v.is_read; in_committed = rw v.in_reader c }

-- the same operations and sessions
pub record Alike (h g : History) : Type 0 where
  pub count : op_count h ≡ op_count g
  pub same : (i : ℕ) → op h i ≡ op g i
  pub txs : tx_count h ≡ tx_count g
  pub sessions : (t : ℕ) → (tx h t).session ≡ (tx g t).session

pub alike_back : {h g : History} → Alike h g → Alike g h
alike_back e = record { count = sym e.count; same = λ i. sym (e.same i); txs = sym e.txs; sessions = λ t. sym (e.sessions t) }

module _ {h g : History} (e : Alike h g) where
  -- a field of an operation
  field : {A : Type 0} (f : Op → A) (i : ℕ) {x : A} → f (op h i) ≡ x → f (op g i) ≡ x
  field f i q = ap f (sym (e.same i)) ∙ q

  write_in : {t x j : ℕ} → WriteIn h t x j → WriteIn g t x j
  write_in {j = j} w =
      record {
        from = w.from;
        to = omega (arith, w.to, e.count);
        is_write = field (λ o. o.is_write) j w.is_write;
        in_tx = field (λ o. o.tx) j w.in_tx;
        of_key = field (λ o. o.key) j w.of_key;
      }

  write_of : {t x v j : ℕ} → WriteOf h t x v j → WriteOf g t x v j
  write_of {j = j} w = record { in_it = write_in w.in_it; of_value = field (λ o. o.value) j w.of_value }

  is_write : {x v j : ℕ} → IsWrite h x v j → IsWrite g x v j
  is_write {j = j} w =
      record {
        is_op = record { from = w.is_op.from; to = omega (arith, w.is_op.to, e.count) };
        is_write = field (λ o. o.is_write) j w.is_write;
        of_key = field (λ o. o.key) j w.of_key;
        of_value = field (λ o. o.value) j w.of_value;
      }

  -- the write of a read's key and value
  origin_of : (i : ℕ) {t j : ℕ} → WriteOf h t (op h i).key (op h i).value j → WriteOf g t (op g i).key (op g i).value j
  origin_of i w = rw (← e.same i) (write_of w)

  key-written : (i : ℕ) {t j : ℕ} → WriteIn h t (op h i).key j → WriteIn g t (op g i).key j
  key-written i w = rw (← e.same i) (write_in w)

  own-written : (i : ℕ) {j : ℕ} → WriteIn h (op h i).tx (op h i).key j → WriteIn g (op g i).tx (op g i).key j
  own-written i w = rw (← e.same i) (write_in w)

  own_origin : (i : ℕ) {j : ℕ} → WriteOf h (op h i).tx (op h i).key (op h i).value j → WriteOf g (op g i).tx (op g i).key (op g i).value j
  own_origin i w = rw (← e.same i) (write_of w)

  other_than : (i : ℕ) {u : ℕ} → (u ≡ (op h i).tx → ⊥) → u ≡ (op g i).tx → ⊥
  other_than i d q = d (q ∙ ap (λ (o : Op). o.tx) (sym (e.same i)))

  pub reads_value : {a u : ℕ} → ReadsValueOf h a u → ReadsValueOf g a u
  reads_value v =
      let i = v.read in
      let j = v.write in
      record {
        read = i;
        is_op = record { from = v.is_op.from; to = omega (arith, v.is_op.to, e.count) };
        is_read = field (λ o. o.is_write) i v.is_read;
        in_reader = field (λ o. o.tx) i v.in_reader;
        write = j;
        is_write = rw (← e.same i) (is_write v.is_write);
        in_writer = field (λ o. o.tx) j v.in_writer;
      }

-- the value of u that a read of a judged transaction's has
pub read_of : {h : History} {u i w : ℕ} → JudgedRead h i → WriteOf h u (op h i).key (op h i).value w → ReadsValueOf h (op h i).tx u
read_of {i = i} {w} j k =
    let n = k.in_it in
    record {
      read = i;
      is_op = record { from = j.from; to = j.to };
      is_read = j.is_read;
      in_reader = refl;
      write = w;
      is_write = record { is_op = record { from = n.from; to = n.to }; is_write = n.is_write; of_key = n.of_key; of_value = k.of_value };
      in_writer = n.in_tx;
    }

-- who counts in h counts in g, and whoever of g is read in h by another that counts there does so in h too
pub record Within (h g : History) : Type 0 where
  pub alike : Alike h g
  pub counts : {t : ℕ} → Counts h t → Counts g t
  pub sources : {a u : ℕ} → Counts h a → (a ≡ u → ⊥) → ReadsValueOf h a u → Counts g u → Counts h u

module _ {h g : History} (w : Within h g) where
  e : Alike h g
  e = w.alike

  -- ── reads stay clean ──

  judged : {i : ℕ} → JudgedRead h i → JudgedRead g i
  judged {i} j =
      record {
        from = j.from;
        to = omega (arith, j.to, e.count);
        is_read = field e (λ o. o.is_write) i j.is_read;
        in_committed = rw (← e.same i) (w.counts j.in_committed);
      }

  from_other : (i : ℕ) {u v : ℕ} → FromOther h i u v → FromOther g i u v
  from_other i f = (origin_of e i f.0, other_than e i f.1, w.counts f.2)

  -- a kind that fits with fewer fits with more
  fits : {i k : ℕ} → JudgedRead h i → Fits h i k → Fits g i k
  fits {i} j (thin_air d n) = thin_air (λ q. d (ap (λ (o : Op). o.value) (e.same i) ∙ q)) (λ u v k. n u v (origin_of (alike_back e) i k))
  fits {i} j (aborted k d n) =
      aborted (origin_of e i k) (other_than e i d) (λ c. n (w.sources j.in_committed (λ q. d (sym q)) (read_of j k) c))
  fits {i} j (future k l) = future (own_origin e i k) l
  fits {i} j (not_my_last k l m a b) = not_my_last (own_origin e i k) l (own-written e i m) a b
  fits {i} j (not_my_own c b) =
      not_my_own
      (⊎_elim (λ z. inl (field e (λ o. o.value) i z)) (λ f. inr (f.0, f.1, from_other i f.2)) c)
      (b.0, own-written e i b.1, b.2)
  fits {i} j (intermediate f m l) = intermediate (from_other i f) (key-written e i m) l

  pub clean_within : AllClean g → AllClean h
  clean_within c i j k f = c i (judged j) k (fits j f)

  -- ── what the axioms speak of was there before ──

  member_within : {a : ℕ} → Member h a → Member g a
  member_within m = record { below = omega (arith, m.below, e.txs); is_in = w.counts m.is_in }

  so_within : {a b : ℕ} → SO h a b → SO g a b
  so_within (from_0 q l m) = from_0 q l (member_within m)
  so_within {a} {b} (in_session l k m n q) = in_session l k (member_within m) (member_within n) (sym (e.sessions a) ∙ q ∙ e.sessions b)

  source_within : {i t : ℕ} → Source h i t → Source g i t
  source_within {i} (initial z q) = initial (field e (λ o. o.value) i z) q
  source_within {i} (written k) = written (origin_of e i k)

  read_within : {t1 t3 x i : ℕ} → ReadFrom h t1 t3 x i → ReadFrom g t1 t3 x i
  read_within {i = i} r =
      record {
        judged = judged r.judged;
        in_tx = field e (λ o. o.tx) i r.in_tx;
        of_key = field e (λ o. o.key) i r.of_key;
        source = source_within r.source;
        other = r.other;
      }

  wr_within : {a b : ℕ} → WR h a b → WR g a b
  wr_within r = record { key = r.key; by = r.by; reads = read_within r.reads }

  sowr_within : {a b : ℕ} → SoWr h a b → SoWr g a b
  sowr_within = ⊎_elim (λ s. inl (so_within s)) (λ r. inr (wr_within r))

  causal_within : {a b : ℕ} → Causal h a b → Causal g a b
  causal_within (one s) = one (sowr_within s)
  causal_within (more s p) = more (sowr_within s) (causal_within p)

  writes_within : {t x : ℕ} → Writes h t x → Writes g t x
  writes_within (initially q) = initially q
  writes_within (later m) = later (write_in e m)

  sees_within : {t2 t3 i level : ℕ} → Sees h t2 t3 i level → Sees g t2 t3 i level
  sees_within (earlier r l) = earlier (read_within r) l
  sees_within (direct s) = direct (sowr_within s)
  sees_within (causal p) = causal (causal_within p)

  -- so a commit order of more, kept to those that count, is one of fewer
  module _ (ok : LawfulHistory h) (clean : AllClean g) {level : ℕ} (o : HasOrder g level) where
    kept : ℕ → ℕ → Bool
    kept a b = o.0 a b and (committed h a and committed h b)

    keeps : {a b : ℕ} → Member h a → Member h b → ByTest o.0 a b → ByTest kept a b
    unfolding kept
    keeps m n t = both _ _ t (both _ _ (in_members ok m) (in_members ok n))

    kept_in : {a b : ℕ} → ByTest kept a b → ByTest o.0 a b × Member h a × Member h b
    unfolding kept
    kept_in t = let m = and_right _ _ t in (and_left _ _ t, member ok (and_left _ _ m), member ok (and_right _ _ m))

    read_members : {t1 t3 x i : ℕ} → ReadFrom h t1 t3 x i → Member h t1 × Member h t3
    read_members {i = i} r = (source_member ok r (clean_within clean i r.judged), reader_member ok r)

    pub order_within : HasOrder h level
    order_within = (
      kept,
      record {
        order =
            record {
              members = λ a b t. ((kept_in t).1, (kept_in t).2);
              never = λ a t. o.1.order.never a (kept_in t).0;
              on = λ a b c s t. keeps (kept_in s).1 (kept_in t).2 (o.1.order.on a b c (kept_in s).0 (kept_in t).0);
              either =
                  λ a b m n d.
                  ⊎_elim (λ t. inl (keeps m n t)) (λ t. inr (keeps n m t)) (o.1.order.either a b (member_within m) (member_within n) d);
            };
        obeys =
            record {
              holds_so = λ a b s. let m = so_members s in keeps m.0 m.1 (o.1.obeys.holds_so a b (so_within s));
              holds_wr = λ a b r. let m = read_members r.reads in keeps m.0 m.1 (o.1.obeys.holds_wr a b (wr_within r));
              published =
                  λ t1 t2 t3 x i d r m v s.
                  keeps m (read_members r).0
                  (o.1.obeys.published t1 t2 t3 x i d (read_within r) (member_within m) (writes_within v) (sees_within s));
            };
      },
    )
