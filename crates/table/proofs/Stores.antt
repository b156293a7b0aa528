-- What the stores make of the history.
use Prim.Native.Nat.{ℕ, zero, suc, ◌+◌, ◌-◌, ◌*◌, ◌/◌, ◌%◌, ◌≤◌, ◌<◌}
use mathlib.Core.Path.{◌≡◌, refl, ap, sym, ◌∙◌}
use mathlib.Core.Bool.{Bool, true, false}
use mathlib.Core.List.{List, [], ◌∷◌, ◌++◌}
use mathlib.Core.Logic.{⊎_elim}
use native.Mathlib.Omega.{arith}
use borrow.Author.Rules.{rules}
use native.Mathlib.Decide.{ℕ_discrete}
use lib.ListN.{length, get_or, set, replicate, length-append, length-set}
use borrow.Rule.Slice.PartMut.{put_mid}
use Rattle.std.proofs.lemmas.List.{places, ext_get_or}
use lib.Seq.{get_or-set_same, get_or-set_other}
use lib.Dec.{eqb}
use borrow.Author.Tests.{eq-eqb, ne_eqb, eqb-true, eqb-false}
use Rattle.base.specs.Base.{pick, numbered}
use Rattle.base.proofs.Tests.{clash, ifso, split, and_left, and_right, and_on, pick_on, pick_off}
use Rattle.base.proofs.Chains.{last_less}
use Rattle.base.proofs.Numbered.{numbered-length, numbered-same, numbered_more}
use Rattle.rules.specs.History.{History, Tx, Op, tx, op, tx_count, op_count, empty, opened, closed, with_op}
use Rattle.table.specs.Table.{table_words, tx_at, op_at, op_of, history_of, last_at, prev_at, head_at, link_at, marked, of_tx, last_below, last_of, prev_of, bucket_of, in_bucket, head_of, link_of, Held, HasTx, HoldsHistory, Becomes, no_heads, cleared, put_tx, close_tx, mark_tx, put_words, put_read, put_write, put_op}
use Rattle.rules.proofs.History.{with_op_old, with_op-new}
use Rattle.table.proofs.Grown.{retold, retold-op, retold-last, retold_prev, retold_head, retold_link, last_of_none, by_tx, by_bucket, bucket_low, with_op-last, with_op_prev}
use Rattle.table.proofs.Words.{tx-count, op-count, tx-is, last_small}

-- ── a table that holds x, from its parts ──

-- the numbers that g keeps are those of x
record KeepsRest (g : List ℕ) (x : History) : Type 0 where
  room : length g ≡ table_words
  txs : (history_of g).txs ≡ x.txs
  ops : (history_of g).ops ≡ x.ops
  most : op_count x ≤ 1024
  txs_in : (i : ℕ) → 1 ≤ i → i ≤ op_count x → (1 ≤ (op x i).tx) × ((op x i).tx ≤ tx_count x)
  lasts : (t : ℕ) → 1 ≤ t → t ≤ tx_count x → last_at g t ≡ last_of x t
  prevs : (i : ℕ) → 1 ≤ i → i ≤ op_count x → prev_at g i ≡ prev_of x i
  heads : (b : ℕ) → b < 128 → head_at g b ≡ head_of x b
  links : (i : ℕ) → 1 ≤ i → i ≤ op_count x → (op x i).is_write ≡ true → link_at g i ≡ link_of x i

holds : {g : List ℕ} {x : History} → KeepsRest g x → HoldsHistory g x
holds {g} {x} k =
    let e : history_of g ≡ x = joined (history_of g) x k.txs k.ops in
    record {
      held =
          record {
            room = k.room;
            few = omega (arith, tx-count g);
            most = rw e k.most;
            txs_in = rw e k.txs_in;
            lasts = rw e k.lasts;
            prevs = rw e k.prevs;
            heads = rw e k.heads;
            links = rw e k.links;
          };
      is = e;
    }
  where
    joined : (a b : History) → a.txs ≡ b.txs → a.ops ≡ b.ops → a ≡ b
    joined a b p q = λ i. record { txs = p i; ops = q i }

-- where an operation's first word stays, so do the numbers that are kept with it
word_stays : (h g : List ℕ) (i : ℕ) → get_or g (128 + 2 * i) 0 ≡ get_or h (128 + 2 * i) 0 → (prev_at g i ≡ prev_at h i) × (link_at g i ≡ link_at h i)
unfolding prev_at link_at
word_stays h g i e = (rw e, rw e)

-- where the words from the first operation's on stay, so does all that they say
record Behind (h g : List ℕ) : Type 0 where
  count : get_or g 0 0 / 128 ≡ get_or h 0 0 / 128
  same : (k : ℕ) → 130 ≤ k → get_or g k 0 ≡ get_or h k 0

module _ {h g : List ℕ} (w : Behind h g) where
  ops_kept : (history_of g).ops ≡ (history_of h).ops
  unfolding history_of op_at
  ops_kept = rw w.count (numbered-same _ (op_at g) (op_at h) (λ i a b. rw (w.same (128 + 2 * i) (omega arith), w.same (129 + 2 * i) (omega arith))))

  numbers_kept : (i : ℕ) → 1 ≤ i → (prev_at g i ≡ prev_at h i) × (link_at g i ≡ link_at h i)
  numbers_kept i a = word_stays h g i (w.same (128 + 2 * i) (omega arith))

  heads_kept : (b : ℕ) → head_at g b ≡ head_at h b
  unfolding head_at
  heads_kept b = w.same (2178 + b) (omega arith)

  -- .. so that g holds other transactions, a, where it has their words
  retold-holds : (a : List Tx) → Held h → length g ≡ length h → (history_of g).txs ≡ a
      → ((i : ℕ) → 1 ≤ i → i ≤ op_count (history_of h) → (1 ≤ (op (history_of h) i).tx) × ((op (history_of h) i).tx ≤ length a))
      → ((t : ℕ) → 1 ≤ t → t ≤ length a → last_at g t ≡ last_of (history_of h) t) → HoldsHistory g (retold (history_of h) a)
  retold-holds a p r txs txs_in lasts =
      holds (record {
        room = r ∙ p.room;
        txs = txs;
        ops = ops_kept;
        most = p.most;
        txs_in = λ i m n. rw (retold-op (history_of h) a i) (txs_in i m n);
        lasts = λ t m n. lasts t m n ∙ sym (retold-last (history_of h) a t);
        prevs = λ i m n. (numbers_kept i m).0 ∙ p.prevs i m n ∙ sym (retold_prev (history_of h) a i);
        heads = λ b l. heads_kept b ∙ p.heads b l ∙ sym (retold_head (history_of h) a b);
        links = λ i m n t. (numbers_kept i m).1 ∙ p.links i m n (rw (retold-op (history_of h) a i) at t) ∙ sym (retold_link (history_of h) a i);
      })

-- ── nothing ──

-- the buckets without a write; the other words
no_heads_length : (n : ℕ) (h : List ℕ) → length (no_heads n h) ≡ length h
unfolding no_heads
no_heads_length zero h = refl
no_heads_length (suc n) h = length-set (no_heads n h) (2178 + n) 0 ∙ no_heads_length n h

no_heads_low : (n : ℕ) (h : List ℕ) (k : ℕ) → k < 2178 → get_or (no_heads n h) k 0 ≡ get_or h k 0
unfolding no_heads
no_heads_low zero h k l = refl
no_heads_low (suc n) h k l = get_or-set_other (no_heads n h) (2178 + n) k 0 0 (λ q. omega arith) ∙ no_heads_low n h k l

no_heads_at : (n : ℕ) (h : List ℕ) (b : ℕ) → b < n → 2178 + n ≤ length h → get_or (no_heads n h) (2178 + b) 0 ≡ 0
unfolding no_heads
no_heads_at zero h b l r = absurd (omega arith)
no_heads_at (suc n) h b l r =
    ⊎_elim (λ m. get_or-set_other (no_heads n h) (2178 + n) (2178 + b) 0 0 (λ q. omega arith) ∙ no_heads_at n h b m (omega arith))
    (λ m. let e : b ≡ n = omega arith in rw e (get_or-set_same (no_heads n h) (2178 + n) 0 0 (omega (arith, no_heads_length n h))))
    (split b n)

cleared-holds : (h : List ℕ) → length h ≡ table_words → HoldsHistory (cleared h) empty
unfolding cleared history_of numbered head_at head_of
cleared-holds h r =
    let g = set h 0 0 in
    let z : get_or (no_heads 128 g) 0 0 ≡ 0 = no_heads_low 128 g 0 (omega arith) ∙ get_or-set_same h 0 0 0 (omega arith) in
    holds (record {
      room = no_heads_length 128 g ∙ length-set h 0 0 ∙ r;
      txs = rw z refl;
      ops = rw z refl;
      most = omega arith;
      txs_in = λ i a b. absurd (omega arith);
      lasts = λ t a b. absurd (omega arith);
      prevs = λ i a b. absurd (omega arith);
      heads = λ b l. no_heads_at 128 g b l (omega (arith, length-set h 0 0)) ∙ omega (arith, last_less (in_bucket empty b) 1 (omega arith));
      links = λ i a b t. absurd (omega arith);
    })

no_heads_high : (n : ℕ) (h : List ℕ) (k : ℕ) → 2178 + n ≤ k → get_or (no_heads n h) k 0 ≡ get_or h k 0
unfolding no_heads
no_heads_high zero h k l = refl
no_heads_high (suc n) h k l = get_or-set_other (no_heads n h) (2178 + n) k 0 0 (λ q. omega arith) ∙ no_heads_high n h k (omega arith)

-- g is h but for n zeros from m on: h filled there at once
filled : (m n : ℕ) (h g : List ℕ) → m + n ≤ length h → length g ≡ length h → ((k : ℕ) → k < m → get_or g k 0 ≡ get_or h k 0)
    → ((b : ℕ) → b < n → get_or g (m + b) 0 ≡ 0) → ((k : ℕ) → m + n ≤ k → get_or g k 0 ≡ get_or h k 0) → put_mid m n h (replicate n 0) ≡ g
filled m n h g r e low zeros high =
    ext_get_or 0 _ _ (search (rules, places))
    (λ k q.
    ⊎_elim (λ (a : k < m). rw (low k a) (grind (arith, places)))
    (λ (a : m ≤ k).
    ⊎_elim (λ (b : k < m + n). let o : m + (k - m) ≡ k = omega arith in rw (rw o at (zeros (k - m) (omega arith))) (grind (arith, places)))
    (λ (b : m + n ≤ k). rw (high k b) (grind (arith, places)))
    (split k (m + n)))
    (split k m))

-- the buckets' words filled with zeros
pub cleared_becomes : (h l : List ℕ) (n : ℕ) → length h ≡ table_words → n ≡ 128 → l ≡ replicate n 0 → Becomes (put_mid 2178 128 (set h 0 0) l) (cleared h) empty
unfolding cleared
cleared_becomes h l n r m e =
    let g = set h 0 0 in
    let f : put_mid 2178 128 g l ≡ no_heads 128 g =
    rw (rw m at e)
    (filled 2178 128 g (no_heads 128 g) (omega (arith, length-set h 0 0)) (no_heads_length 128 g) (no_heads_low 128 g)
    (λ b q. no_heads_at 128 g b q (omega (arith, length-set h 0 0))) (no_heads_high 128 g))
    in
    record { is = f; holds = rw f (cleared-holds h r) }

-- ── a transaction opens ──

module _ (h : List ℕ) (p : Held h) (s : ℕ) (small : s < 65536) (few : tx_count (history_of h) < 127) where
  abbrev open_tx : ℕ
  open_tx = get_or h 0 0 % 128 + 1

  abbrev open_set : List ℕ
  open_set = set h open_tx (4 * s + 3)

  abbrev open_end : List ℕ
  open_end = set open_set 0 (get_or h 0 0 + 1)

  open_count_lem : get_or open_end 0 0 ≡ get_or h 0 0 + 1
  open_count_lem = get_or-set_same open_set 0 (get_or h 0 0 + 1) 0 (simp length-set (omega (arith, p.room)))

  open_word : get_or open_end open_tx 0 ≡ 4 * s + 3
  open_word = get_or-set_other open_set 0 open_tx _ 0 (λ q. omega arith) ∙ get_or-set_same h open_tx _ 0 (omega (arith, tx-count h, p.room))

  open_other : (k : ℕ) → 1 ≤ k → (k ≡ open_tx → ⊥) → get_or open_end k 0 ≡ get_or h k 0
  open_other k a b = get_or-set_other open_set 0 k _ 0 (λ q. omega arith) ∙ get_or-set_other h open_tx k _ 0 b

  open_behind : Behind h open_end
  open_behind = record { count = omega (arith, open_count_lem, tx-count h); same = λ k a. open_other k (omega arith) (λ q. omega (arith, tx-count h)) }

  open_txs : (history_of open_end).txs ≡ (history_of h).txs ++ (record { session = s; status = 3 } ∷ [])
  unfolding history_of tx_at
  open_txs =
      let c : get_or open_end 0 0 % 128 ≡ get_or h 0 0 % 128 + 1 = omega (arith, open_count_lem, tx-count h) in
      let d : (4 * s + 3) / 4 % 65536 ≡ s = omega arith in
      let r : (4 * s + 3) % 4 ≡ 3 = omega arith in
      rw c (numbered_more (get_or h 0 0 % 128) (tx_at open_end) (tx_at h) (record { session = s; status = 3 }) (λ k a b. rw (open_other k a (λ q. omega arith))) (rw (open_word, d, r)))

  -- the new transaction has no operation: those that are there have others
  open_lasts : (k : ℕ) → 1 ≤ k → k ≤ tx_count (history_of h) + 1 → last_at open_end k ≡ last_of (history_of h) k
  unfolding last_at
  open_lasts k a b =
      ⊎_elim (λ l. rw (open_other k a (λ q. omega (arith, tx-count h))) (p.lasts k a (omega arith)))
      (λ l.
      let e : k ≡ open_tx = omega (arith, tx-count h) in
      let d : (4 * s + 3) / 262144 % 2048 ≡ 0 = omega arith in
      rw (e, open_word, d) (sym (last_of_none (history_of h) open_tx (λ i u v q. omega (arith, q, (p.txs_in i u v).1, tx-count h)))))
      (split k (tx_count (history_of h) + 1))

  pub put-tx-holds : HoldsHistory (put_tx h s) (opened (history_of h) s)
  unfolding put_tx opened
  put-tx-holds =
      let n = length-append (history_of h).txs (record { session = s; status = 3 } ∷ []) in
      retold-holds open_behind _ p (simp length-set refl) open_txs (λ i a b. let r = p.txs_in i a b in (r.0, omega (arith, r.1, n))) (λ k a b. open_lasts k a (omega (arith, n)))

-- ── a transaction closes ──

module _ (h : List ℕ) (t x : ℕ) (p : HasTx h t) (small : x < 4) where
  abbrev close_end : List ℕ
  close_end = set h t (4 * (get_or h t 0 / 4) + x)

  close_word : get_or close_end t 0 ≡ 4 * (get_or h t 0 / 4) + x
  close_word = get_or-set_same h t _ 0 (omega (arith, p.to, p.held.few, p.held.room))

  close_other : (k : ℕ) → (k ≡ t → ⊥) → get_or close_end k 0 ≡ get_or h k 0
  close_other k b = get_or-set_other h t k _ 0 b

  close_count : get_or close_end 0 0 ≡ get_or h 0 0
  close_count = close_other 0 (λ q. omega (arith, p.from))

  close_behind : Behind h close_end
  close_behind = record { count = ap (λ (n : ℕ). n / 128) close_count; same = λ k a. close_other k (λ q. omega (arith, p.to, p.held.few)) }

  close_tx_lem : (k : ℕ) → Dec (k ≡ t) → 1 ≤ k → k ≤ tx_count (history_of h)
      → tx_at close_end k ≡ pick (eqb k t) (record { session = (tx (history_of h) k).session; status = x }) (tx (history_of h) k)
  unfolding tx_at pick
  close_tx_lem k (yes q) a b =
      let d : (4 * (get_or h t 0 / 4) + x) / 4 ≡ get_or h t 0 / 4 = omega arith in
      let r : (4 * (get_or h t 0 / 4) + x) % 4 ≡ x = omega arith in
      rw (tx-is h k (record { held = p.held; from = a; to = b }), eq-eqb k t q, q, close_word, d, r)
  close_tx_lem k (no q) a b = rw (tx-is h k (record { held = p.held; from = a; to = b }), ne_eqb k t q, close_other k q)

  close_txs : (history_of close_end).txs ≡ (closed (history_of h) t x).txs
  unfolding history_of closed
  close_txs = rw (tx-count h, close_count) (numbered-same (get_or h 0 0 % 128) (tx_at close_end) _ (λ k a b. close_tx_lem k (ℕ_discrete k t) a (omega (arith, tx-count h))))

  close_lasts : (k : ℕ) → Dec (k ≡ t) → last_at close_end k ≡ last_at h k
  unfolding last_at
  close_lasts k (yes q) = let d : (4 * (get_or h t 0 / 4) + x) / 262144 ≡ get_or h t 0 / 262144 = omega arith in rw (q, close_word, d)
  close_lasts k (no q) = rw (close_other k q)

  close_few : tx_count (closed (history_of h) t x) ≡ tx_count (history_of h)
  unfolding closed
  close_few = numbered-length (tx_count (history_of h)) _

  pub close_tx-holds : HoldsHistory (close_tx h t x) (closed (history_of h) t x)
  unfolding close_tx closed
  close_tx-holds =
      retold-holds close_behind _ p.held (length-set h t _) close_txs (λ i a b. rw close_few (p.held.txs_in i a b))
      (λ k a b. close_lasts k (ℕ_discrete k t) ∙ p.held.lasts k a (rw close_few at b))

-- ── a transaction is marked ──

module _ (h : List ℕ) (t c : ℕ) (p : HasTx h t) (small : c < 2) where
  abbrev mark_end : List ℕ
  mark_end = set h t (get_or h t 0 % 536870912 + 536870912 * c)

  pub mark_word : get_or mark_end t 0 ≡ get_or h t 0 % 536870912 + 536870912 * c
  mark_word = get_or-set_same h t _ 0 (omega (arith, p.to, p.held.few, p.held.room))

  pub mark_elsewhere : (k : ℕ) → (k ≡ t → ⊥) → get_or mark_end k 0 ≡ get_or h k 0
  mark_elsewhere k b = get_or-set_other h t k _ 0 b

  mark-count : get_or mark_end 0 0 ≡ get_or h 0 0
  mark-count = mark_elsewhere 0 (λ q. omega (arith, p.from))

  mark-behind : Behind h mark_end
  mark-behind = record { count = ap (λ (n : ℕ). n / 128) mark-count; same = λ k a. mark_elsewhere k (λ q. omega (arith, p.to, p.held.few)) }

  mark-tx : (k : ℕ) → Dec (k ≡ t) → tx_at mark_end k ≡ tx_at h k
  unfolding tx_at
  mark-tx k (yes q) =
      let d : (get_or h t 0 % 536870912 + 536870912 * c) / 4 % 65536 ≡ get_or h t 0 / 4 % 65536 = omega arith in
      let r : (get_or h t 0 % 536870912 + 536870912 * c) % 4 ≡ get_or h t 0 % 4 = omega arith in
      rw (q, mark_word, d, r)
  mark-tx k (no q) = rw (mark_elsewhere k q)

  mark_txs : (history_of mark_end).txs ≡ (history_of h).txs
  unfolding history_of
  mark_txs = rw mark-count (numbered-same (get_or h 0 0 % 128) (tx_at mark_end) (tx_at h) (λ k a b. mark-tx k (ℕ_discrete k t)))

  mark_lasts : (k : ℕ) → Dec (k ≡ t) → last_at mark_end k ≡ last_at h k
  unfolding last_at
  mark_lasts k (yes q) =
      let d : (get_or h t 0 % 536870912 + 536870912 * c) / 262144 % 2048 ≡ get_or h t 0 / 262144 % 2048 = omega arith in
      rw (q, mark_word, d)
  mark_lasts k (no q) = rw (mark_elsewhere k q)

  -- the history stays
  pub mark-holds : HoldsHistory (mark_tx h t c) (history_of h)
  unfolding mark_tx
  mark-holds =
      retold-holds mark-behind (history_of h).txs p.held (length-set h t _) mark_txs p.held.txs_in
      (λ k a b. mark_lasts k (ℕ_discrete k t) ∙ p.held.lasts k a b)

  -- t has the mark from now on, or has it no more; the others' stay
  pub mark_this : marked (mark_tx h t c) t ≡ eqb c 1
  unfolding mark_tx marked
  mark_this =
      let d : (get_or h t 0 % 536870912 + 536870912 * c) / 536870912 % 2 ≡ c = omega arith in
      rw (mark_word, d)

  pub mark-other : (k : ℕ) → (k ≡ t → ⊥) → marked (mark_tx h t c) k ≡ marked h k
  unfolding mark_tx marked
  mark-other k d = rw (mark_elsewhere k d)

-- ── one operation more ──

-- a write's word has 128 more than a read's
flag : (b : Bool) → (pick b 128 0 ≡ 128 * pick b 1 0) × (pick b 1 0 ≤ 1) × (eqb (pick b 1 0) 1 ≡ b)
unfolding pick
flag true = (refl, omega arith, refl)
flag false = (refl, omega arith, refl)

-- the fields of an operation's first word, whatever number q is kept above them
fields_say : (t n k v q : ℕ) → t < 128 → n ≤ 1 → k < 17179869184
    → op_of (t + 128 * n + 256 * k + 4398046511104 * q) v ≡ record { tx = t; is_write = eqb n 1; key = k; value = v }
unfolding op_of
fields_say t n k v q l f m =
    let a : (t + 128 * n + 256 * k + 4398046511104 * q) % 128 ≡ t = omega arith in
    let d : (t + 128 * n + 256 * k + 4398046511104 * q) / 128 ≡ 2 * (k + 17179869184 * q) + n = omega arith in
    let b : (2 * (k + 17179869184 * q) + n) % 2 ≡ n = omega arith in
    let e : (t + 128 * n + 256 * k + 4398046511104 * q) / 256 ≡ k + 17179869184 * q = omega arith in
    let c : (k + 17179869184 * q) % 17179869184 ≡ k = omega arith in
    rw (a, d, b, e, c)

word_says : (t k v q : ℕ) (b : Bool) → t < 128 → k < 17179869184 → op_of (t + pick b 128 0 + 256 * k + 4398046511104 * q) v ≡ record { tx = t; is_write = b; key = k; value = v }
word_says t k v q b l m =
    let f = flag b in
    rw f.0 (fields_say t (pick b 1 0) k v q l f.1 m ∙ λ i. record { tx = t; is_write = f.2 i; key = k; value = v })

-- .. and the two numbers that are
word_keeps : (t k q l : ℕ) (b : Bool) → t < 128 → k < 17179869184 → q < 2048
    → ((t + pick b 128 0 + 256 * k + 4398046511104 * (q + 2048 * l)) / 4398046511104 % 2048 ≡ q)
    × ((t + pick b 128 0 + 256 * k + 4398046511104 * (q + 2048 * l)) / 9007199254740992 ≡ l)
word_keeps t k q l b m n s =
    let a : (t + pick b 128 0 + 256 * k + 4398046511104 * (q + 2048 * l)) / 4398046511104 ≡ q + 2048 * l = omega (arith, (flag b).0, (flag b).1) in
    (rw a (omega arith), omega (arith, (flag b).0, (flag b).1))

-- the number of the next operation
abbrev next_op : List ℕ → ℕ
next_op h = get_or h 0 0 / 128 + 1

-- the table g has the words of one operation more, o, with which the number q of a write is kept. Of the buckets' words nothing is said
record Entered (h : List ℕ) (o : Op) (q : ℕ) (g : List ℕ) : Type 0 where
  room : length g ≡ length h
  count : get_or g 0 0 ≡ get_or h 0 0 + 128
  word : get_or g o.tx 0 ≡ get_or h o.tx 0 % 262144 + 262144 * next_op h
  word_1 : get_or g (128 + 2 * next_op h) 0 ≡ o.tx + pick o.is_write 128 0 + 256 * o.key + 4398046511104 * (get_or h o.tx 0 / 262144 % 2048 + 2048 * q)
  word_2 : get_or g (129 + 2 * next_op h) 0 ≡ o.value
  other : (k : ℕ) → 1 ≤ k → k < 2178 → (k ≡ o.tx → ⊥) → (k ≡ 128 + 2 * next_op h → ⊥) → (k ≡ 129 + 2 * next_op h → ⊥) → get_or g k 0 ≡ get_or h k 0

module _ (h : List ℕ) (o : Op) (p : HasTx h o.tx) (small : o.key < 17179869184) (more : op_count (history_of h) < 1024) where
  abbrev put-op : ℕ
  put-op = next_op h

  abbrev put-tx : ℕ
  put-tx = get_or h o.tx 0

  put_low : o.tx < 128
  put_low = omega (arith, p.to, p.held.few)

  put_in : 129 + 2 * put-op < 2178
  put_in = omega (arith, op-count h)

  -- what the four stores do
  module _ (w q : ℕ) (is : w ≡ o.tx + pick o.is_write 128 0 + 256 * o.key + 9007199254740992 * q) where
    abbrev put_1 : List ℕ
    put_1 = set h (128 + 2 * put-op) (w + 4398046511104 * (put-tx / 262144 % 2048))

    abbrev put_2 : List ℕ
    put_2 = set put_1 (129 + 2 * put-op) o.value

    abbrev put_3 : List ℕ
    put_3 = set put_2 o.tx (put-tx % 262144 + 262144 * put-op)

    abbrev put_end : List ℕ
    put_end = set put_3 0 (get_or h 0 0 + 128)

    put_other : (k : ℕ) → 1 ≤ k → (k ≡ o.tx → ⊥) → (k ≡ 128 + 2 * put-op → ⊥) → (k ≡ 129 + 2 * put-op → ⊥) → get_or put_end k 0 ≡ get_or h k 0
    put_other k a b c d =
        get_or-set_other put_3 0 k _ 0 (λ q. omega arith) ∙ get_or-set_other put_2 o.tx k _ 0 b ∙ get_or-set_other put_1 _ k _ 0 d ∙ get_or-set_other h _ k _ 0 c

    words-entered : Entered h o q (put_words h o.tx w o.value)
    unfolding put_words
    words-entered =
        record {
          room = simp length-set refl;
          count = get_or-set_same put_3 0 (get_or h 0 0 + 128) 0 (simp length-set (omega (arith, p.held.room)));
          word =
              get_or-set_other put_3 0 o.tx _ 0 (λ q. omega (arith, p.from))
              ∙ get_or-set_same put_2 o.tx _ 0 (simp length-set (omega (arith, put_low, p.held.room)));
          word_1 =
              get_or-set_other put_3 0 _ _ 0 (λ q. omega arith) ∙ get_or-set_other put_2 o.tx _ _ 0 (λ q. omega (arith, put_low)) ∙ get_or-set_other put_1 _ _ _ 0 (λ q. omega arith)
              ∙ get_or-set_same h _ _ 0 (omega (arith, put_in, p.held.room)) ∙ omega (arith, is);
          word_2 =
              get_or-set_other put_3 0 _ _ 0 (λ q. omega arith) ∙ get_or-set_other put_2 o.tx _ _ 0 (λ q. omega (arith, put_low))
              ∙ get_or-set_same put_1 _ o.value 0 (simp length-set (omega (arith, put_in, p.held.room)));
          other = λ k a l. put_other k a;
        }

    words_heads : (b : ℕ) → head_at (put_words h o.tx w o.value) b ≡ head_at h b
    unfolding put_words head_at
    words_heads b = put_other (2178 + b) (omega arith) (λ q. omega (arith, put_low)) (λ q. omega (arith, put_in)) (λ q. omega (arith, put_in))

  -- a store into a bucket's word leaves them
  head_entered : {q : ℕ} {g : List ℕ} (b v : ℕ) → Entered h o q g → Entered h o q (set g (2178 + b) v)
  head_entered {q} {g} b v e =
      record {
        room = length-set g _ v ∙ e.room;
        count = get_or-set_other g _ _ v 0 (λ q. omega arith) ∙ e.count;
        word = get_or-set_other g _ _ v 0 (λ q. omega (arith, put_low)) ∙ e.word;
        word_1 = get_or-set_other g _ _ v 0 (λ q. omega (arith, put_in)) ∙ e.word_1;
        word_2 = get_or-set_other g _ _ v 0 (λ q. omega (arith, put_in)) ∙ e.word_2;
        other = λ k a l b c d. get_or-set_other g _ k v 0 (λ q. omega arith) ∙ e.other k a l b c d;
      }

  -- what such a table holds
  module _ (q : ℕ) (g : List ℕ) (e : Entered h o q g) where
    put-low_word : (k : ℕ) → 1 ≤ k → k < 128 → (k ≡ o.tx → ⊥) → get_or g k 0 ≡ get_or h k 0
    put-low_word k a b c = e.other k a (omega arith) c (λ q. omega arith) (λ q. omega arith)

    put_old_word : (i : ℕ) → 1 ≤ i → i < put-op → (get_or g (128 + 2 * i) 0 ≡ get_or h (128 + 2 * i) 0) × (get_or g (129 + 2 * i) 0 ≡ get_or h (129 + 2 * i) 0)
    put_old_word i a b = (
      e.other (128 + 2 * i) (omega arith) (omega (arith, put_in)) (λ q. omega (arith, put_low)) (λ q. omega arith) (λ q. omega arith),
      e.other (129 + 2 * i) (omega arith) (omega (arith, put_in)) (λ q. omega (arith, put_low)) (λ q. omega arith) (λ q. omega arith),
    )

    put_txs_at : (k : ℕ) → Dec (k ≡ o.tx) → 1 ≤ k → k < 128 → tx_at g k ≡ tx_at h k
    unfolding tx_at
    put_txs_at k (yes q) a b =
        let d : (put-tx % 262144 + 262144 * put-op) / 4 % 65536 ≡ put-tx / 4 % 65536 = omega arith in
        let r : (put-tx % 262144 + 262144 * put-op) % 4 ≡ put-tx % 4 = omega arith in
        rw (q, e.word, d, r)
    put_txs_at k (no q) a b = rw (put-low_word k a b q)

    put_txs : (history_of g).txs ≡ (history_of h).txs
    unfolding history_of
    put_txs =
        let c : get_or g 0 0 % 128 ≡ get_or h 0 0 % 128 = omega (arith, e.count) in
        rw c (numbered-same _ (tx_at g) (tx_at h) (λ k a b. put_txs_at k (ℕ_discrete k o.tx) a (omega arith)))

    put_ops : (history_of g).ops ≡ (history_of h).ops ++ (o ∷ [])
    unfolding history_of op_at
    put_ops =
        let c : get_or g 0 0 / 128 ≡ get_or h 0 0 / 128 + 1 = omega (arith, e.count) in
        rw c
        (numbered_more (get_or h 0 0 / 128) (op_at g) (op_at h) o (λ i a b. rw ((put_old_word i a (omega arith)).0, (put_old_word i a (omega arith)).1))
        (rw (e.word_1, e.word_2) (word_says o.tx o.key o.value (put-tx / 262144 % 2048 + 2048 * q) o.is_write put_low small)))

    put_old_numbers : (i : ℕ) → 1 ≤ i → i ≤ op_count (history_of h) → (prev_at g i ≡ prev_at h i) × (link_at g i ≡ link_at h i)
    put_old_numbers i a b = word_stays h g i (put_old_word i a (omega (arith, op-count h))).0

    put_keeps : (prev_at g put-op ≡ last_at h o.tx) × (link_at g put-op ≡ q)
    unfolding prev_at link_at last_at
    put_keeps = rw e.word_1 (word_keeps o.tx o.key (put-tx / 262144 % 2048) q o.is_write put_low small (omega (arith, last_small h o.tx p)))

    put_lasts : (k : ℕ) → 1 ≤ k → k ≤ tx_count (history_of h) → last_at g k ≡ last_of (with_op (history_of h) o) k
    unfolding last_at last_of last_below of_tx
    put_lasts k a b =
        with_op-last (history_of h) o (by_tx k) (p.held.lasts k a b)
        (λ t.
        let c : k ≡ o.tx = sym (eqb-true o.tx k t) in
        let d : (put-tx % 262144 + 262144 * put-op) / 262144 % 2048 ≡ put-op = omega (arith, op-count h) in
        rw (c, e.word, d) (omega (arith, op-count h)))
        (λ t. rw (put-low_word k a (omega (arith, p.held.few)) (λ c. eqb-false o.tx k t (sym c))))

    put_prevs : (i : ℕ) → 1 ≤ i → i ≤ op_count (history_of h) + 1 → prev_at g i ≡ prev_of (with_op (history_of h) o) i
    unfolding prev_of last_of last_below of_tx
    put_prevs i a b =
        with_op_prev (history_of h) o (λ x. by_tx x.tx) i b (λ l. (put_old_numbers i a l).0 ∙ p.held.prevs i a l)
        (λ l. let c : i ≡ put-op = l ∙ omega (arith, op-count h) in rw c put_keeps.0 ∙ p.held.lasts o.tx p.from p.to)

    put-tx_in : (i : ℕ) → 1 ≤ i → i ≤ op_count (history_of h) + 1 → (1 ≤ (op (with_op (history_of h) o) i).tx) × ((op (with_op (history_of h) o) i).tx ≤ tx_count (history_of h))
    put-tx_in i a b =
        ⊎_elim (λ l. rw (with_op_old (history_of h) o i (omega arith)) (p.held.txs_in i a (omega arith)))
        (λ l. let e : i ≡ op_count (history_of h) + 1 = omega arith in rw (e, with_op-new (history_of h) o) (p.from, p.to))
        (split i (op_count (history_of h) + 1))

    module _ (link : o.is_write ≡ true → q ≡ head_at h (bucket_of o.key o.value))
        (hit : (b : ℕ) → by_bucket b o ≡ true → head_at g b ≡ put-op) (miss : (b : ℕ) → by_bucket b o ≡ false → head_at g b ≡ head_at h b) where
      put_heads : (b : ℕ) → b < 128 → head_at g b ≡ head_of (with_op (history_of h) o) b
      unfolding head_of in_bucket
      put_heads b l = with_op-last (history_of h) o (by_bucket b) (p.held.heads b l) (λ t. hit b t ∙ omega (arith, op-count h)) (miss b)

      put_links : (i : ℕ) → 1 ≤ i → i ≤ op_count (history_of h) + 1 → (op (with_op (history_of h) o) i).is_write ≡ true → link_at g i ≡ link_of (with_op (history_of h) o) i
      unfolding link_of head_of in_bucket
      put_links i a b t =
          with_op_prev (history_of h) o (λ x. by_bucket (bucket_of x.key x.value)) i b
          (λ l. (put_old_numbers i a l).1 ∙ p.held.links i a l (sym (ap (λ (x : Op). x.is_write) (with_op_old (history_of h) o i l)) ∙ t))
          (λ l.
          let c : i ≡ put-op = l ∙ omega (arith, op-count h) in
          rw c put_keeps.1 ∙ link (sym (ap (λ (x : Op). x.is_write) (with_op-new (history_of h) o)) ∙ rw l at t) ∙ p.held.heads _ (bucket_low o.key o.value))

      entered-holds : HoldsHistory g (with_op (history_of h) o)
      unfolding with_op
      entered-holds =
          let n = length-append (history_of h).ops (o ∷ []) in
          holds (record {
            room = e.room ∙ p.held.room;
            txs = put_txs;
            ops = put_ops;
            most = omega (arith, n);
            txs_in = λ i a b. put-tx_in i a (omega (arith, n));
            lasts = put_lasts;
            prevs = λ i a b. put_prevs i a (omega (arith, n));
            heads = put_heads;
            links = λ i a b. put_links i a (omega (arith, n));
          })

  -- a read: no bucket changes
  put-read-holds : o.is_write ≡ false → HoldsHistory (put_read h o) (with_op (history_of h) o)
  unfolding put_read
  put-read-holds f =
      let w : o.tx + 256 * o.key ≡ o.tx + pick o.is_write 128 0 + 256 * o.key + 9007199254740992 * 0 = rw (pick_off {X = ℕ} o.is_write 128 0 f) (omega arith) in
      entered-holds 0 _ (words-entered _ 0 w) (λ t. absurd (clash t f)) (λ b t. absurd (clash (and_left _ _ t) f)) (λ b t. words_heads _ 0 w b)

  -- a write: its bucket's word is stored anew
  put_write_holds : o.is_write ≡ true → HoldsHistory (put_write h o) (with_op (history_of h) o)
  unfolding put_write head_at
  put_write_holds f =
      let c = bucket_of o.key o.value in
      let q = get_or h (2178 + c) 0 in
      let w : o.tx + 128 + 256 * o.key + 9007199254740992 * q ≡ o.tx + pick o.is_write 128 0 + 256 * o.key + 9007199254740992 * q = rw (pick_on {X = ℕ} o.is_write 128 0 f) in
      let e = words-entered _ q w in
      let g = put_words h o.tx (o.tx + 128 + 256 * o.key + 9007199254740992 * q) o.value in
      entered-holds q _ (head_entered c put-op e) (λ t. refl)
      (λ b t.
      let d : b ≡ c = sym (eqb-true c b (and_right _ _ t)) in
      rw d (get_or-set_same g (2178 + c) put-op 0 (omega (arith, e.room, p.held.room, bucket_low o.key o.value))))
      (λ b t.
      let d : (c ≡ b → ⊥) = eqb-false c b (sym (and_on o.is_write (eqb c b) f) ∙ t) in
      get_or-set_other g (2178 + c) (2178 + b) put-op 0 (λ k. d (omega arith)) ∙ words_heads _ q w b)

  pub put-op-holds : HoldsHistory (put_op h o) (with_op (history_of h) o)
  unfolding put_op
  put-op-holds =
      ifso o.is_write (λ t. rw (pick_on o.is_write (put_write h o) (put_read h o) t) (put_write_holds t))
      (λ t. rw (pick_off o.is_write (put_write h o) (put_read h o) t) (put-read-holds t))

-- .. as the program stores it
pub put_becomes : (h g : List ℕ) (o : Op) → HasTx h o.tx → o.key < 17179869184 → op_count (history_of h) < 1024 → g ≡ put_op h o → Becomes g (put_op h o) (with_op (history_of h) o)
put_becomes h g o p l m e = record { is = e; holds = rw e (put-op-holds h o p l m) }

pub write_stored : (h g : List ℕ) (t k v b : ℕ) → b ≡ bucket_of k v → g ≡ put_words h t (t + 128 + 256 * k + 9007199254740992 * get_or h (2178 + b) 0) v
    → set g (2178 + b) (get_or h 0 0 / 128 + 1) ≡ put_op h (record { tx = t; is_write = true; key = k; value = v })
unfolding put_op put_write pick
write_stored h g t k v b e f = rw (f, e)
