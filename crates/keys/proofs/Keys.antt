-- What was kept and marked is who writes the keys that are read; who writes the key of a read has the bit of its bucket.
use Prim.Native.Nat.{ℕ, ◌+◌, ◌-◌, ◌<◌, ◌≤◌}
use mathlib.Core.Path.{◌≡◌, refl, sym, ap, ◌∙◌}
use mathlib.Core.Bool.{true, false, not}
use mathlib.Core.List.{List, ◌++◌}
use mathlib.Core.Logic.{⊎_elim}
use native.Mathlib.Omega.{arith}
use lib.Dec.{eqb}
use lib.ListN.{length, get_or, set, drop, replicate, length-set, length-append, length-drop, length-replicate, get_or-append, get_or-replicate}
use lib.Seq.{get_or-set_same, get_or-set_other}
use Rattle.std.proofs.lemmas.List.{get_or-append_right, get_or-drop}
use borrow.Author.Tests.{eqb-true, eqb-false, eq-eqb, ne_eqb}
use Rattle.base.specs.Base.{◌and◌, ◌or◌, last}
use Rattle.base.proofs.Tests.{ifso, clash, is_false, is_true, same_test, both, and_left, and_right, and_on, and_no_left, and_no_right, or_cases, or_left, or_right, or_on, or_off, pick_on, pick_off}
use Rattle.base.proofs.Searches.{some_at, some_of_lem, some_same, some-none, none-at}
use Rattle.base.proofs.Chains.{last_hit, last_miss, last_less}
use Rattle.rules.specs.History.{History, op, op_count}
use Rattle.rules.specs.Reads.{writes_at, wrote_between, is_external}
use Rattle.rules.specs.Levels.{writes_key}
use Rattle.table.specs.Table.{history_of, Held}
use Rattle.bits.specs.Bits.{Holds, nothing}
use Rattle.bits.proofs.Tables.{Rewritten}
use Rattle.pairs.specs.Pairs.{across}
use Rattle.pairs.proofs.Marking.{cell-is, cell_has, Marking}
use Rattle.keys.specs.Keys.{bucket_of, reads_into, key_below, key_read, reads_other, is_shared, is_entered, writes_into, wrote, writers, Kept, shared_bit, shared_only, Parted, write_bit}

-- ── the key that is read of each bucket ──

module _ (h : History) where
  -- at first there is none: transaction 0's operation stands in, whose key is 0
  pub keys_start : {o z : List ℕ} → length o ≡ 256 → z ≡ replicate 128 0 → Rewritten (key_below h 1) o (z ++ drop 128 o) 128
  unfolding key_below op
  keys_start {o} {z} room e =
      let long : length z ≡ 128 = ap length e ∙ length-replicate {A = ℕ} 128 0 in
      record {
        room = simp (length-append, length-drop) (omega arith);
        done =
            λ b l.
            let none : last (reads_into h b) 1 ≡ 0 = omega (arith, last_less (reads_into h b) 1 (omega arith)) in
            get_or-append z (drop 128 o) 0 b (omega arith) ∙ ap (λ (y : List ℕ). get_or y b 0) e ∙ get_or-replicate {A = ℕ} 128 b 0 0 l
            ∙ sym (ap (λ (j : ℕ). (op h j).key) none);
        left =
            λ b l.
            let q : 128 + (b - 128) ≡ b = omega arith in
            get_or-append_right z (drop 128 o) 128 b 0 long l ∙ get_or-drop 128 o (b - 128) 0 ∙ ap (λ (j : ℕ). get_or o j 0) q;
      }

  module _ {o r : List ℕ} (i : ℕ) (w : Rewritten (key_below h i) o r 128) where
    -- operation i is a clean external read; it is none
    pub keys_on : {b x : ℕ} → is_external h i ≡ true → b ≡ bucket_of (op h i).key → b < 128 → length r ≡ 256 → x ≡ (op h i).key
        → Rewritten (key_below h (i + 1)) o (set r b x) 128
    unfolding key_below reads_into
    keys_on {b} {x} t e l f y =
        record {
          room = length-set r b x ∙ w.room;
          done =
              λ c m.
              ifso (eqb (bucket_of (op h i).key) c)
              (λ q.
              let s : c ≡ b = sym (e ∙ eqb-true _ _ q) in
              rw s
              (get_or-set_same r b x 0 (omega arith) ∙ y
              ∙ sym (ap (λ (j : ℕ). (op h j).key) (last_hit (reads_into h b) i (both _ _ t (eq-eqb _ _ (sym e)))))))
              (λ q.
              get_or-set_other r b c x 0 (λ s. eqb-false _ _ q (sym (s ∙ e)))
              ∙ w.done c m ∙ sym (ap (λ (j : ℕ). (op h j).key) (last_miss (reads_into h c) i (and_no_right _ _ q))));
          left = λ c m. get_or-set_other r b c x 0 (λ s. omega arith) ∙ w.left c m;
        }

    pub keys_off : is_external h i ≡ false → Rewritten (key_below h (i + 1)) o r 128
    unfolding key_below reads_into
    keys_off t =
        record {
          room = w.room;
          done = λ c m. w.done c m ∙ sym (ap (λ (j : ℕ). (op h j).key) (last_miss (reads_into h c) i (and_no_left _ _ t)));
          left = w.left;
        }

-- what a loop left alone was left alone before it
pub keys_end : {f g : ℕ → ℕ} {o a r : List ℕ} → Rewritten f o a 128 → Rewritten g a r 128 → Rewritten g o r 128
keys_end p q = record { room = q.room ∙ p.room; done = q.done; left = λ b l. q.left b l ∙ p.left b l }

pub keys_kept : {h : History} {o r : List ℕ} → length o ≡ 256 → Rewritten (key_read h) o r 128 → Kept h r
keys_kept room w = record { room = w.room ∙ room; is = w.done }

-- ── which buckets are shared ──

module _ (h : History) where
  reads_bucket : (x i : ℕ) → reads_other h x i ≡ true → bucket_of (op h i).key ≡ x
  unfolding reads_other reads_into
  reads_bucket x i e = eqb-true _ _ (and_right _ _ (and_left _ _ e))

  -- what a read's byte and the key that is kept of its bucket say
  pub other_key : (i : ℕ) {x y : ℕ} → is_external h i ≡ true → x ≡ key_read h (bucket_of (op h i).key) → y ≡ (op h i).key → (x ≡ y → ⊥)
      → reads_other h (bucket_of (op h i).key) i ≡ true
  unfolding reads_other reads_into
  other_key i t p q n = both _ _ (both _ _ t (eq-eqb (bucket_of (op h i).key) (bucket_of (op h i).key) refl)) (ap not (ne_eqb _ _ (λ e. n (p ∙ e ∙ sym q))))

  pub same_key : (i : ℕ) {x y : ℕ} → x ≡ key_read h (bucket_of (op h i).key) → y ≡ (op h i).key → x ≡ y
      → reads_other h (bucket_of (op h i).key) i ≡ false
  unfolding reads_other
  same_key i p q e = and_no_right _ _ (ap not (eq-eqb _ _ (sym p ∙ e ∙ q)))

  pub no_read : (i : ℕ) → is_external h i ≡ false → reads_other h (bucket_of (op h i).key) i ≡ false
  unfolding reads_other reads_into
  no_read i t = and_no_left _ _ (and_no_left _ _ t)

  shared_bit_lem : (i x y : ℕ) → shared_bit h i x y ≡ eqb y 0 and reads_other h x i
  unfolding shared_bit
  shared_bit_lem i x y =
      same_test _ _
      (λ e.
      let r = cell-is (reads_other h (bucket_of (op h i).key) i) (bucket_of (op h i).key) 0 x y e in
      both _ _ (eq-eqb y 0 r.2) (rw r.1 r.0))
      (λ e.
      let s = reads_bucket x i (and_right _ _ e) in
      let o : reads_other h (bucket_of (op h i).key) i ≡ true = rw s (and_right _ _ e) in
      let z : y ≡ 0 = eqb-true y 0 (and_left _ _ e) in
      rw (z, ← s) (cell_has (reads_other h (bucket_of (op h i).key) i) (bucket_of (op h i).key) 0 o))

  pub shared_start : {w : List ℕ} → Holds w nothing → Marking (shared_bit h) (shared_only h) 1 (op_count h + 1) w
  unfolding nothing shared_only is_shared across
  shared_start z =
      record {
        room = z.room;
        rest =
            λ x y hx hy.
            or_on _ _ (z.is x y hx hy)
            ∙ some_same (λ i. shared_bit h i x y) (λ i. eqb y 0 and reads_other h x i) (op_count h + 1) 1 (λ i a b. shared_bit_lem i x y)
            ∙ ifso (eqb y 0)
            (λ t. some_same _ (reads_other h x) (op_count h + 1) 1 (λ i a b. and_on _ _ t) ∙ sym (and_on _ _ t))
            (λ t. some-none _ (op_count h + 1) 1 (λ i a b. and_no_left _ _ t) ∙ sym (and_no_left _ _ t));
      }

  -- ── the writes ──

  write_bit_lem : (i b t : ℕ) → write_bit h i b t ≡ writes_into h b t i
  unfolding write_bit writes_into
  write_bit_lem i b t =
      same_test _ _
      (λ e.
      let r = cell-is (is_entered h i) (bucket_of (op h i).key) (op h i).tx b t e in
      both _ _ (both _ _ r.0 (eq-eqb (op h i).tx t (sym r.2))) (eq-eqb (bucket_of (op h i).key) b (sym r.1)))
      (λ e.
      let p = and_left _ _ e in
      let q = eqb-true (op h i).tx t (and_right _ _ p) in
      let s = eqb-true (bucket_of (op h i).key) b (and_right _ _ e) in
      rw (← q, ← s) (cell_has (is_entered h i) (bucket_of (op h i).key) (op h i).tx (and_left _ _ p)))

  -- whether a write is entered: it is none; it has the key that is read; the bucket decides
  module _ (i : ℕ) where
    pub no_write : (op h i).is_write ≡ false → is_entered h i ≡ false
    unfolding is_entered
    no_write e = and_no_left _ _ e

    pub key-read : {x y : ℕ} → (op h i).is_write ≡ true → x ≡ key_read h (bucket_of (op h i).key) → y ≡ (op h i).key → x ≡ y → is_entered h i ≡ true
    unfolding is_entered
    key-read w p q e = both _ _ w (or_left _ _ (eq-eqb _ _ (sym p ∙ e ∙ q)))

    pub by_bucket : {x y : ℕ} → (op h i).is_write ≡ true → x ≡ key_read h (bucket_of (op h i).key) → y ≡ (op h i).key → (x ≡ y → ⊥)
        → is_entered h i ≡ is_shared h (bucket_of (op h i).key)
    unfolding is_entered
    by_bucket w p q n = and_on _ _ w ∙ or_on _ _ (ne_eqb _ _ (λ e. n (p ∙ e ∙ sym q)))

  -- ── for callers: bit 0, and the others ──

  module _ (b : ℕ) where
    pub writers-zero : writers h b 0 ≡ is_shared h b
    unfolding writers
    writers-zero = pick_on (eqb 0 0) (is_shared h b) (wrote h b 0) (eq-eqb 0 0 refl)

    pub writers-other : (t : ℕ) → (t ≡ 0 → ⊥) → writers h b t ≡ wrote h b t
    unfolding writers
    writers-other t n = pick_off _ _ _ (ne_eqb t 0 n)

    -- transaction 0 put in again
    pub writers-all : (t : ℕ) → writers h b t or eqb 0 t ≡ wrote h b t
    unfolding wrote
    writers-all t =
        ifso (eqb t 0) (λ e. or_right _ _ (eq-eqb 0 t (sym (eqb-true t 0 e))) ∙ sym (or_left _ _ e))
        (λ e. or_off _ _ (ne_eqb 0 t (λ q. eqb-false t 0 e (sym q))) ∙ writers-other t (eqb-false t 0 e))

module _ {h : List ℕ} (p : Held h) where
  -- no operation is transaction 0's
  not_zero : (x i : ℕ) → 1 ≤ i → i < op_count (history_of h) + 1 → write_bit (history_of h) i x 0 ≡ false
  unfolding write_bit
  not_zero x i a b = is_false _ (λ e. let r = cell-is _ _ _ _ _ e in omega (arith, r.2, (p.txs_in i a (omega arith)).0))

  none_of_zero : (x i : ℕ) → 1 ≤ i → across i (op_count (history_of h) + 1) (write_bit (history_of h)) x 0 ≡ false
  unfolding across
  none_of_zero x i a = some-none (λ j. write_bit (history_of h) j x 0) (op_count (history_of h) + 1) i (λ j f l. not_zero x j (omega arith) l)

  pub writers_start : {w : List ℕ} → Holds w (shared_only (history_of h))
      → Marking (write_bit (history_of h)) (writers (history_of h)) 1 (op_count (history_of h) + 1) w
  unfolding shared_only wrote across
  writers_start {w} z =
      record {
        room = z.room;
        rest =
            λ x y hx hy.
            ifso (eqb y 0)
            (λ t.
            let e : y ≡ 0 = eqb-true y 0 t in
            rw e (or_off _ _ (none_of_zero x 1 (omega arith)) ∙ z.is x 0 hx (omega arith) ∙ and_on _ _ (eq-eqb 0 0 refl) ∙ sym (writers-zero (history_of h) x)))
            (λ t.
            or_on _ _ (z.is x y hx hy ∙ and_no_left _ _ t)
            ∙ some_same (λ i. write_bit (history_of h) i x y) (writes_into (history_of h) x y) (op_count (history_of h) + 1) 1 (λ i a b. write_bit_lem (history_of h) i x y)
            ∙ sym (or_on _ _ t) ∙ sym (writers-other (history_of h) x y (eqb-false y 0 t)));
      }

  -- bit 0 stays what it is
  pub writers_parted : {w : List ℕ} {i : ℕ} → 1 ≤ i → Marking (write_bit (history_of h)) (writers (history_of h)) i (op_count (history_of h) + 1) w
      → Parted (history_of h) w
  writers_parted {i = i} a m =
      record { room = m.room; is = λ b l. sym (or_off _ _ (none_of_zero b i a)) ∙ m.rest b 0 l (omega arith) ∙ writers-zero (history_of h) b }

-- ── for callers: the key of a clean external read ──

module _ (h : History) (i : ℕ) (t : is_external h i ≡ true) (from : 1 ≤ i) (to : i ≤ op_count h) where
  -- it is the one that is kept of its bucket, if that is not shared
  sole_key : is_shared h (bucket_of (op h i).key) ≡ false → key_read h (bucket_of (op h i).key) ≡ (op h i).key
  unfolding is_shared reads_other reads_into
  sole_key n =
      eqb-true _ _
      (is_true _
      (λ e.
      clash (both _ _ (both _ _ t (eq-eqb (bucket_of (op h i).key) (bucket_of (op h i).key) refl)) (ap not e))
      (none-at (reads_other h (bucket_of (op h i).key)) (op_count h + 1) 1 n i from (omega arith))))

  -- who writes it has the bit of its bucket; so without the bit t2 does not
  pub key-wrote : (t2 : ℕ) → writes_key h t2 (op h i).key ≡ true → wrote h (bucket_of (op h i).key) t2 ≡ true
  unfolding writes_key wrote_between writes_at wrote writes_into is_entered
  key-wrote t2 e =
      ⊎_elim (λ z. or_left _ _ z)
      (λ s.
      let r = some_at (writes_at h t2 (op h i).key) (op_count h + 1) 1 s in
      let k = eqb-true (op h r.at).key (op h i).key (and_right _ _ r.passes) in
      let w = and_left _ _ (and_left _ _ r.passes) in
      or_right _ _
      (some_of_lem (writes_into h (bucket_of (op h i).key) t2) (op_count h + 1) 1 r.at r.from r.to
      (both _ _ (both _ _ (both _ _ w (rw k entered)) (and_right _ _ (and_left _ _ r.passes))) (eq-eqb _ _ (ap bucket_of k)))))
      (or_cases _ _ e)
    where
      entered : eqb (key_read h (bucket_of (op h i).key)) (op h i).key or is_shared h (bucket_of (op h i).key) ≡ true
      entered = ifso (is_shared h (bucket_of (op h i).key)) (λ y. or_right _ _ y) (λ n. or_left _ _ (eq-eqb _ _ (sole_key n)))

  -- where the bucket is not shared, who has the bit writes it
  pub wrote-key : (t2 : ℕ) → is_shared h (bucket_of (op h i).key) ≡ false → wrote h (bucket_of (op h i).key) t2 ≡ true → writes_key h t2 (op h i).key ≡ true
  unfolding writes_key wrote_between writes_at wrote writes_into is_entered
  wrote-key t2 n e =
      ⊎_elim (λ z. or_left _ _ z)
      (λ s.
      let r = some_at (writes_into h (bucket_of (op h i).key) t2) (op_count h + 1) 1 s in
      let b = eqb-true (bucket_of (op h r.at).key) (bucket_of (op h i).key) (and_right _ _ r.passes) in
      let a = and_left _ _ (and_left _ _ r.passes) in
      let k : key_read h (bucket_of (op h i).key) ≡ (op h r.at).key =
      ⊎_elim (λ y. eqb-true _ _ (rw b at y)) (λ y. absurd (clash (rw b at y) n)) (or_cases _ _ (and_right _ _ a)) in
      or_right _ _
      (some_of_lem (writes_at h t2 (op h i).key) (op_count h + 1) 1 r.at r.from r.to
      (both _ _ (both _ _ (and_left _ _ a) (and_right _ _ (and_left _ _ r.passes))) (eq-eqb _ _ (sym k ∙ sole_key n)))))
      (or_cases _ _ e)
