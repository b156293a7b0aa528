-- The offsets of list reads: each stands before the next record, so that no list read has one that another has.
use Rattle.std.proofs.Common.{◌≡◌, ℕ, ◌+◌, ◌<◌, ◌≤◌, true, false, length, sym, refl, ap, ◌∙◌, subst, ⊎_elim, arith, eqb-true}
use Rattle.base.proofs.Tests.{clash, and_left, and_right, split}
use Rattle.base.proofs.Chains.{last_passes}
use Rattle.rules.specs.History.{History, Op, op, op_count, writes_value, write_of, empty, opened, closed, with_op}
use Rattle.rules.specs.Records.{read_key, written_key, written_value, Sound}
use Rattle.rules.specs.Reading.{entered}
use Rattle.rules.specs.declared.Event.{Event}
use Rattle.rules.specs.declared.Event.TheVariants.{Open, Read, Write, Close, End, Note, Other}
use Rattle.rules.proofs.History.{with_op-count, with_op_old, with_op-new, open_ops, close_ops}
use Rattle.steps.specs.Steps.{Takable}
use Rattle.trace.specs.Trace.{Ahead}

-- what soundness says of a read, and of a list read
single_read : {at k w : ℕ} → Sound at (Read k w) → k < 4294967296
unfolding read_key
single_read v = v.single

own-place : {at k w : ℕ} → Sound at (Write k w) → 8589934592 ≤ k → 0 < w → w ≡ at
unfolding written_key written_value
own-place v = v.placed

pub ahead_none : (at : ℕ) → Ahead empty at
ahead_none at = record { before = λ i a b. absurd (omega arith); reads = λ i a b. absurd (omega arith) }

module _ (h : History) (at : ℕ) (x : Ahead h at) where
  -- farther on; with the same operations; with one more
  ahead_on : (b : ℕ) → at ≤ b → Ahead h b
  ahead_on b l = record { before = λ i a c k. omega (arith, x.before i a c k); reads = x.reads }

  ahead_ops : (g : History) → g.ops ≡ h.ops → Ahead g at
  unfolding op
  ahead_ops g e =
      record {
        before = λ i a b k. let l : i ≤ op_count h = omega (arith, ap length e) in rw e (x.before i a l (rw e at k));
        reads = λ i a b k. let l : i ≤ op_count h = omega (arith, ap length e) in rw e (x.reads i a l (rw e at k));
      }

  ahead_with : (o : Op) → (8589934592 ≤ o.key → o.value < at) → (o.is_write ≡ false → o.key < 4294967296) → Ahead (with_op h o) at
  ahead_with o f r =
      record {
        before = λ i a b.
            old_or_new i b (λ (q : Op). 8589934592 ≤ q.key → q.value < at) (λ l. x.before i a l) f;
        reads = λ i a b. old_or_new i b (λ (q : Op). q.is_write ≡ false → q.key < 4294967296) (λ l. x.reads i a l) r;
      }
    where
      old_or_new : (i : ℕ) → i ≤ op_count (with_op h o) → (P : Op → Type 0) → (i ≤ op_count h → P (op h i)) → P o → P (op (with_op h o) i)
      old_or_new i b P old new =
          ⊎_elim
          (λ (l : op_count h < i).
          let e : i ≡ op_count h + 1 = omega (arith, with_op-count h o) in
          let q : op (with_op h o) i ≡ o = ap (op (with_op h o)) e ∙ with_op-new h o in
          subst P (sym q) new)
          (λ (l : i ≤ op_count h). subst P (sym (with_op_old h o i l)) (old l)) (split (op_count h) i)

-- what an event enters stands before whatever comes behind its record
pub ahead_entered : {h : History} {at : ℕ} → Ahead h at → (t : ℕ) (e : Event) → Sound at e → (b : ℕ) → at < b → Ahead (entered h t e) b
unfolding entered
ahead_entered {h} {at} x t e v b l = go e v
  where
    y : Ahead h b
    y = ahead_on h at x b (omega arith)

    go : (e : Event) → Sound at e → Ahead (entered h t e) b
    go (Open s) v = ahead_ops h b y (opened h s) (open_ops h s)
    go (Read k w) v = ahead_with h b y (record { tx = t; is_write = false; key = k; value = w }) (λ m. absurd (omega (arith, single_read v))) (λ z. single_read v)
    go (Write k w) v =
        ahead_with h b y (record { tx = t; is_write = true; key = k; value = w })
        (λ m. ⊎_elim (λ (z : 0 < w). omega (arith, own-place v m z)) (λ z. omega arith) (split 0 w)) (λ z. absurd (clash refl z))
    go (Close c) v = ahead_ops h b y (closed h t c) (close_ops h t c)
    go (End n) v = y
    go Note v = y
    go Other v = y

-- no list read has the offset of another
module _ (h : History) (at : ℕ) (x : Ahead h at) where
  none_there : (k w : ℕ) → Sound at (Write k w) → 8589934592 ≤ k → 0 < w → write_of h k w ≡ 0
  unfolding write_of writes_value
  none_there k w y l z =
      ⊎_elim
      (λ (m : 0 < write_of h k w).
      let i = write_of h k w in
      let f = last_passes (writes_value h k w) (op_count h + 1) m in
      let q : (op h i).key ≡ k = eqb-true _ _ (and_right _ _ f.0) in
      let r : (op h i).value ≡ w = eqb-true _ _ (and_left _ _ (and_left _ _ f.0)) in
      absurd (omega (arith, x.before i m (omega (arith, f.1)) (omega (arith, q)), r, own-place y l z)))
      (λ m. omega arith) (split 0 (write_of h k w))

  pub takable : (e : Event) → Sound at e → Takable h e
  takable e v = record { narrow = v.narrow; new_place = λ k w q l z. none_there k w (rw q at v) l z }
