-- The operations of a grown history, and the last and previous ones of each transaction and each bucket.
use Prim.Native.Nat.{ℕ, ◌+◌, ◌≤◌, ◌<◌}
use mathlib.Core.Path.{◌≡◌, refl, ap, sym, ◌∙◌}
use mathlib.Core.Bool.{Bool, true, false}
use mathlib.Core.Logic.{⊎_elim}
use mathlib.Core.List.{List}
use native.Mathlib.Omega.{arith}
use lib.Dec.{ltb, eqb}
use borrow.Author.Tests.{ne_eqb}
use Rattle.base.specs.Base.{◌and◌, last}
use Rattle.base.proofs.Tests.{split, ifso, pick_both}
use Rattle.base.proofs.Chains.{last_less, last-is, last_hit, last_miss, last-same}
use Rattle.rules.specs.History.{History, Tx, Op, op, op_count, with_op}
use Rattle.rules.proofs.History.{with_op-count, with_op_old, with_op-new}
use Rattle.table.specs.Table.{of_tx, last_below, last_of, prev_of, bucket_of, in_bucket, head_of, link_of}

-- ── bounds ──

pub last_of_less : (h : History) (t : ℕ) → last_of h t < op_count h + 1
unfolding last_of last_below
last_of_less h t = last_less (of_tx h t) (op_count h + 1) (omega arith)

pub prev_of_less : (h : History) (i : ℕ) → 1 ≤ i → prev_of h i < i
unfolding prev_of last_below
prev_of_less h i a = last_less (of_tx h (op h i).tx) i a

pub head_of_less : (h : History) (b : ℕ) → head_of h b < op_count h + 1
unfolding head_of
head_of_less h b = last_less (in_bucket h b) (op_count h + 1) (omega arith)

pub link_of_less : (h : History) (i : ℕ) → 1 ≤ i → link_of h i < i
unfolding link_of
link_of_less h i a = last_less (in_bucket h (bucket_of (op h i).key (op h i).value)) i a

pub bucket_low : (x v : ℕ) → bucket_of x v < 128
unfolding bucket_of
bucket_low x v = pick_both (λ (n : ℕ). n < 128) (ltb x 8589934592) (omega arith) (omega arith)

-- ── other transactions, as where one opens or closes: no operation changes ──

module _ (h : History) (a : List Tx) where
  abbrev pub retold : History
  retold = record { txs = a; ops = h.ops }

  pub retold-op : (i : ℕ) → op retold i ≡ op h i
  unfolding op
  retold-op i = refl

  pub retold-last : (t : ℕ) → last_of retold t ≡ last_of h t
  unfolding last_of last_below of_tx op
  retold-last t = refl

  pub retold_prev : (i : ℕ) → prev_of retold i ≡ prev_of h i
  unfolding prev_of last_below of_tx op
  retold_prev i = refl

  pub retold_head : (b : ℕ) → head_of retold b ≡ head_of h b
  unfolding head_of in_bucket op
  retold_head b = refl

  pub retold_link : (i : ℕ) → link_of retold i ≡ link_of h i
  unfolding link_of in_bucket op
  retold_link i = refl

-- a transaction that no operation has
pub last_of_none : (h : History) (t : ℕ) → ((i : ℕ) → 1 ≤ i → i ≤ op_count h → (op h i).tx ≡ t → ⊥) → last_of h t ≡ 0
unfolding last_of last_below of_tx
last_of_none h t n = last-is (of_tx h t) (op_count h + 1) 0 (λ z. absurd (omega arith)) (λ i a b. ne_eqb _ _ (n i a (omega arith)))

-- ── one operation more ──

-- the operations of the class c: those of a transaction, or those of a bucket
abbrev pub among : (Op → Bool) → History → ℕ → Bool
among c h i = c (op h i)

abbrev pub by_tx : ℕ → Op → Bool
by_tx t o = eqb o.tx t

abbrev pub by_bucket : ℕ → Op → Bool
by_bucket b o = o.is_write and eqb (bucket_of o.key o.value) b

module _ (h : History) (o : Op) where
  -- the last of a class below the new one
  with_op_below : (c : Op → Bool) (n : ℕ) → n ≤ op_count h + 1 → last (among c (with_op h o)) n ≡ last (among c h) n
  with_op_below c n l = last-same (among c (with_op h o)) (among c h) n (λ i m. ap c (with_op_old h o i (omega arith)))

  -- a table kept the number a of the class's last operation: it has to keep the new one's where that is of the class, else what it kept
  pub with_op-last : (c : Op → Bool) {a b : ℕ} → a ≡ last (among c h) (op_count h + 1) → (c o ≡ true → b ≡ op_count h + 1) → (c o ≡ false → b ≡ a)
      → b ≡ last (among c (with_op h o)) (op_count (with_op h o) + 1)
  with_op-last c {a} {b} e hit miss =
      rw (with_op-count h o)
      (ifso (c o) (λ t. hit t ∙ sym (last_hit (among c (with_op h o)) (op_count h + 1) (ap c (with_op-new h o) ∙ t)))
      (λ t. miss t ∙ e ∙ sym (last_miss (among c (with_op h o)) (op_count h + 1) (ap c (with_op-new h o) ∙ t) ∙ with_op_below c (op_count h + 1) (omega arith))))

  -- .. and with each operation, whose class is c of it, that of the one before it: with the new one, what was the class's last
  pub with_op_prev : (c : Op → Op → Bool) (i : ℕ) {b : ℕ} → i ≤ op_count h + 1 → (i ≤ op_count h → b ≡ last (among (c (op h i)) h) i)
      → (i ≡ op_count h + 1 → b ≡ last (among (c o) h) (op_count h + 1)) → b ≡ last (among (c (op (with_op h o) i)) (with_op h o)) i
  with_op_prev c i {b} l old new =
      ⊎_elim
      (λ m. old (omega arith) ∙ sym (ap (λ (p : Op). last (among (c p) (with_op h o)) i) (with_op_old h o i (omega arith)) ∙ with_op_below (c (op h i)) i l))
      (λ m.
      let e : i ≡ op_count h + 1 = omega arith in
      new e ∙ sym (rw e (ap (λ (p : Op). last (among (c p) (with_op h o)) (op_count h + 1)) (with_op-new h o) ∙ with_op_below (c o) (op_count h + 1) (omega arith))))
      (split i (op_count h + 1))
