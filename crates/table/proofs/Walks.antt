-- The search for a write, along the writes of its bucket.
use Prim.Native.Nat.{ℕ, ◌+◌, ◌≤◌, ◌<◌}
use mathlib.Core.Path.{◌≡◌, refl, ap, sym, ◌∙◌}
use mathlib.Core.Bool.{true, false}
use mathlib.Core.List.{List}
use native.Mathlib.Omega.{arith}
use borrow.Author.Tests.{eqb-true, eq-eqb, ne_eqb, le-ltb}
use Rattle.base.specs.Base.{last}
use Rattle.base.proofs.Tests.{both, and_left, and_right, and_no_right, pick_off}
use Rattle.base.proofs.Chains.{last_passes, last_less, last_hit, last_miss, last_chain}
use Rattle.rules.specs.History.{History, op, op_count, writes_value, write_of}
use Rattle.table.specs.Table.{history_of, bucket_of, in_bucket, head_of, link_of, keyed, Held, HasOp, HasWrite}

-- the search for a write of v to x has come to write i of their bucket: no operation above it is one. At 0 the bucket has no more
pub record ChainWalk (h : History) (x v i : ℕ) : Type 0 where
  pub within : i ≤ op_count h
  pub member : 0 < i → in_bucket h (bucket_of x v) i ≡ true
  pub rest : write_of h x v ≡ last (writes_value h x v) (i + 1)

module _ (h : History) (x v : ℕ) where
  -- a write of v to x is in their bucket
  in_own : (i : ℕ) → writes_value h x v i ≡ true → in_bucket h (bucket_of x v) i ≡ true
  unfolding writes_value in_bucket
  in_own i t =
      both _ _ (and_right _ _ (and_left _ _ t))
      (eq-eqb _ _ (ap (λ (k : ℕ). bucket_of k (op h i).value) (eqb-true (op h i).key x (and_right _ _ t)) ∙ ap (bucket_of x) (eqb-true (op h i).value v (and_left _ _ (and_left _ _ t)))))

  -- what is found below n is found from the bucket's last write below n on
  walk_to : (n i : ℕ) → n ≤ op_count h + 1 → 1 ≤ n → i ≡ last (in_bucket h (bucket_of x v)) n → write_of h x v ≡ last (writes_value h x v) n → ChainWalk h x v i
  walk_to n i l m e r =
      record {
        within = omega (arith, e, last_less (in_bucket h (bucket_of x v)) n m);
        member = λ z. rw e (last_passes (in_bucket h (bucket_of x v)) n (omega (arith, e))).0;
        rest = r ∙ rw e (last_chain (in_bucket h (bucket_of x v)) (writes_value h x v) in_own n);
      }

  pub walk_start : (i : ℕ) → i ≡ head_of h (bucket_of x v) → ChainWalk h x v i
  unfolding head_of write_of
  walk_start i e = walk_to (op_count h + 1) i (omega arith) (omega arith) e refl

  module _ {i : ℕ} (w : ChainWalk h x v i) where
    pub walk_hit : writes_value h x v i ≡ true → write_of h x v ≡ i
    walk_hit t = w.rest ∙ last_hit (writes_value h x v) i t

    pub walk_end : i ≤ 0 → write_of h x v ≡ 0
    walk_end z = let e : i ≡ 0 = omega arith in w.rest ∙ rw e (omega (arith, last_less (writes_value h x v) 1 (omega arith)))

    pub walk_miss : (j : ℕ) → 0 < i → writes_value h x v i ≡ false → j ≡ link_of h i → ChainWalk h x v j
    unfolding link_of in_bucket
    walk_miss j z t e =
        walk_to i j (omega (arith, w.within)) z (e ∙ ap (λ (b : ℕ). last (in_bucket h b) i) (eqb-true _ (bucket_of x v) (and_right (op h i).is_write _ (w.member z))))
        (w.rest ∙ last_miss (writes_value h x v) i t)

-- .. so write i is there
pub walk_has : (h : List ℕ) (x v i : ℕ) → Held h → ChainWalk (history_of h) x v i → 0 < i → HasWrite h i
unfolding in_bucket
walk_has h x v i p w z = record { there = record { held = p; from = z; to = w.within }; writes = and_left (op (history_of h) i).is_write _ (w.member z) }

-- ── the list reads of a key ──

-- a list read's bucket goes by its key
list_bucket : (x v : ℕ) → 8589934592 ≤ x → bucket_of x v ≡ bucket_of x 0
unfolding bucket_of
list_bucket x v l = pick_off _ _ _ (le-ltb x 8589934592 l) ∙ sym (pick_off _ _ _ (le-ltb x 8589934592 l))

-- the search for the list read of x before i has come to write j of their bucket
pub record ListWalk (h : History) (x i j : ℕ) : Type 0 where
  pub within : j < i
  pub member : 0 < j → in_bucket h (bucket_of x 0) j ≡ true
  pub rest : last (keyed h x) i ≡ last (keyed h x) (j + 1)

module _ (h : History) (x : ℕ) (is : 8589934592 ≤ x) (i : ℕ) where
  keyed_in : (j : ℕ) → keyed h x j ≡ true → in_bucket h (bucket_of x 0) j ≡ true
  unfolding keyed in_bucket
  keyed_in j t =
      both _ _ (and_left _ _ t)
      (eq-eqb _ _ (ap (λ (k : ℕ). bucket_of k (op h j).value) (eqb-true (op h j).key x (and_right _ _ t)) ∙ list_bucket x (op h j).value is))

  to_list : (n j : ℕ) → n ≤ i → 1 ≤ n → j ≡ last (in_bucket h (bucket_of x 0)) n → last (keyed h x) i ≡ last (keyed h x) n → ListWalk h x i j
  to_list n j l m e r =
      record {
        within = omega (arith, e, last_less (in_bucket h (bucket_of x 0)) n m);
        member = λ z. rw e (last_passes (in_bucket h (bucket_of x 0)) n (omega (arith, e))).0;
        rest = r ∙ rw e (last_chain (in_bucket h (bucket_of x 0)) (keyed h x) keyed_in n);
      }

  pub list_start : (j : ℕ) → 1 ≤ i → (op h i).key ≡ x → j ≡ link_of h i → ListWalk h x i j
  unfolding link_of
  list_start j a q e =
      to_list i j (omega arith) a
      (e ∙ ap (λ (b : ℕ). last (in_bucket h b) i) (ap (λ (k : ℕ). bucket_of k (op h i).value) q ∙ list_bucket x (op h i).value is)) refl

  module _ {j : ℕ} (w : ListWalk h x i j) where
    pub list_hit : 0 < j → (op h j).key ≡ x → last (keyed h x) i ≡ j
    unfolding keyed in_bucket
    list_hit z e = w.rest ∙ last_hit (keyed h x) j (both _ _ (and_left (op h j).is_write _ (w.member z)) (eq-eqb _ _ e))

    pub list_end : j ≤ 0 → last (keyed h x) i ≡ 0
    list_end z = let e : j ≡ 0 = omega arith in w.rest ∙ rw e (omega (arith, last_less (keyed h x) 1 (omega arith)))

    pub list_miss : (k : ℕ) → 0 < j → ((op h j).key ≡ x → ⊥) → k ≡ link_of h j → ListWalk h x i k
    unfolding link_of in_bucket keyed
    list_miss k z d e =
        to_list j k (omega (arith, w.within)) z (e ∙ ap (λ (b : ℕ). last (in_bucket h b) j) (eqb-true _ (bucket_of x 0) (and_right (op h j).is_write _ (w.member z))))
        (w.rest ∙ last_miss (keyed h x) j (and_no_right _ _ (ne_eqb _ _ d)))

pub list_has : (h : List ℕ) (x i j : ℕ) → HasOp h i → ListWalk (history_of h) x i j → 0 < j → HasWrite h j
unfolding in_bucket
list_has h x i j p w z =
    record {
      there = record { held = p.held; from = z; to = omega (arith, w.within, p.to) };
      writes = and_left (op (history_of h) j).is_write _ (w.member z);
    }
