-- The search for the first operation of a key, along the keys of its bucket.
use Prim.Native.Nat.{ℕ, ◌+◌, ◌%◌, ◌≤◌, ◌<◌}
use mathlib.Core.Path.{◌≡◌, ap, sym, ◌∙◌}
use mathlib.Core.Bool.{true}
use mathlib.Core.List.{List}
use native.Mathlib.Omega.{arith}
use lib.ListN.{get_or}
use borrow.Author.Tests.{eqb-true, eq-eqb, ne_eqb}
use Rattle.base.specs.Base.{last}
use Rattle.base.proofs.Tests.{both, and_left, and_right, and_no_right}
use Rattle.base.proofs.Chains.{last_passes, last_less, last_hit, last_miss, last_chain}
use Rattle.rules.specs.History.{History, op, plain_key}
use Rattle.mixing.specs.Mixing.{has_key, first_like, key_bucket, in_chain, Indexed}
use Rattle.mixing.proofs.Firsts.{opens, opens-is}

pub bucket_small : (x : ℕ) → key_bucket x < 128
unfolding key_bucket
bucket_small x = omega arith

-- the search for the first operation of i's key has come to j of their bucket's chain: no operation from j to before i is it. At 0 the chain has no more
pub record KeyWalk (h : History) (i j : ℕ) : Type 0 where
  pub within : j < i
  pub member : 0 < j → in_chain h (key_bucket (op h i).key) j ≡ true
  pub rest : first_like h i ≡ last (opens h (plain_key (op h i).key)) (j + 1)

module _ (h : History) (i : ℕ) where
  -- the first of the key is in its bucket's chain
  in_own : (j : ℕ) → opens h (plain_key (op h i).key) j ≡ true → in_chain h (key_bucket (op h i).key) j ≡ true
  unfolding opens has_key in_chain key_bucket
  in_own j t =
      both _ _ (and_left _ _ t)
      (eq-eqb _ _ (ap (λ (y : ℕ). y % 128) (eqb-true (plain_key (op h j).key) (plain_key (op h i).key) (and_right _ _ t))))

  walk_to : (n j : ℕ) → n ≤ i → 1 ≤ n → j ≡ last (in_chain h (key_bucket (op h i).key)) n → first_like h i ≡ last (opens h (plain_key (op h i).key)) n
      → KeyWalk h i j
  walk_to n j l m e r =
      record {
        within = omega (arith, e, last_less (in_chain h (key_bucket (op h i).key)) n m);
        member = λ z. rw e (last_passes (in_chain h (key_bucket (op h i).key)) n (omega (arith, e))).0;
        rest = r ∙ rw e (last_chain (in_chain h (key_bucket (op h i).key)) (opens h (plain_key (op h i).key)) in_own n);
      }

  module _ {k : List ℕ} (x : Indexed k h i) where
    pub walk_start : 1 ≤ i → KeyWalk h i (get_or k (key_bucket (op h i).key) 0)
    unfolding first_like
    walk_start a =
        walk_to i _ (omega arith) a (x.heads (key_bucket (op h i).key) (bucket_small (op h i).key)) (sym (opens-is h (plain_key (op h i).key) i))

    -- the link of j goes on
    module _ {j : ℕ} (w : KeyWalk h i j) (z : 0 < j) where
      linked_to : get_or k (128 + j) 0 ≡ last (in_chain h (key_bucket (op h i).key)) j
      unfolding in_chain
      linked_to =
          x.links j z w.within (and_left _ _ (w.member z))
          ∙ ap (λ (b : ℕ). last (in_chain h b) j) (eqb-true (key_bucket (op h j).key) (key_bucket (op h i).key) (and_right _ _ (w.member z)))

      pub walk_less : get_or k (128 + j) 0 < j
      walk_less = rw linked_to (last_less (in_chain h (key_bucket (op h i).key)) j z)

      pub walk_miss : (plain_key (op h j).key ≡ plain_key (op h i).key → ⊥) → KeyWalk h i (get_or k (128 + j) 0)
      unfolding opens has_key
      walk_miss d =
          walk_to j _ (omega (arith, w.within)) z linked_to
          (w.rest ∙ last_miss (opens h (plain_key (op h i).key)) j (and_no_right _ _ (ne_eqb _ _ d)))

  module _ {j : ℕ} (w : KeyWalk h i j) where
    pub walk_hit : 0 < j → plain_key (op h j).key ≡ plain_key (op h i).key → first_like h i ≡ j
    unfolding opens has_key in_chain
    walk_hit z e =
        w.rest ∙ last_hit (opens h (plain_key (op h i).key)) j (both _ _ (and_left _ _ (w.member z)) (eq-eqb _ _ e))

    pub walk_end : j ≤ 0 → first_like h i ≡ 0
    walk_end z =
        let e : j ≡ 0 = omega arith in w.rest ∙ rw e (omega (arith, last_less (opens h (plain_key (op h i).key)) 1 (omega arith)))
