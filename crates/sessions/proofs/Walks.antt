-- The searches: for the open transaction of a session, for any open one, for the byte that has a number.
use Prim.Native.Nat.{ℕ, ◌+◌, ◌≤◌, ◌<◌}
use mathlib.Core.Path.{◌≡◌, refl, ap, ◌∙◌}
use mathlib.Core.Bool.{Bool, true, false}
use mathlib.Core.Logic.{⊎_elim, inl, inr}
use mathlib.Core.List.{List}
use native.Mathlib.Omega.{arith}
use lib.ListN.{get_or}
use borrow.Author.Tests.{eqb-true, eq-eqb, ne_eqb}
use Rattle.base.specs.Base.{last}
use Rattle.base.proofs.Tests.{clash, both, and_left, and_right, and_no_right, split}
use Rattle.base.proofs.Chains.{last_passes, last_less, last_none, last_hit, last_miss, last_chain}
use Rattle.rules.specs.History.{History, tx, tx_count, size, is_open, is_open_of, open_of, any_open}
use Rattle.sessions.specs.Open.{bucket_for, session_bucket, of_bucket, open_head, Kept, OnWay}
use Rattle.sessions.proofs.Grown.{open_in, member, member_open, member_of}
use Rattle.sessions.proofs.Kept.{bucket_small, link_open, way_has}

-- ── the open one of session n, along its bucket ──

-- the search has come to t, an open one of the bucket: none above it is of the session. At 0 the bucket has no more
pub record BucketWalk (h : History) (n t : ℕ) : Type 0 where
  pub within : t ≤ tx_count h
  pub member_there : 0 < t → of_bucket h (bucket_for n) t ≡ true
  pub rest : open_of h n ≡ last (is_open_of h n) (t + 1)

module _ (h : History) (n : ℕ) where
  -- one of session n is of its bucket
  in_own : (i : ℕ) → is_open_of h n i ≡ true → of_bucket h (bucket_for n) i ≡ true
  unfolding is_open_of of_bucket session_bucket
  in_own i t = both _ _ (and_left _ _ t) (eq-eqb _ _ (ap bucket_for (eqb-true (tx h i).session n (and_right _ _ t))))

  walk_to : (m t : ℕ) → m ≤ size h → 1 ≤ m → t ≡ last (of_bucket h (bucket_for n)) m → open_of h n ≡ last (is_open_of h n) m → BucketWalk h n t
  walk_to m t l a e r =
      record {
        within = omega (arith, e, last_less (of_bucket h (bucket_for n)) m a);
        member_there = λ z. rw e (last_passes (of_bucket h (bucket_for n)) m (omega (arith, e))).0;
        rest = r ∙ rw e (last_chain (of_bucket h (bucket_for n)) (is_open_of h n) in_own m);
      }

  pub walk_start : {o : List ℕ} → Kept o h → BucketWalk h n (get_or o (bucket_for n) 0)
  unfolding open_head open_of
  walk_start k = walk_to (size h) _ (omega arith) (omega arith) (k.heads (bucket_for n) (bucket_small n)) refl

  module _ {t : ℕ} (w : BucketWalk h n t) where
    pub walk_hit : 0 < t → (tx h t).session ≡ n → open_of h n ≡ t
    unfolding is_open_of
    walk_hit z e = w.rest ∙ last_hit (is_open_of h n) t (both _ _ (member_open h _ t (w.member_there z)) (eq-eqb _ _ e))

    pub walk_end : t ≤ 0 → open_of h n ≡ 0
    walk_end z = let e : t ≡ 0 = omega arith in w.rest ∙ rw e (omega (arith, last_less (is_open_of h n) 1 (omega arith)))

    -- the link of t goes on
    module _ {o : List ℕ} (k : Kept o h) (few : tx_count h ≤ 127) (z : 0 < t) where
      linked_to : get_or o (128 + t) 0 ≡ last (of_bucket h (bucket_for n)) t
      linked_to =
          k.links t (omega (arith, w.within)) ∙ link_open h t (member_open h _ t (w.member_there z))
          ∙ ap (λ (b : ℕ). last (of_bucket h b) t) (member_of h _ t (w.member_there z))

      pub walk_less : get_or o (128 + t) 0 < t
      walk_less = rw linked_to (last_less (of_bucket h (bucket_for n)) t z)

      pub walk_miss : ((tx h t).session ≡ n → ⊥) → BucketWalk h n (get_or o (128 + t) 0)
      unfolding is_open_of
      walk_miss d =
          walk_to t _ (omega (arith, w.within)) z linked_to (w.rest ∙ last_miss (is_open_of h n) t (and_no_right _ _ (ne_eqb _ _ d)))

-- ── any open one, from the latest down ──

pub record TopWalk (h : History) (t : ℕ) : Type 0 where
  pub within : t ≤ tx_count h
  pub rest : any_open h ≡ last (is_open h) (t + 1)

module _ (h : History) where
  pub top_start : TopWalk h (tx_count h)
  unfolding any_open
  top_start = record { within = omega arith; rest = refl }

  module _ {t : ℕ} (w : TopWalk h t) where
    pub top_hit : is_open h t ≡ true → any_open h ≡ t
    top_hit e = w.rest ∙ last_hit (is_open h) t e

    pub top_miss : {i : ℕ} → i + 1 ≡ t → is_open h t ≡ false → TopWalk h i
    top_miss e d = record { within = omega (arith, w.within); rest = rw e (w.rest ∙ last_miss (is_open h) t d) }

    pub top_end : t ≤ 0 → any_open h ≡ 0
    top_end z = let e : t ≡ 0 = omega arith in w.rest ∙ rw e (omega (arith, last_less (is_open h) 1 (omega arith)))

-- ── the byte that has the number of the open transaction t ──

module _ {o : List ℕ} (h : History) (t : ℕ) (k : Kept o h) (few : tx_count h ≤ 127) (is : is_open h t ≡ true) where
  pub way_start : OnWay h t (session_bucket h t)
  way_start = record { bound = size h; ahead = (open_in h t is).1; place = inl (refl, refl) }

  module _ {p : ℕ} (w : OnWay h t p) (d : get_or o p 0 ≡ t → ⊥) where
    abbrev own : ℕ → Bool
    own = of_bucket h (session_bucket h t)

    -- a byte that has another has a greater one of the bucket, whose link goes on
    larger : t < get_or o p 0
    larger =
        ⊎_elim (λ l. l)
        (λ g.
        absurd
        (⊎_elim (λ m. clash (member h t is) (last_none own w.bound t m w.ahead)) (λ m. d (omega (arith, way_has w k few))) (split (last own w.bound) t)))
        (split t (get_or o p 0))

    of_it : own (get_or o p 0) ≡ true
    of_it = rw (way_has w k few) (last_passes own w.bound (omega (arith, larger, way_has w k few))).0

    pub way_more : OnWay h t (128 + get_or o p 0)
    way_more = record { bound = get_or o p 0; ahead = larger; place = inr (refl, of_it) }

    pub way_less : get_or o (128 + get_or o p 0) 0 < get_or o p 0
    unfolding way_more
    way_less = rw (way_has way_more k few) (last_less own (get_or o p 0) (omega (arith, larger)))
