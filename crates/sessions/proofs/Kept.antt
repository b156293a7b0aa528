-- How the bytes that say who is open are kept as the history grows.
use Prim.Native.Nat.{ℕ, ◌+◌, ◌≤◌, ◌<◌}
use mathlib.Core.Path.{◌≡◌, ap, sym, ◌∙◌}
use mathlib.Core.Bool.{Bool, true, false}
use mathlib.Core.Logic.{⊎_elim}
use mathlib.Core.List.{List}
use native.Mathlib.Omega.{arith}
use lib.Dec.{eqb}
use lib.ListN.{get_or, set, replicate, length-set, length-replicate, get_or-replicate}
use lib.Seq.{get_or-set_same, get_or-set_other}
use borrow.Author.Tests.{eqb-true, eqb-false}
use Rattle.base.specs.Base.{last}
use Rattle.base.proofs.Tests.{clash, is_false, ifso, pick_on, pick_off, split}
use Rattle.base.proofs.Chains.{last_less, last_passes, last_none, last_hit, last_miss, drop_hit, drop_miss}
use Rattle.rules.specs.History.{History, Op, tx, tx_count, size, is_open, opened, closed, with_op}
use Rattle.rules.proofs.History.{open_count_lem, close_count}
use Rattle.sessions.specs.Open.{bucket_for, session_bucket, of_bucket, open_head, open_link, Kept, OnWay, linked, unlinked}
use Rattle.sessions.proofs.Grown.{open_in, member, member_open, member_of, not_open, like_open, like_bucket, like_member, like_last, opened-other, opened_open, opened_bucket, closed-other, closed_this}

-- ── buckets ──

pub bucket_small : (n : ℕ) → bucket_for n < 128
unfolding bucket_for
bucket_small n = omega arith

-- ── links ──

pub link_open : (h : History) (t : ℕ) → is_open h t ≡ true → open_link h t ≡ last (of_bucket h (session_bucket h t)) t
unfolding open_link
link_open h t e = pick_on _ _ _ e

pub link_none : (h : History) (t : ℕ) → is_open h t ≡ false → open_link h t ≡ 0
unfolding open_link
link_none h t e = pick_off _ _ _ e

-- t is the same in both histories, and so is the next smaller one where it is open
like_link : (h k : History) (t : ℕ) → tx k t ≡ tx h t → (is_open h t ≡ true → last (of_bucket k (session_bucket h t)) t ≡ last (of_bucket h (session_bucket h t)) t)
    → open_link k t ≡ open_link h t
like_link h k t e same =
    ifso (is_open h t)
    (λ i. link_open k t (like_open h k t e ∙ i) ∙ ap (λ (b : ℕ). last (of_bucket k b) t) (like_bucket h k t e) ∙ same i ∙ sym (link_open h t i))
    (λ i. link_none k t (like_open h k t e ∙ i) ∙ sym (link_none h t i))

-- ── nobody is open ──

pub kept-none : (h : History) → tx_count h ≡ 0 → Kept (replicate 256 0) h
unfolding open_head
kept-none h e =
    record {
      room = length-replicate {A = ℕ} 256 0;
      heads = λ b l. get_or-replicate 256 b 0 0 (omega arith) ∙ rw e (omega (arith, last_less (of_bucket h b) 1 (omega arith)));
      links =
          λ t l.
          get_or-replicate 256 (128 + t) 0 0 (omega arith)
          ∙ sym (link_none h t (is_false (is_open h t) (λ i. let r = open_in h t i in let a = r.0 in omega (arith, e, r.1))));
    }

-- ── one operation more ──

pub kept_with_op : {o : List ℕ} (h : History) (x : Op) → Kept o h → Kept o (with_op h x)
unfolding open_head open_link of_bucket session_bucket is_open tx with_op
kept_with_op h x k = record { room = k.room; heads = k.heads; links = k.links }

-- ── a transaction opens ──

module _ {o : List ℕ} (h : History) (s : ℕ) (k : Kept o h) (few : tx_count h < 127) where
  abbrev new : ℕ
  new = tx_count h + 1

  abbrev into : ℕ
  into = bucket_for s

  enter_other : (p : ℕ) → (p ≡ into → ⊥) → (p ≡ 128 + new → ⊥) → get_or (linked o new into) p 0 ≡ get_or o p 0
  unfolding linked
  enter_other p a b = get_or-set_other (set o (128 + new) (get_or o into 0)) into p new 0 a ∙ get_or-set_other o (128 + new) p (get_or o into 0) 0 b

  enter_head : get_or (linked o new into) into 0 ≡ new
  unfolding linked
  enter_head = get_or-set_same (set o (128 + new) (get_or o into 0)) into new 0 (simp length-set (omega (arith, k.room, bucket_small s)))

  enter_link : get_or (linked o new into) (128 + new) 0 ≡ get_or o into 0
  unfolding linked
  enter_link =
      get_or-set_other (set o (128 + new) (get_or o into 0)) into (128 + new) new 0 (λ q. omega (arith, bucket_small s))
      ∙ get_or-set_same o (128 + new) (get_or o into 0) 0 (omega (arith, k.room))

  below : (b n : ℕ) → n ≤ new → last (of_bucket (opened h s) b) n ≡ last (of_bucket h b) n
  below b n l = like_last h (opened h s) b n (λ i m. opened-other h s i (λ q. omega arith))

  enter_heads : (b : ℕ) → b < 128 → get_or (linked o new into) b 0 ≡ open_head (opened h s) b
  unfolding open_head
  enter_heads b l =
      rw (open_count_lem h s)
      (ifso (eqb b into)
      (λ t.
      let e : b ≡ into = eqb-true _ _ t in
      rw e (enter_head ∙ sym (last_hit (of_bucket (opened h s) into) new (rw (opened_bucket h s) at (member (opened h s) new (opened_open h s))))))
      (λ f.
      let d = eqb-false _ _ f in
      enter_other b d (λ q. omega arith) ∙ k.heads b l
      ∙ sym (last_miss (of_bucket (opened h s) b) new (is_false _ (λ t. d (sym (member_of (opened h s) b new t) ∙ opened_bucket h s))) ∙ below b new (omega arith))))

  enter_links : (t : ℕ) → t < 128 → get_or (linked o new into) (128 + t) 0 ≡ open_link (opened h s) t
  unfolding open_head
  enter_links t l =
      ifso (eqb t new)
      (λ y.
      let e : t ≡ new = eqb-true _ _ y in
      rw e
      (enter_link ∙ k.heads into (bucket_small s)
      ∙ sym (link_open (opened h s) new (opened_open h s) ∙ rw (opened_bucket h s) (below into new (omega arith)))))
      (λ f.
      let d = eqb-false _ _ f in
      enter_other (128 + t) (λ q. omega (arith, bucket_small s)) (λ q. d (omega arith)) ∙ k.links t l
      ∙ sym
      (like_link h (opened h s) t (opened-other h s t d) (λ i. let r = open_in h t i in below (session_bucket h t) t (omega (arith, r.1)))))

  pub kept-opened : Kept (linked o (tx_count h + 1) (bucket_for s)) (opened h s)
  unfolding linked
  kept-opened = record { room = simp length-set k.room; heads = enter_heads; links = enter_links }

-- ── the way to a number ──

pub bucket_low : (h : History) (t : ℕ) → session_bucket h t < 128
unfolding session_bucket
bucket_low h t = bucket_small (tx h t).session

module _ {h : History} {t p : ℕ} (w : OnWay h t p) where
  -- a link on the way is that of an open transaction
  pub way_in : tx_count h ≤ 127 → p < 256
  way_in few =
      ⊎_elim (λ a. omega (arith, a.0, bucket_low h t)) (λ a. omega (arith, a.0, (open_in h _ (member_open h _ _ a.1)).1)) w.place

  -- the number that the byte has
  pub way_has : {o : List ℕ} → Kept o h → tx_count h ≤ 127 → get_or o p 0 ≡ last (of_bucket h (session_bucket h t)) w.bound
  unfolding open_head
  way_has {o} k few =
      ⊎_elim
      (λ a. rw (a.0, a.1) (k.heads (session_bucket h t) (bucket_low h t)))
      (λ a.
      rw a.0
      (k.links w.bound (omega (arith, (open_in h _ (member_open h _ _ a.1)).1)) ∙ link_open h w.bound (member_open h _ _ a.1)
      ∙ ap (λ (b : ℕ). last (of_bucket h b) w.bound) (member_of h _ _ a.1)))
      w.place

-- ── a transaction closes ──

module _ {o : List ℕ} (h : History) (t c : ℕ) {p : ℕ} (k : Kept o h) (few : tx_count h ≤ 127) (is : is_open h t ≡ true) (d : c ≡ 3 → ⊥) (w : OnWay h t p)
    (hits : get_or o p 0 ≡ t) where
  abbrev next : History
  next = closed h t c

  abbrev own : ℕ → Bool
  own = of_bucket h (session_bucket h t)

  there : (1 ≤ t) × (t < size h)
  there = open_in h t is

  shut : is_open next t ≡ false
  shut = closed_this h t c there.0 there.1 d

  has : last own w.bound ≡ t
  has = sym (way_has w k few) ∙ hits

  -- only in its own bucket is t found
  meets : (b n : ℕ) → last (of_bucket h b) n ≡ t → (session_bucket h t ≡ b) × (t < n)
  meets b n e =
      let r = last_passes (of_bucket h b) n (omega (arith, e, there.0)) in (member_of h b t (rw e at r.0), omega (arith, e, r.1))

  -- .. and in no byte past a greater one of it
  past_it : (u n : ℕ) → own u ≡ true → t < u → u < n → last own n ≡ t → ⊥
  past_it u n m a b e = clash m (last_none own n u (rw e a) b)

  -- what is found below n is found without t
  found_hit : (n : ℕ) → last own n ≡ t → last (of_bucket next (session_bucket h t)) n ≡ last own t
  found_hit =
      drop_hit own (of_bucket next (session_bucket h t)) t (λ i x. like_member h next (session_bucket h t) i (closed-other h t c i x)) (not_open next (session_bucket h t) t shut)

  found_miss : (b n : ℕ) → (last (of_bucket h b) n ≡ t → ⊥) → last (of_bucket next b) n ≡ last (of_bucket h b) n
  found_miss b =
      drop_miss (of_bucket h b) (of_bucket next b) t (λ i x. like_member h next b i (closed-other h t c i x)) (not_open next b t shut)

  -- the bytes
  apart : p ≡ 128 + t → ⊥
  apart e = ⊎_elim (λ a. omega (arith, a.0, bucket_low h t)) (λ a. omega (arith, a.0, w.ahead)) w.place

  leave_other : (i : ℕ) → (i ≡ p → ⊥) → (i ≡ 128 + t → ⊥) → get_or (unlinked o t p) i 0 ≡ get_or o i 0
  unfolding unlinked
  leave_other i a b = get_or-set_other (set o p (get_or o (128 + t) 0)) (128 + t) i 0 0 b ∙ get_or-set_other o p i (get_or o (128 + t) 0) 0 a

  leave_this : get_or (unlinked o t p) (128 + t) 0 ≡ 0
  unfolding unlinked
  leave_this = get_or-set_same (set o p (get_or o (128 + t) 0)) (128 + t) 0 0 (simp length-set (omega (arith, k.room, there.1)))

  leave_at : get_or (unlinked o t p) p 0 ≡ last own t
  unfolding unlinked
  leave_at =
      get_or-set_other (set o p (get_or o (128 + t) 0)) (128 + t) p 0 0 apart ∙ get_or-set_same o p (get_or o (128 + t) 0) 0 (omega (arith, k.room, way_in w few))
      ∙ k.links t (omega (arith, there.1)) ∙ link_open h t is

  leave_heads : (b : ℕ) → b < 128 → get_or (unlinked o t p) b 0 ≡ open_head next b
  unfolding open_head
  leave_heads b l =
      rw (close_count h t c)
      (ifso (eqb b p)
      (λ y.
      let e : b ≡ p = eqb-true b p y in
      ⊎_elim (λ a. rw e (leave_at ∙ sym (ap (λ (x : ℕ). last (of_bucket next x) (size h)) a.0 ∙ found_hit (size h) (rw a.1 at has))))
      (λ a. absurd (omega (arith, a.0))) w.place)
      (λ f.
      leave_other b (eqb-false b p f) (λ q. omega arith) ∙ k.heads b l
      ∙ sym
      (found_miss b (size h)
      (λ e.
      let m = (meets b (size h) e).0 in
      ⊎_elim (λ a. eqb-false b p f (sym m ∙ sym a.0))
      (λ a. past_it w.bound (size h) a.1 w.ahead (open_in h _ (member_open h _ _ a.1)).1 (rw (← m) at e)) w.place))))

  leave_links : (v : ℕ) → v < 128 → get_or (unlinked o t p) (128 + v) 0 ≡ open_link next v
  leave_links v l =
      ifso (eqb v t) (λ y. let e : v ≡ t = eqb-true v t y in rw e (leave_this ∙ sym (link_none next t shut)))
      (λ n.
      let x = eqb-false v t n in
      let like = closed-other h t c v x in
      ifso (eqb (128 + v) p)
      (λ y.
      let e : 128 + v ≡ p = eqb-true (128 + v) p y in
      ⊎_elim (λ a. absurd (omega (arith, e, a.0, bucket_low h t)))
      (λ a.
      let q : v ≡ w.bound = omega (arith, e, a.0) in
      let m : own v ≡ true = rw q a.1 in
      rw e leave_at
      ∙ sym
      (link_open next v (like_open h next v like ∙ member_open h _ v m)
      ∙ ap (λ (b : ℕ). last (of_bucket next b) v) (like_bucket h next v like ∙ member_of h _ v m) ∙ found_hit v (rw q has)))
      w.place)
      (λ f.
      leave_other (128 + v) (eqb-false (128 + v) p f) (λ q. x (omega arith)) ∙ k.links v l
      ∙ sym
      (like_link h next v like
      (λ i.
      found_miss (session_bucket h v) v
      (λ e.
      let r = meets (session_bucket h v) v e in
      let m : own v ≡ true = rw r.0 (member h v i) in
      ⊎_elim (λ a. past_it v (size h) m r.1 (open_in h v i).1 (rw a.1 at has))
      (λ a.
      ⊎_elim (λ g. past_it w.bound v a.1 w.ahead g (rw (← r.0) at e))
      (λ g.
      ⊎_elim (λ g2. past_it v w.bound m r.1 g2 has) (λ g2. eqb-false (128 + v) p f (omega (arith, a.0))) (split v w.bound))
      (split w.bound v))
      w.place)))))

  pub kept-closed : Kept (unlinked o t p) (closed h t c)
  unfolding unlinked
  kept-closed = record { room = simp length-set k.room; heads = leave_heads; links = leave_links }
