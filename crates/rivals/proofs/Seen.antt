-- Which reads of t3 see t2.
use Prim.Native.Nat.{ℕ, ◌+◌, ◌*◌, ◌<◌, ◌≤◌}
use mathlib.Core.Path.{◌≡◌, sym, ap, ◌∙◌}
use mathlib.Core.Bool.{Bool, true, false}
use mathlib.Core.List.{List}
use lib.ListN.{get_or}
use mathlib.Core.Logic.{◌⊎◌, inl, inr, ⊎_elim}
use native.Mathlib.Omega.{arith}
use lib.Dec.{eqb, ltb}
use borrow.Author.Tests.{eqb-true, eqb-false, eq-eqb, ne_eqb, lt-ltb, le-ltb, ltb-true}
use Rattle.base.specs.Base.{pick, some, first, last}
use Rattle.base.proofs.Tests.{known, ifso, split, clash, is_false, same_test, or_right, pick_on, pick_off}
use Rattle.base.proofs.Searches.{some_at, some_of_lem, some-none, first_cases, first-is, first_end}
use Rattle.base.proofs.Chains.{last_passes, last_none}
use Rattle.rules.specs.History.{History, tx_count, op_count, committed}
use Rattle.rules.specs.Reads.{reads_from}
use Rattle.rules.specs.Levels.{is_read, basic, leads, sees}
use Rattle.rules.proofs.Committed.{committed_below}
use Rattle.rules.proofs.Forced.{basic-committed, leads-committed}
use Rattle.table.specs.Table.{history_of, HasTx, of_tx, last_of, prev_of, Below}
use Rattle.table.proofs.Chain.{OnChain, chain_last, chain_prev, sought_last, sought_prev}
use Rattle.bits.specs.Bits.{Holds}
use Rattle.bits.proofs.Tables.{row-own}
use Rattle.pairs.specs.Pairs.{before}
use Rattle.order.specs.declared.Words.{Words}
use Rattle.vectors.specs.Vectors.{Joined}
use Rattle.rivals.specs.Rivals.{pairs_for, Told, Asked, Foregoing, first_from, seen_from}

-- ── the first, found from the top down ──

module _ (q : ℕ → Bool) (d : ℕ) where
  first-none : (e : ℕ) → ((i : ℕ) → 1 ≤ i → i < e → q i ≡ false) → first d 1 e q ≡ d
  first-none e none = ⊎_elim (λ z. z.0) (λ r. absurd (clash r.passes (none (first d 1 e q) r.from r.to))) (first_cases d q e 1)

  -- a search up to n is one up to the last of the chain
  first_chain : (p : ℕ → Bool) → ((i : ℕ) → q i ≡ true → p i ≡ true) → (n : ℕ) → first d 1 n q ≡ first d 1 (last p n + 1) q
  first_chain p sub n =
      ⊎_elim
      (λ z.
      z.0
      ∙ sym
      (first-none (last p n + 1) (λ i a b. z.1 i a (omega (arith, (last_passes p n (omega arith)).1)))))
      (λ r.
      sym
      (first-is d q (last p n + 1) 1 (first d 1 n q)
      (record {
        from = r.from;
        to = ⊎_elim (λ l. l) (λ g. absurd (clash (sub _ r.passes) (last_none p n (first d 1 n q) (omega arith) r.to))) (split (first d 1 n q) (last p n + 1));
        passes = r.passes;
        none = r.none;
      })))
      (first_cases d q n 1)

  -- the topmost becomes what is answered where no other passes
  first_top : (i : ℕ) → 1 ≤ i → first d 1 (i + 1) q ≡ first (pick (q i) i d) 1 i q
  first_top i l =
      ⊎_elim (λ z. none z.1 ∙ sym z.0)
      (λ r. first-is d q (i + 1) 1 _ (record { from = r.from; to = omega (arith, r.to); passes = r.passes; none = r.none }))
      (first_cases (pick (q i) i d) q i 1)
    where
      none : ((j : ℕ) → 1 ≤ j → j < i → q j ≡ false) → first d 1 (i + 1) q ≡ pick (q i) i d
      none f =
          ifso (q i) (λ t. first-is d q (i + 1) 1 i (record { from = l; to = omega arith; passes = t; none = f }) ∙ sym (pick_on _ _ _ t))
          (λ t.
          first-none (i + 1) (λ j a b. ⊎_elim (λ m. f j a m) (λ m. let e : j ≡ i = omega arith in rw e t) (split j i)) ∙ sym (pick_off _ _ _ t))

-- a walk that has come to i, with r for the first from above it
pub record Firsts (h : History) (t : ℕ) (q : ℕ → Bool) (r i : ℕ) : Type 0 where
  pub on : OnChain h t i
  pub whole : first (op_count h) 1 (op_count h + 1) q ≡ first r 1 (i + 1) q

module _ (h : History) (t : ℕ) (q : ℕ → Bool) (sub : (i : ℕ) → q i ≡ true → of_tx h t i ≡ true) where
  pub firsts_start : {r i : ℕ} → r ≡ op_count h → Below i (last_of h t) (op_count h + 1) → Firsts h t q r i
  firsts_start e b =
      record { on = chain_last b; whole = rw e (sought_last h t (λ n. first (op_count h) 1 n q) (first_chain q (op_count h) (of_tx h t) sub) b) }

  pub firsts_next : {r i s j : ℕ} → Firsts h t q r i → 0 < i → s ≡ pick (q i) i r → Below j (prev_of h i) i → Firsts h t q s j
  firsts_next {r} {i} {s} f l e b =
      record {
        on = chain_prev f.on l b;
        whole =
            f.whole ∙ first_top q r i l ∙ ap (λ (d : ℕ). first d 1 i q) (sym e)
            ∙ sought_prev h t (λ n. first s 1 n q) (first_chain q s (of_tx h t) sub) (f.on.of l) b;
      }

  pub firsts_end : {r i : ℕ} → Firsts h t q r i → i ≤ 0 → r ≡ first (op_count h) 1 (op_count h + 1) q
  firsts_end {r} {i} f l = sym (f.whole ∙ first_end q r 1 (i + 1) (omega arith))

-- ── by level ──

-- for callers: the table that the search goes by, at levels 1 and 2, and at level 3
module _ {s : List ℕ} (h : History) (level : ℕ) where
  pub goes-by-basic : (level ≡ 3 → ⊥) → Holds s (before (basic h)) → Holds s (before (pairs_for h level))
  unfolding pairs_for
  goes-by-basic n b = rw (pick_off (eqb level 3) (leads h) (basic h) (ne_eqb level 3 n)) b

  pub goes-by-leads : level ≡ 3 → Holds s (before (leads h)) → Holds s (before (pairs_for h level))
  unfolding pairs_for
  goes-by-leads e b = rw (pick_on (eqb level 3) (leads h) (basic h) (eq-eqb level 3 e)) b

-- what the search goes by are pairs of committed transactions
pub pairs_first : (h : History) (level t2 t3 : ℕ) → pairs_for h level t2 t3 ≡ true → committed h t2 ≡ true
unfolding pairs_for
pairs_first h level t2 t3 e =
    ifso (eqb level 3) (λ l. leads-committed h t2 t3 (sym (ap (λ (f : ℕ → ℕ → Bool). f t2 t3) (pick_on _ (leads h) (basic h) l)) ∙ e))
    (λ l. (basic-committed h t2 t3 (sym (ap (λ (f : ℕ → ℕ → Bool). f t2 t3) (pick_off _ (leads h) (basic h) l)) ∙ e)).first)

-- so of some that the history has
pub pairs_below : (h : History) (level t2 t3 : ℕ) → pairs_for h level t2 t3 ≡ true → t2 ≤ tx_count h
pairs_below h level t2 t3 e = omega (arith, committed_below h t2 (pairs_first h level t2 t3 e))

module _ {h k s x : List ℕ} {width level t3 : ℕ} (p : Told h k s x width level) (o : HasTx h t3) where
  -- a table's row t3 has what the level's pairs have before t3
  pub told-by-row : width ≡ 0 → Foregoing (history_of h) level t3 (get_or s (2 * t3) 0) (get_or s (2 * t3 + 1) 0)
  unfolding before
  told-by-row e =
      record { is = λ t2 l _. row-own s t3 t2 l ∙ (p.table e).is t3 t2 (omega (arith, o.to, p.ready.settled.held.few)) l }

  -- so do the rows that its vector names
  pub told-by_vector : 0 < width → {r : Words} → Joined s x t3 width r → Foregoing (history_of h) level t3 r.lo r.hi
  unfolding pairs_for
  told-by_vector z j =
      let v = p.vectors z in
      record {
        is =
            λ t2 l n.
            j.is t2 l ∙ v.1.seen t3 t2 (omega (arith, o.to)) l n
            ∙ sym (ap (λ (f : ℕ → ℕ → Bool). f t2 t3) (pick_on (eqb level 3) (leads (history_of h)) (basic (history_of h)) (eq-eqb level 3 v.0)));
      }

  -- it can be asked
  pub told_asked : 0 < width → Asked x width t3
  told_asked z = let v = (p.vectors z).1 in record { long = v.long; wide = v.wide; small = v.small t3 (omega (arith, o.to)) }

module _ (h : History) (t2 t3 : ℕ) where
  -- a read pair is a basic one
  no_read : basic h t2 t3 ≡ false → (i : ℕ) → i ≤ op_count h → some 1 i (reads_from h t3 t2) ≡ false
  unfolding basic is_read
  no_read e i l =
      some-none (reads_from h t3 t2) i 1
      (λ j a b. is_false _ (λ t. clash (or_right _ _ (some_of_lem (reads_from h t3 t2) (op_count h + 1) 1 j a (omega arith) t)) e))

  -- the first read from t2, and none where it is the last operation of all: the reads behind it
  behind-first : {r : ℕ} → r ≡ first_from h t2 t3 → (i : ℕ) → 1 ≤ i → i ≤ op_count h → ltb r i ≡ some 1 i (reads_from h t3 t2)
  unfolding first_from
  behind-first {r} e i a b =
      ⊎_elim (λ z. le-ltb r i (omega (arith, z.0)) ∙ sym (some-none (reads_from h t3 t2) i 1 (λ j c d. z.1 j c (omega arith))))
      (λ f.
      same_test _ _ (λ t. some_of_lem (reads_from h t3 t2) i 1 r (omega (arith, f.from)) (ltb-true r i t) (rw e f.passes))
      (λ t.
      let j = some_at (reads_from h t3 t2) i 1 t in
      ⊎_elim (λ l. absurd (clash j.passes (f.none j.at j.from (omega arith)))) (λ g. lt-ltb r i (omega (arith, j.to))) (split j.at r)))
      (first_cases (op_count h) (reads_from h t3 t2) (op_count h + 1) 1)

  module _ (level : ℕ) where
    sees_one : (i : ℕ) → level ≡ 1 → sees h level t2 t3 i ≡ some 1 i (reads_from h t3 t2)
    unfolding sees
    sees_one i e = pick_on _ _ _ (eq-eqb level 1 e)

    pairs_one : level ≡ 1 → pairs_for h level t2 t3 ≡ basic h t2 t3
    unfolding pairs_for
    pairs_one e = ap (λ (f : ℕ → ℕ → Bool). f t2 t3) (pick_off _ (leads h) (basic h) (ne_eqb level 3 (λ q. omega arith)))

    sees-pairs : (i : ℕ) → (level ≡ 1 → ⊥) → 1 ≤ level → level ≤ 3 → sees h level t2 t3 i ≡ pairs_for h level t2 t3
    unfolding sees pairs_for
    sees-pairs i n a b =
        pick_off _ _ _ (ne_eqb level 1 n)
        ∙ ⊎_elim
        (λ l.
        pick_on _ _ _ (eq-eqb level 2 (omega (arith, n)))
        ∙ sym (ap (λ (f : ℕ → ℕ → Bool). f t2 t3) (pick_off _ (leads h) (basic h) (ne_eqb level 3 (λ q. omega arith)))))
        (λ g.
        pick_off _ _ _ (ne_eqb level 2 (λ q. omega arith))
        ∙ sym (ap (λ (f : ℕ → ℕ → Bool). f t2 t3) (pick_on _ (leads h) (basic h) (eq-eqb level 3 (omega arith)))))
        (split level 3)

    -- the level's pairs lack (t2, t3); they have it, at levels 2 and 3; at level 1
    pub from_none : pairs_for h level t2 t3 ≡ false → seen_from h level t2 t3 ≡ op_count h
    unfolding seen_from
    from_none k = pick_off _ _ _ k

    pub from_all : pairs_for h level t2 t3 ≡ true → (level ≡ 1 → ⊥) → seen_from h level t2 t3 ≡ 0
    unfolding seen_from
    from_all k n = pick_on _ _ _ k ∙ pick_off _ _ _ (ne_eqb level 1 n)

    pub from_first : pairs_for h level t2 t3 ≡ true → level ≡ 1 → seen_from h level t2 t3 ≡ first_from h t2 t3
    unfolding seen_from
    from_first k e = pick_on _ _ _ k ∙ pick_on _ _ _ (eq-eqb level 1 e)

    -- so the reads above it are those that see t2
    pub sees_above : 1 ≤ level → level ≤ 3 → (i : ℕ) → 1 ≤ i → i ≤ op_count h → ltb (seen_from h level t2 t3) i ≡ sees h level t2 t3 i
    sees_above a b i c d = at (known (eqb level 1)) (known (pairs_for h level t2 t3))
      where
        none : pairs_for h level t2 t3 ≡ false → ltb (seen_from h level t2 t3) i ≡ false
        none k = ap (λ (r : ℕ). ltb r i) (from_none k) ∙ le-ltb (op_count h) i d

        at : (eqb level 1 ≡ true) ⊎ (eqb level 1 ≡ false) → (pairs_for h level t2 t3 ≡ true) ⊎ (pairs_for h level t2 t3 ≡ false)
            → ltb (seen_from h level t2 t3) i ≡ sees h level t2 t3 i
        at (inl q) (inl k) = let e = eqb-true level 1 q in behind-first (from_first k e) i c d ∙ sym (sees_one i e)
        at (inl q) (inr k) = let e = eqb-true level 1 q in none k ∙ sym (sees_one i e ∙ no_read (sym (pairs_one e) ∙ k) i d)
        at (inr q) (inl k) =
            let n = eqb-false level 1 q in
            ap (λ (r : ℕ). ltb r i) (from_all k n) ∙ lt-ltb 0 i c ∙ sym (sees-pairs i n a b ∙ k)
        at (inr q) (inr k) = none k ∙ sym (sees-pairs i (eqb-false level 1 q) a b ∙ k)
