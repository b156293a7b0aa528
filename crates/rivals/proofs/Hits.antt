-- The search for a hit.
use Prim.Native.Nat.{ℕ, ◌+◌, ◌-◌, ◌<◌, ◌≤◌}
use mathlib.Core.Path.{◌≡◌, refl, sym, ap, ◌∙◌}
use mathlib.Core.Bool.{Bool, true, false, not}
use mathlib.Core.List.{List}
use native.Mathlib.Omega.{arith}
use lib.Dec.{eqb}
use lib.ListN.{get_or}
use borrow.Author.Tests.{eqb-true, eqb-false, eq-eqb, ne_eqb, lt-ltb, le-ltb}
use Rattle.base.specs.Base.{◌and◌, some, last}
use Rattle.base.proofs.Tests.{ifso, clash, is_false, both, and_left, and_right, and_on, and_no_left, and_no_right, or_left, or_right, or_on, pick_on, pick_off}
use Rattle.base.proofs.Searches.{some_end, some_same}
use Rattle.base.proofs.Chains.{last-is, last_hit, last_miss, last_chain, top_hit, top_miss, top_chain}
use Rattle.rules.specs.History.{History, op, op_count, source_of}
use Rattle.rules.specs.Reads.{writes_at, wrote_between, is_external}
use Rattle.rules.specs.Levels.{writes_key}
use Rattle.table.specs.Table.{history_of, of_tx, last_below, last_of, prev_of, HasOp, Below}
use Rattle.table.proofs.Chain.{OnChain, on_last, chain_prev, sought_prev}
use Rattle.bits.specs.Bits.{bit_of, Holds}
use Rattle.pairs.specs.Pairs.{Ready}
use Rattle.pairs.proofs.Pairs.{byte_clean, byte_other, byte_origin}
use Rattle.keys.specs.Keys.{bucket_of, is_shared, wrote, writers}
use Rattle.keys.proofs.Keys.{writers-zero, writers-other, key-wrote}
use Rattle.rivals.specs.Rivals.{is_above, can_rival, fits, is_tried, is_candidate, is_hit, is_hit_of, stands_for, writes_for, tries_from}

-- ── one operation of t2 ──

module _ (h : History) (t2 x w : ℕ) (n : t2 ≡ 0 → ⊥) where
  writes_for_lem : writes_for h t2 x w ≡ writes_at h t2 x w
  unfolding writes_for
  writes_for_lem = or_on _ _ (ne_eqb t2 0 n)

  pub stands_in : stands_for h t2 w ≡ true → (op h w).tx ≡ t2
  unfolding stands_for of_tx
  stands_in e = eqb-true _ _ (sym (or_on _ _ (ne_eqb t2 0 n)) ∙ e)

  pub no_write_for : (op h w).is_write ≡ false → false ≡ writes_for h t2 x w
  unfolding writes_at
  no_write_for e = sym (writes_for_lem ∙ and_no_left _ _ (and_no_left _ _ e))

  pub write_for : stands_for h t2 w ≡ true → (op h w).is_write ≡ true → eqb (op h w).key x ≡ writes_for h t2 x w
  unfolding writes_at
  write_for s e = sym (writes_for_lem ∙ and_on _ _ (both _ _ e (eq-eqb _ _ (stands_in s))))

no_zero : (h : History) (t2 x w : ℕ) → writes_for h t2 x w ≡ false → t2 ≡ 0 → ⊥
unfolding writes_for
no_zero h t2 x w e z = clash (or_left _ _ (eq-eqb t2 0 z)) e

stands_for_lem : (h : History) (t2 w : ℕ) → (op h w).tx ≡ t2 → stands_for h t2 w ≡ true
unfolding stands_for of_tx
stands_for_lem h t2 w e = or_right _ _ (eq-eqb _ _ e)

-- ── all of them ──

module _ (h : History) (t2 x : ℕ) (n : t2 ≡ 0 → ⊥) where
  writes_of : (i : ℕ) → writes_for h t2 x i ≡ true → of_tx h t2 i ≡ true
  unfolding writes_at of_tx
  writes_of i e = and_right _ _ (and_left _ _ (sym (writes_for_lem h t2 x i n) ∙ e))

  to_last : (n : ℕ) → some 1 n (writes_for h t2 x) ≡ some 1 (last (of_tx h t2) n + 1) (writes_for h t2 x)
  to_last n = top_chain (writes_for h t2 x) 1 (of_tx h t2) (λ i _. writes_of i) n (omega arith)

-- ── one read ──

-- what its byte says of whether it is tried: no clean external read, one from t2, one whose pair is settled; any other
module _ {h k : List ℕ} {i : ℕ} (p : Ready h k) (o : HasOp h i) (v : List ℕ) (t2 : ℕ) where
  pub other_untried : get_or k i 0 < 8 → is_tried (history_of h) v t2 i ≡ false
  unfolding is_tried can_rival
  other_untried l = and_no_left _ _ (and_no_left _ _ (byte_other p o l))

  pub source_untried : 8 ≤ get_or k i 0 → get_or k i 0 ≡ 8 + t2 → is_tried (history_of h) v t2 i ≡ false
  unfolding is_tried can_rival
  source_untried l e = and_no_left _ _ (and_no_right _ _ (ap not (eq-eqb (source_of (history_of h) i) t2 (omega (arith, byte_origin p o l)))))

  pub settled_untried : 8 ≤ get_or k i 0 → bit_of v (get_or k i 0 - 8) t2 ≡ true → is_tried (history_of h) v t2 i ≡ false
  unfolding is_tried
  settled_untried l e = rw (byte_origin p o l, e) (and_no_right _ _ refl)

  pub tried : 8 ≤ get_or k i 0 → (get_or k i 0 ≡ 8 + t2 → ⊥) → bit_of v (get_or k i 0 - 8) t2 ≡ false → is_tried (history_of h) v t2 i ≡ true
  unfolding is_tried can_rival
  tried l n e =
      let s = byte_origin p o l in
      rw (s, e) (both _ _ (both _ _ (byte_clean p o l) (ap not (ne_eqb (get_or k i 0 - 8) t2 (λ q. n (omega arith))))) refl)

-- what the table of writers says of its bucket: whether this has t2, another than 0, and whether it is shared
module _ (h : History) (i : ℕ) {w : List ℕ} {b : ℕ} {r : Bool} (p : Holds w (writers h)) (e : b ≡ bucket_of (op h i).key) (l : b < 128) where
  pub bucket_bit : (t2 : ℕ) → (t2 ≡ 0 → ⊥) → t2 < 128 → r ≡ bit_of w b t2 → r ≡ wrote h (bucket_of (op h i).key) t2
  bucket_bit t2 n m q = q ∙ p.is _ t2 l m ∙ writers-other h b t2 n ∙ ap (λ (x : ℕ). wrote h x t2) e

  pub bucket_shared : r ≡ bit_of w b 0 → r ≡ is_shared h (bucket_of (op h i).key)
  bucket_shared q = q ∙ p.is _ 0 l (omega arith) ∙ writers-zero h b ∙ ap (is_shared h) e

-- transaction 0 is in every bucket
pub wrote-zero : (h : History) (b t2 : ℕ) → t2 ≡ 0 → wrote h b t2 ≡ true
unfolding wrote
wrote-zero h b t2 z = or_left _ _ (eq-eqb t2 0 z)

module _ (h : History) (v : List ℕ) (t2 i : ℕ) where
  -- a candidate is tried, and writes a key of the read's bucket
  pub not_tried : is_tried h v t2 i ≡ false → is_candidate h v t2 i ≡ false
  unfolding is_candidate
  not_tried e = and_no_left _ _ e

  pub not_writer : wrote h (bucket_of (op h i).key) t2 ≡ false → is_candidate h v t2 i ≡ false
  unfolding is_candidate
  not_writer e = and_no_right _ _ e

  pub candidate : is_tried h v t2 i ≡ true → wrote h (bucket_of (op h i).key) t2 ≡ true → is_candidate h v t2 i ≡ true
  unfolding is_candidate
  candidate e w = both _ _ e w

  -- where its look starts
  pub from_none : is_candidate h v t2 i ≡ false → tries_from h v t2 i ≡ 0
  unfolding tries_from
  from_none e = pick_off _ _ _ e

  module _ (e : is_candidate h v t2 i ≡ true) where
    pub from_read : t2 ≡ 0 → tries_from h v t2 i ≡ i
    unfolding tries_from
    from_read z = pick_on _ _ _ e ∙ pick_on _ _ _ (eq-eqb t2 0 z)

    pub from_last : (t2 ≡ 0 → ⊥) → tries_from h v t2 i ≡ last_of h t2
    unfolding tries_from
    from_last z = pick_on _ _ _ e ∙ pick_off _ _ _ (ne_eqb t2 0 z)

-- whether read i is a hit is settled by t2's operations up to w
pub record Tries (h : History) (v : List ℕ) (t2 i w : ℕ) : Type 0 where
  pub to : w ≤ op_count h
  pub stands : 0 < w → stands_for h t2 w ≡ true
  pub whole : is_hit h v t2 i ≡ some 1 (w + 1) (writes_for h t2 (op h i).key)

module _ (h : History) (v : List ℕ) (t2 i : ℕ) where
  tries_none : is_hit h v t2 i ≡ false → Tries h v t2 i 0
  tries_none e = record { to = omega arith; stands = λ l. absurd (omega arith); whole = e ∙ sym (some_end _ 1 (0 + 1) (omega arith)) }

  hit_candidate : 1 ≤ i → i ≤ op_count h → is_hit h v t2 i ≡ true → is_candidate h v t2 i ≡ true
  unfolding is_hit is_tried can_rival
  hit_candidate a b e =
      candidate h v t2 i (and_left _ _ e) (key-wrote h i (and_left _ _ (and_left _ _ (and_left _ _ e))) a b t2 (and_right _ _ e))

  module _ (t : is_candidate h v t2 i ≡ true) where
    hit_key : is_hit h v t2 i ≡ writes_key h t2 (op h i).key
    unfolding is_hit is_candidate
    hit_key = and_on _ _ (and_left _ _ t)

    -- "Transaction 0 .. writes value 0 to every key"
    tries_read : t2 ≡ 0 → 1 ≤ i → i ≤ op_count h → Tries h v t2 i i
    unfolding writes_key stands_for writes_for
    tries_read z a b =
        let e = eq-eqb t2 0 z in
        record { to = b; stands = λ l. or_left _ _ e; whole = hit_key ∙ or_left _ _ e ∙ sym (top_hit (writes_for h t2 (op h i).key) 1 i a (or_left _ _ e)) }

    tries_last : (t2 ≡ 0 → ⊥) → Tries h v t2 i (last_of h t2)
    unfolding writes_key wrote_between last_of last_below
    tries_last z =
        record {
          to = (on_last h t2).to;
          stands = λ l. stands_for_lem _ _ _ ((on_last h t2).of l);
          whole =
              hit_key ∙ or_on _ _ (ne_eqb t2 0 z)
              ∙ some_same (writes_at h t2 (op h i).key) (writes_for h t2 (op h i).key) (op_count h + 1) 1 (λ j _ _. sym (writes_for_lem h t2 (op h i).key j z))
              ∙ to_last h t2 (op h i).key z (op_count h + 1);
        }

  pub tries_start : {w : ℕ} → 1 ≤ i → i ≤ op_count h → w ≡ tries_from h v t2 i → Tries h v t2 i w
  tries_start a b e =
      rw e
      (ifso (is_candidate h v t2 i)
      (λ t.
      ifso (eqb t2 0) (λ q. let z = eqb-true t2 0 q in rw (from_read h v t2 i t z) (tries_read t z a b))
      (λ q. let z = eqb-false t2 0 q in rw (from_last h v t2 i t z) (tries_last t z)))
      (λ t. rw (from_none h v t2 i t) (tries_none (is_false _ (λ q. clash (hit_candidate a b q) t)))))

  module _ {w : ℕ} (t : Tries h v t2 i w) where
    -- past an operation that does not write the key; at one that does; at the end
    pub tries_next : {r : ℕ} → 0 < w → writes_for h t2 (op h i).key w ≡ false → Below r (prev_of h w) w → Tries h v t2 i r
    tries_next l e b =
        let z = no_zero h t2 (op h i).key w e in
        let on : (op h w).tx ≡ t2 = stands_in h t2 (op h i).key w z (t.stands l) in
        record {
          to = omega (arith, b.below, t.to);
          stands = λ m. stands_for_lem _ _ _ ((chain_prev (record { to = t.to; of = λ _. on }) l b).of m);
          whole =
              t.whole ∙ top_miss (writes_for h t2 (op h i).key) 1 w e
              ∙ sought_prev h t2 (λ n. some 1 n (writes_for h t2 (op h i).key)) (to_last h t2 (op h i).key z) on b;
        }

    pub tries_hit : 0 < w → writes_for h t2 (op h i).key w ≡ true → is_hit h v t2 i ≡ true
    tries_hit l e = t.whole ∙ top_hit (writes_for h t2 (op h i).key) 1 w l e

    pub tries_end : w ≤ 0 → is_hit h v t2 i ≡ false
    tries_end l = t.whole ∙ some_end (writes_for h t2 (op h i).key) 1 (w + 1) (omega arith)

-- ── the reads of t3 ──

module _ (h : History) (v : List ℕ) (t2 t3 from i : ℕ) where
  is_hit_lem : (op h i).tx ≡ t3 → is_hit h v t2 i ≡ true → from < i → is_hit_of h v t2 t3 from i ≡ true
  unfolding is_hit_of is_above
  is_hit_lem e f l = both _ _ (both _ _ (eq-eqb _ _ e) (lt-ltb from i l)) f

  no_hit : is_hit h v t2 i ≡ false → is_hit_of h v t2 t3 from i ≡ false
  unfolding is_hit_of
  no_hit f = and_no_right _ _ f

  hit_above : i ≤ from → is_hit_of h v t2 t3 from i ≡ false
  unfolding is_hit_of is_above
  hit_above l = and_no_left _ _ (and_no_right _ _ (le-ltb from i l))

  hit_of : is_hit_of h v t2 t3 from i ≡ true → of_tx h t3 i ≡ true
  unfolding is_hit_of is_above of_tx
  hit_of e = and_left _ _ (and_left _ _ e)

  pub hit_tx : is_hit_of h v t2 t3 from i ≡ true → (op h i).tx ≡ t3
  unfolding of_tx
  hit_tx e = eqb-true _ _ (hit_of e)

  pub hit_external : is_hit_of h v t2 t3 from i ≡ true → is_external h i ≡ true
  unfolding is_hit_of is_hit is_tried can_rival
  hit_external e = and_left _ _ (and_left _ _ (and_left _ _ (and_right _ _ e)))

  -- a hit fits; one that fits is a hit where its pair is not settled
  pub hit_fits : is_hit_of h v t2 t3 from i ≡ true → is_above h t3 from i and fits h t2 i ≡ true
  unfolding is_hit_of is_hit is_tried fits
  hit_fits e = let f = and_right _ _ e in both _ _ (and_left _ _ e) (both _ _ (and_left _ _ (and_left _ _ f)) (and_right _ _ f))

  pub fits_hit : is_above h t3 from i and fits h t2 i ≡ true → bit_of v (source_of h i) t2 ≡ false → is_hit_of h v t2 t3 from i ≡ true
  unfolding is_hit_of is_hit is_tried fits
  fits_hit e s = let f = and_right _ _ e in both _ _ (and_left _ _ e) (both _ _ (both _ _ (and_left _ _ f) (ap not s)) (and_right _ _ f))

-- the search from j down, which has come to i
pub record Hunt (h : History) (v : List ℕ) (t2 t3 from j i : ℕ) : Type 0 where
  pub on : OnChain h t3 i
  pub whole : last (is_hit_of h v t2 t3 from) (j + 1) ≡ last (is_hit_of h v t2 t3 from) (i + 1)

module _ (h : History) (v : List ℕ) (t2 t3 from : ℕ) where
  -- the last hit below n is found from the last operation of t3 below n on
  pub last_hit_of : (n : ℕ) → last (is_hit_of h v t2 t3 from) n ≡ last (is_hit_of h v t2 t3 from) (last (of_tx h t3) n + 1)
  last_hit_of = last_chain (of_tx h t3) (is_hit_of h v t2 t3 from) (hit_of h v t2 t3 from)

  module _ {j : ℕ} where
    pub hunt_start : OnChain h t3 j → Hunt h v t2 t3 from j j
    hunt_start o = record { on = o; whole = refl }

    module _ {i : ℕ} (u : Hunt h v t2 t3 from j i) where
      pub hunt_next : {r : ℕ} → 0 < i → is_hit h v t2 i ≡ false → Below r (prev_of h i) i → Hunt h v t2 t3 from j r
      hunt_next l e b =
          record {
            on = chain_prev u.on l b;
            whole =
                u.whole ∙ last_miss (is_hit_of h v t2 t3 from) i (no_hit h v t2 t3 from i e)
                ∙ sought_prev h t3 (last (is_hit_of h v t2 t3 from)) last_hit_of (u.on.of l) b;
          }

      pub hunt_hit : 0 < i → is_hit h v t2 i ≡ true → from < i → i ≡ last (is_hit_of h v t2 t3 from) (j + 1)
      hunt_hit l e a = sym (u.whole ∙ last_hit (is_hit_of h v t2 t3 from) i (is_hit_lem h v t2 t3 from i (u.on.of l) e a))

      pub hunt_end : i ≤ from → 0 ≡ last (is_hit_of h v t2 t3 from) (j + 1)
      hunt_end l =
          sym (u.whole ∙ last-is (is_hit_of h v t2 t3 from) (i + 1) 0 (λ z. absurd (omega arith)) (λ m _ b. hit_above h v t2 t3 from m (omega arith)))
