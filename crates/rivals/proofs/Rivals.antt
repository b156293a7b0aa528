-- What was marked are the rival pairs; these are of transactions that the history has.
use Prim.Native.Nat.{ℕ, ◌+◌, ◌-◌, ◌<◌, ◌≤◌}
use mathlib.Core.Path.{◌≡◌, refl, sym, ap, ◌∙◌}
use mathlib.Core.Bool.{Bool, true, false, not}
use mathlib.Core.List.{List}
use mathlib.Core.Logic.{◌⊎◌, inl, inr, ⊎_elim}
use native.Mathlib.Omega.{arith}
use lib.Dec.{ltb, eqb}
use lib.ListN.{length, get_or}
use borrow.Author.Tests.{eqb-true, eqb-false, eq-eqb, ne_eqb, lt-ltb, le-ltb}
use Rattle.base.specs.Base.{◌and◌, ◌or◌, last}
use Rattle.base.proofs.Tests.{ifso, split, clash, is_false, is_true, same_test, both, and_left, and_right, and_on, and_no_left, and_no_right, or_cases, or_left, or_right, or_on, or_off, not-true}
use Rattle.base.proofs.Searches.{Passing, some_at, some_of_lem, some_same}
use Rattle.base.proofs.Chains.{last_passes, last_less, last_none}
use Rattle.theory.specs.Leads.{via}
use Rattle.rules.specs.History.{History, op, op_count, size, source_of, committed}
use Rattle.rules.specs.Reads.{is_external}
use Rattle.rules.specs.Levels.{basic, writes_key, sees, settles, is_rival, forced}
use Rattle.rules.proofs.Committed.{committed_below}
use Rattle.table.specs.Table.{history_of, of_tx, last_below, last_of, prev_of, Held, HasOp, Below}
use Rattle.table.proofs.Chain.{OnChain, chain_last, chain_prev, sought_prev}
use Rattle.reads.proofs.Fitting.{source_less}
use Rattle.bits.specs.Bits.{Minus, bit_of, Holds, Under, nothing, either, plus_row, row_of, Least, Alone}
use Rattle.bits.proofs.Tables.{holds_same}
use Rattle.bits.proofs.Alone.{row_alone, row_minus}
use Rattle.pairs.specs.Pairs.{Ready, before, cell, across}
use Rattle.pairs.proofs.Marking.{cell-is, cell_has, Marking, mark_chain, mark_down, mark_skip}
use Rattle.pairs.proofs.Pairs.{byte_source, basic-under, before-under, before-via}
use Rattle.keys.specs.Keys.{bucket_of, is_shared}
use Rattle.keys.proofs.Keys.{key-wrote, wrote-key}
use Rattle.rivals.specs.Rivals.{pairs_for, seen_from, is_above, can_rival, fits, is_tried, is_candidate, is_hit_of, hit_bit, hit_bits, settles_in, rival_bit, rival_bits, rival_bits_if, rivals_among, rivals_of, rivals, Foregoing, Chosen, Candidates, is_told, Remains}
use Rattle.rivals.proofs.Hits.{candidate, hit_tx, hit_external, hit_fits, fits_hit, last_hit_of}
use Rattle.rivals.proofs.Seen.{pairs_first, pairs_below, from_none, from_all, sees_above}
use Rattle.rivals.proofs.Sifting.{row_candidates}

-- ── hits, marked from the last down ──

-- a loop that has come to the hit i
pub record Marks (h : History) (t2 t3 from : ℕ) (w : ℕ → ℕ → Bool) (i : ℕ) (v : List ℕ) : Type 0 where
  pub to : i ≤ op_count h
  pub hit : 0 < i → is_hit_of h v t2 t3 from i ≡ true
  pub rest : Marking (hit_bit h t2 t3 from) w 1 (i + 1) v

module _ (h : History) (t2 t3 from : ℕ) {w : ℕ → ℕ → Bool} where
  -- only hits mark what the table lacks: so the next is the last one below n
  marks_last : {v : List ℕ} (n : ℕ) → 1 ≤ n → n ≤ op_count h + 1 → Marking (hit_bit h t2 t3 from) w 1 n v
      → Marks h t2 t3 from w (last (is_hit_of h v t2 t3 from) n) v
  unfolding hit_bit
  marks_last {v} n a b m =
      record {
        to = omega (arith, last_less (is_hit_of h v t2 t3 from) n a);
        hit = λ z. (last_passes (is_hit_of h v t2 t3 from) n z).0;
        rest =
            mark_chain (hit_bit h t2 t3 from) (is_hit_of h v t2 t3 from) n (omega arith)
            (λ i x y e s. let r = cell-is _ _ _ _ _ e in fits_hit h v t2 t3 from i r.0 (rw (r.1, r.2) at s)) m;
      }

  pub marks_start : {v : List ℕ} {j i : ℕ} → j ≤ op_count h → i ≡ last (is_hit_of h v t2 t3 from) (j + 1) → Marking (hit_bit h t2 t3 from) w 1 (j + 1) v
      → Marks h t2 t3 from w i v
  marks_start {j = j} l e m = rw e (marks_last (j + 1) (omega arith) (omega arith) m)

  -- the bit of i is set, and the search goes on below it
  pub marks_next : {v u : List ℕ} {i j r : ℕ} → Marks h t2 t3 from w i v → 0 < i → Holds u (either (bit_of v) (hit_bit h t2 t3 from i))
      → Below j (prev_of h i) i → r ≡ last (is_hit_of h u t2 t3 from) (j + 1) → Marks h t2 t3 from w r u
  marks_next {v} {u} {i} {j} {r} m l k b e =
      let t = hit_tx h v t2 t3 from i (m.hit l) in
      let q : r ≡ last (is_hit_of h u t2 t3 from) i = e ∙ sym (sought_prev h t3 (last (is_hit_of h u t2 t3 from)) (last_hit_of h u t2 t3 from) t b) in
      rw q (marks_last i l (omega (arith, m.to)) (mark_down (hit_bit h t2 t3 from) i l m.rest k))

pub marks_less : (h : History) (v : List ℕ) (t2 t3 from : ℕ) {i j r : ℕ} → r ≡ last (is_hit_of h v t2 t3 from) (j + 1) → j < i → r < i
marks_less h v t2 t3 from {i} {j} {r} e l = omega (arith, last_less (is_hit_of h v t2 t3 from) (j + 1) (omega arith))

-- where it stands is a clean external read of t3's, which fits
module _ {h : History} {t2 t3 from i : ℕ} {w : ℕ → ℕ → Bool} {v : List ℕ} (m : Marks h t2 t3 from w i v) where
  pub marks_on : OnChain h t3 i
  marks_on = record { to = m.to; of = λ l. hit_tx h v t2 t3 from i (m.hit l) }

  pub marks_external : 0 < i → is_external h i ≡ true
  marks_external l = hit_external h v t2 t3 from i (m.hit l)

  pub marks_fits : 0 < i → is_above h t3 from i and fits h t2 i ≡ true
  marks_fits l = hit_fits h v t2 t3 from i (m.hit l)

-- ── hits are what settles pairs ──

record Settled (h : History) (level t2 t1 i : ℕ) : Type 0 where
  external : is_external h i ≡ true
  source : source_of h i ≡ t1
  not_source : t2 ≡ t1 → ⊥
  not_reader : t2 ≡ (op h i).tx → ⊥
  key : writes_key h t2 (op h i).key ≡ true
  seen : sees h level t2 (op h i).tx i ≡ true

module _ (h : History) (level t2 t1 i : ℕ) where
  settled : settles h level t2 t1 i ≡ true → Settled h level t2 t1 i
  unfolding settles
  settled e =
      let a = and_left _ _ e in
      let b = and_left _ _ a in
      let c = and_left _ _ b in
      let d = and_left _ _ c in
      record {
        external = and_left _ _ d;
        source = eqb-true _ _ (and_right _ _ d);
        not_source = eqb-false _ _ (not-true _ (and_right _ _ c));
        not_reader = eqb-false _ _ (not-true _ (and_right _ _ b));
        key = and_right _ _ a;
        seen = and_right _ _ e;
      }

  settles-by : Settled h level t2 t1 i → settles h level t2 t1 i ≡ true
  unfolding settles
  settles-by s =
      let a = both _ _ s.external (eq-eqb _ _ s.source) in
      let b = both _ _ a (ap not (ne_eqb _ _ s.not_source)) in
      let c = both _ _ b (ap not (ne_eqb _ _ s.not_reader)) in
      both _ _ (both _ _ c s.key) s.seen

-- t2 is no rival by a read of t3's
pub record NoRival (h : History) (level t2 t3 : ℕ) : Type 0 where
  pub none : (i : ℕ) → 1 ≤ i → i ≤ op_count h → settles_in h level t3 t2 i ≡ false

module _ (h : History) (level t2 t3 : ℕ) where
  settled_in : (i : ℕ) → settles_in h level t3 t2 i ≡ true → (committed h t2 ≡ true) × ((op h i).tx ≡ t3) × Settled h level t2 (source_of h i) i
  unfolding settles_in
  settled_in i e =
      (and_left _ _ (and_left _ _ e), eqb-true _ _ (and_right _ _ (and_left _ _ e)), settled h level t2 (source_of h i) i (and_right _ _ e))

  -- no read of t3's settles a pair for one that the level's pairs lack before t3
  not-told : 1 ≤ level → level ≤ 3 → pairs_for h level t2 t3 ≡ false → NoRival h level t2 t3
  not-told from to k =
      record {
        none =
            λ i a b.
            is_false _
            (λ e.
            let s = settled_in i e in
            clash (ap (λ (u : ℕ). sees h level t2 u i) (sym s.1) ∙ s.2.seen)
            (sym (sees_above h t2 t3 level from to i a b) ∙ ap (λ (r : ℕ). ltb r i) (from_none h t2 t3 level k) ∙ le-ltb (op_count h) i b));
      }

  fits-settles : (t2 ≡ t3 → ⊥) → committed h t2 ≡ true → (i : ℕ) → ltb (seen_from h level t2 t3) i ≡ sees h level t2 t3 i
      → is_above h t3 (seen_from h level t2 t3) i and fits h t2 i ≡ settles_in h level t3 t2 i
  unfolding is_above fits can_rival settles_in
  fits-settles n c i s =
      same_test _ _
      (λ e.
      let f = and_right _ _ e in
      let t : (op h i).tx ≡ t3 = eqb-true _ _ (and_left _ _ (and_left _ _ e)) in
      both _ _ (both _ _ c (eq-eqb _ _ t))
      (settles-by h level t2 (source_of h i) i
      (record {
        external = and_left _ _ (and_left _ _ f);
        source = refl;
        not_source = λ q. eqb-false _ _ (not-true _ (and_right _ _ (and_left _ _ f))) (sym q);
        not_reader = λ q. n (q ∙ t);
        key = and_right _ _ f;
        seen = ap (λ (u : ℕ). sees h level t2 u i) t ∙ sym s ∙ and_right _ _ (and_left _ _ e);
      })))
      (λ e.
      let t : (op h i).tx ≡ t3 = eqb-true _ _ (and_right _ _ (and_left _ _ e)) in
      let q = settled h level t2 (source_of h i) i (and_right _ _ e) in
      both _ _ (both _ _ (eq-eqb _ _ t) (s ∙ sym (ap (λ (u : ℕ). sees h level t2 u i) t) ∙ q.seen))
      (both _ _ (both _ _ q.external (ap not (ne_eqb _ _ (λ z. q.not_source (sym z))))) q.key))

  -- so what was marked is right, by the reads up to j: the hits
  module _ {v : List ℕ} {j : ℕ} (E : ℕ → ℕ → Bool) (l : j ≤ op_count h) where
    pub rival_hits : {r : ℕ} → 1 ≤ level → level ≤ 3 → (t2 ≡ t3 → ⊥) → committed h t2 ≡ true → r ≡ seen_from h level t2 t3
        → Holds v (either E (hit_bits h t2 t3 r j)) → Holds v (either E (rival_bits h level t3 j t2))
    unfolding either hit_bits rival_bits hit_bit rival_bit across
    rival_hits {r} from to n c e k =
        holds_same k
        (λ x y hx hy.
        ap (λ (b : Bool). E x y or b)
        (some_same (λ i. hit_bit h t2 t3 r i x y) (λ i. rival_bit h level t3 t2 i x y) (j + 1) 1
        (λ i a b. ap (λ (b : Bool). cell b (source_of h i) t2 x y) (rw e (fits-settles n c i (sees_above h t2 t3 level from to i a (omega arith)))))))

-- ── a set of rivals, one after the other ──

module _ (h : History) (level t3 j lo hi : ℕ) where
  -- the next is the smallest from a on
  pub among_skip : {w : ℕ → ℕ → Bool} {a b : ℕ} {v : List ℕ} → Least (row_of lo hi) a 128 b → Marking (rival_bits_if h level t3 j (row_of lo hi)) w a 128 v
      → Marking (rival_bits_if h level t3 j (row_of lo hi)) w b 128 v
  unfolding rival_bits_if
  among_skip l = mark_skip (rival_bits_if h level t3 j (row_of lo hi)) l.from (λ i x y f m n. and_no_left _ _ (l.none i f m n))

  pub among_one : (E : ℕ → ℕ → Bool) (t2 : ℕ) {v : List ℕ} → row_of lo hi t2 ≡ true → Holds v (either E (rival_bits h level t3 j t2))
      → Holds v (either E (rival_bits_if h level t3 j (row_of lo hi) t2))
  unfolding either rival_bits_if
  among_one E t2 e k = holds_same k (λ x y hx hy. ap (λ (b : Bool). E x y or b) (sym (and_on _ _ e)))

-- read `by`, which lies up to j, marks the pair (x, y) against one of those that pass p
record Among (h : History) (level t3 j : ℕ) (p : ℕ → Bool) (x y : ℕ) : Type 0 where
  rival : ℕ
  few : rival < 128
  passes : p rival ≡ true
  by : ℕ
  from : 1 ≤ by
  to : by ≤ j
  marks : rival_bit h level t3 rival by x y ≡ true

module _ (h : History) (level t3 j : ℕ) (p : ℕ → Bool) (x y : ℕ) where
  among-at : rivals_among h level t3 j p x y ≡ true → Among h level t3 j p x y
  unfolding rivals_among rival_bits_if rival_bits across
  among-at e =
      let t = some_at (λ t2. rival_bits_if h level t3 j p t2 x y) 128 0 e in
      let i = some_at (λ i. rival_bit h level t3 t.at i x y) (j + 1) 1 (and_right _ _ t.passes) in
      record {
        rival = t.at;
        few = t.to;
        passes = and_left _ _ t.passes;
        by = i.at;
        from = i.from;
        to = omega (arith, i.to);
        marks = i.passes;
      }

  among-is : Among h level t3 j p x y → rivals_among h level t3 j p x y ≡ true
  unfolding rivals_among rival_bits_if rival_bits across
  among-is a =
      some_of_lem (λ t2. rival_bits_if h level t3 j p t2 x y) 128 0 a.rival (omega arith) a.few
      (both _ _ a.passes (some_of_lem (λ i. rival_bit h level t3 a.rival i x y) (j + 1) 1 a.by a.from (omega (arith, a.to)) a.marks))

-- more reads and more rivals mark what fewer do
among_more : (h : History) (level t3 x y j k : ℕ) (p q : ℕ → Bool) → ((t2 : ℕ) → t2 < 128 → p t2 ≡ true → q t2 ≡ true) → j ≤ k
    → rivals_among h level t3 j p x y ≡ true → rivals_among h level t3 k q x y ≡ true
among_more h level t3 x y j k p q s l e =
    let u = among-at h level t3 j p x y e in
    among-is h level t3 k q x y
    (record {
      rival = u.rival;
      few = u.few;
      passes = s u.rival u.few u.passes;
      by = u.by;
      from = u.from;
      to = omega (arith, u.to);
      marks = u.marks;
    })

-- ── read by read, from the last of t3 down ──

-- an operation of t below n lies up to the last of these
own_below : (h : History) (t n i : ℕ) → (op h i).tx ≡ t → i < n → i ≤ last_below h t n
unfolding last_below of_tx
own_below h t n i own l = ⊎_elim (λ m. absurd (clash (eq-eqb _ _ own) (last_none (of_tx h t) n i m l))) (λ m. m) (split (last (of_tx h t) n) i)

module _ (h : History) (level t3 t2 i x y : ℕ) (e : rival_bit h level t3 t2 i x y ≡ true) where
  bit_settled : ((op h i).tx ≡ t3) × Settled h level t2 (source_of h i) i
  unfolding rival_bit
  bit_settled = let s = settled_in h level t2 t3 i (cell-is _ _ _ _ _ e).0 in (s.1, s.2)

  -- what a read marks against one that is no candidate, the table has
  bit_had : 1 ≤ i → i ≤ op_count h → (v : List ℕ) → is_candidate h v t2 i ≡ false → bit_of v x y ≡ true
  unfolding rival_bit is_tried can_rival
  bit_had a b v n =
      let r = cell-is _ _ _ _ _ e in
      let s = bit_settled.1 in
      rw (r.1, r.2)
      (is_true _
      (λ f.
      clash
      (candidate h v t2 i (both _ _ (both _ _ s.external (ap not (ne_eqb _ _ (λ q. s.not_source (sym q))))) (ap not f))
      (key-wrote h i s.external a b t2 s.key))
      n))

  bit_told : 1 ≤ level → level ≤ 3 → 1 ≤ i → i ≤ op_count h → pairs_for h level t2 t3 ≡ true
  unfolding rival_bit
  bit_told from to a b = is_true _ (λ f. clash (cell-is _ _ _ _ _ e).0 ((not-told h level t2 t3 from to f).none i a b))

-- what read i marks against a candidate stands in the row of its source
marks_here : (h : History) (level t3 i a b t2 x y : ℕ) → rival_bit h level t3 t2 i x y ≡ true → row_of a b t2 ≡ true
    → eqb x (source_of h i) and row_of a b y ≡ true
unfolding rival_bit
marks_here h level t3 i a b t2 x y e c =
    let r = cell-is _ _ _ _ _ e in
    both _ _ (eq-eqb _ _ r.1) (rw r.2 c)

-- at first: all that the level's pairs have before t3, without t3, from the last read of t3 on
module _ {h : List ℕ} {level : ℕ} (p : Held h) (from : 1 ≤ level) (to : level ≤ 3) {t3 l₀ h₀ : ℕ} (f : Foregoing (history_of h) level t3 l₀ h₀)
    {lo hi own₀ own₁ : ℕ} (a : Alone t3 0 own₀) (b : Alone t3 1 own₁) (m : Minus l₀ own₀ lo) (n : Minus h₀ own₁ hi) where
  first-row : (t2 : ℕ) → t2 < 128 → row_of lo hi t2 ≡ row_of l₀ h₀ t2 and not (eqb t3 t2)
  first-row t2 l = row_minus m n t2 l ∙ ap (λ (c : Bool). row_of l₀ h₀ t2 and not c) (row_alone a b t2 l)

  others : (t2 : ℕ) → t2 < 128 → row_of lo hi t2 ≡ true → t2 ≡ t3 → ⊥
  others t2 l e q = eqb-false t3 t2 (not-true _ (and_right _ _ (sym (first-row t2 l) ∙ e))) (sym q)

  told_chosen : Chosen (history_of h) level t3 lo hi
  told_chosen =
      record { is = λ t2 l e. sym (f.is t2 l (others t2 l e)) ∙ and_left _ _ (sym (first-row t2 l) ∙ e); other = others }

  all_of : (j : ℕ) → Below j (last_of (history_of h) t3) (op_count (history_of h) + 1) → (x y : ℕ)
      → rivals_among (history_of h) level t3 j (row_of lo hi) x y ≡ rivals_of (history_of h) level t3 x y
  unfolding rivals_of rival_bits across last_of
  all_of j b x y =
      same_test _ _
      (λ e.
      let a = among-at (history_of h) level t3 j _ x y e in
      let t = pairs_below (history_of h) level a.rival t3 (told_chosen.is a.rival a.few a.passes) in
      some_of_lem (λ t2. rival_bits (history_of h) level t3 (op_count (history_of h)) t2 x y) (size (history_of h)) 0 a.rival (omega arith) (omega (arith, t))
      (some_of_lem (λ i. rival_bit (history_of h) level t3 a.rival i x y) (op_count (history_of h) + 1) 1 a.by a.from (omega (arith, a.to, b.below))
      a.marks))
      (λ e.
      let t = some_at (λ t2. rival_bits (history_of h) level t3 (op_count (history_of h)) t2 x y) (size (history_of h)) 0 e in
      let i = some_at (λ i. rival_bit (history_of h) level t3 t.at i x y) (op_count (history_of h) + 1) 1 t.passes in
      let own = bit_settled (history_of h) level t3 t.at i.at x y i.passes in
      let told = bit_told (history_of h) level t3 t.at i.at x y i.passes from to i.from (omega (arith, i.to)) in
      let few : t.at < 128 = omega (arith, t.to, p.few) in
      let other : t.at ≡ t3 → ⊥ = λ q. own.1.not_reader (q ∙ sym own.0) in
      let bit = f.is t.at few other ∙ told in
      among-is (history_of h) level t3 j _ x y
      (record {
        rival = t.at;
        few = few;
        passes = first-row t.at few ∙ both _ _ bit (ap not (ne_eqb t3 t.at (λ q. other (sym q))));
        by = i.at;
        from = i.from;
        to = omega (arith, own_below (history_of h) t3 (op_count (history_of h) + 1) i.at own.0 i.to, b.is);
        marks = i.passes;
      }))

  pub remains_start : {v : List ℕ} {j : ℕ} → length v ≡ 256 → Below j (last_of (history_of h) t3) (op_count (history_of h) + 1)
      → Remains (history_of h) level t3 (either (bit_of v) (rivals_of (history_of h) level t3)) j lo hi v
  unfolding either
  remains_start {v} {j} room b =
      record {
        room = room;
        on = chain_last b;
        chosen = told_chosen;
        rest = λ x y hx hy. ap (λ (r : Bool). bit_of v x y or r) (all_of j b x y);
      }

-- at the end no read is left
pub remains_end : {h : History} {level t3 : ℕ} {m : ℕ → ℕ → Bool} {i lo hi : ℕ} {v : List ℕ} → Remains h level t3 m i lo hi v → i ≤ 0 → Holds v m
remains_end {h} {level} {t3} {i = i} {lo = lo} {hi = hi} m l =
    record {
      room = m.room;
      is =
          λ x y hx hy.
          sym
          (or_off _ _
          (is_false _ (λ e. let a = among-at h level t3 i (row_of lo hi) x y e in omega (arith, a.from, a.to))))
          ∙ m.rest x y hx hy;
    }

-- ── one read, i ──

module _ (h : History) (level i : ℕ) where
  -- level 1, another operation, a shared bucket; none of them
  pub one_untold : level ≡ 1 → is_told h level i ≡ false
  unfolding is_told
  one_untold e = and_no_left _ _ (and_no_left _ _ (ap not (eq-eqb level 1 e)))

  pub other_untold : is_external h i ≡ false → is_told h level i ≡ false
  unfolding is_told
  other_untold e = and_no_left _ _ (and_no_right _ _ e)

  pub told-by : {r : Bool} → (level ≡ 1 → ⊥) → is_external h i ≡ true → r ≡ is_shared h (bucket_of (op h i).key) → not r ≡ is_told h level i
  unfolding is_told
  told-by n t e = ap not e ∙ sym (and_on _ _ (both _ _ (ap not (ne_eqb level 1 n)) t))

  module _ (told : is_told h level i ≡ true) where
    told_level : level ≡ 1 → ⊥
    unfolding is_told
    told_level = eqb-false level 1 (not-true _ (and_left _ _ (and_left _ _ told)))

    pub told_clean : is_external h i ≡ true
    unfolding is_told
    told_clean = and_right _ _ (and_left _ _ told)

    told_sole : is_shared h (bucket_of (op h i).key) ≡ false
    unfolding is_told
    told_sole = not-true _ (and_right _ _ told)

module _ {h : History} {level t3 i lo hi : ℕ} {v : List ℕ} {a b : ℕ} (on : OnChain h t3 i) (chosen : Chosen h level t3 lo hi) (l : 0 < i)
    (ca : Candidates h v i lo 0 a) (cb : Candidates h v i hi 1 b) where
  -- the candidates are some of those left
  pub candidates_chosen : Chosen h level t3 a b
  candidates_chosen =
      record {
        is = λ t2 l e. chosen.is t2 l (and_left _ _ (sym (row_candidates ca cb t2 l) ∙ e));
        other = λ t2 l e. chosen.other t2 l (and_left _ _ (sym (row_candidates ca cb t2 l) ∙ e));
      }

  -- against one that is left and no candidate the table has what it marks
  had : (t2 x y : ℕ) → t2 < 128 → row_of lo hi t2 ≡ true → row_of a b t2 ≡ false → rival_bit h level t3 t2 i x y ≡ true → bit_of v x y ≡ true
  had t2 x y f r c e =
      bit_had h level t3 t2 i x y e l on.to v (sym (and_on _ _ r) ∙ sym (row_candidates ca cb t2 f) ∙ c)

  module _ {r : ℕ} (q : Below r (prev_of h i) i) where
    -- operation j of t3 up to i is i, or lies up to the one before it
    up_to_prev : (j : ℕ) → (op h j).tx ≡ t3 → j ≤ i → (j ≤ r) ⊎ (j ≡ i)
    unfolding prev_of
    up_to_prev j own to =
        let e : r ≡ last_below h t3 i = rw (on.of l) at q.is in
        ⊎_elim (λ z. inl (omega (arith, own_below h t3 i j own z))) (λ z. inr (omega arith)) (split j i)

    -- what read i marks now, or an earlier one behind it
    module _ (x y : ℕ) (u : Among h level t3 i (row_of lo hi) x y) where
      at_or_below : (u.by ≤ r) ⊎ (u.by ≡ i)
      at_or_below = up_to_prev u.by (bit_settled h level t3 u.rival u.by x y u.marks).0 u.to

    -- its candidates are searched
    module _ {lo' hi' : ℕ} (na : Minus lo a lo') (nb : Minus hi b hi') where
      -- what is marked now and what remains behind it are what remained
      marked-now : (x y : ℕ) → (bit_of v x y or rivals_among h level t3 i (row_of a b) x y) or rivals_among h level t3 r (row_of lo' hi') x y
          ≡ bit_of v x y or rivals_among h level t3 i (row_of lo hi) x y
      marked-now x y =
          same_test _ _
          (λ e. ⊎_elim (λ f. ⊎_elim (or_left _ _) (λ g. or_right _ _ (now g)) (or_cases _ _ f)) (λ f. or_right _ _ (later f)) (or_cases _ _ e))
          (λ e. ⊎_elim (λ f. or_left _ _ (or_left _ _ f)) (λ f. back (among-at h level t3 i (row_of lo hi) x y f)) (or_cases _ _ e))
        where
          now : rivals_among h level t3 i (row_of a b) x y ≡ true → rivals_among h level t3 i (row_of lo hi) x y ≡ true
          now =
              among_more h level t3 x y i i (row_of a b) (row_of lo hi) (λ t2 f c. and_left _ _ (sym (row_candidates ca cb t2 f) ∙ c)) (omega arith)

          later : rivals_among h level t3 r (row_of lo' hi') x y ≡ true → rivals_among h level t3 i (row_of lo hi) x y ≡ true
          later =
              among_more h level t3 x y r i (row_of lo' hi') (row_of lo hi) (λ t2 f c. and_left _ _ (sym (row_minus na nb t2 f) ∙ c)) (omega (arith, q.below))

          back : Among h level t3 i (row_of lo hi) x y
              → (bit_of v x y or rivals_among h level t3 i (row_of a b) x y) or rivals_among h level t3 r (row_of lo' hi') x y ≡ true
          back u =
              ifso (row_of a b u.rival)
              (λ c.
              or_left _ _
              (or_right _ _
              (among-is h level t3 i (row_of a b) x y
              (record { rival = u.rival; few = u.few; passes = c; by = u.by; from = u.from; to = u.to; marks = u.marks }))))
              (λ c.
              ⊎_elim
              (λ z.
              or_right _ _
              (among-is h level t3 r (row_of lo' hi') x y
              (record {
                rival = u.rival;
                few = u.few;
                passes = row_minus na nb u.rival u.few ∙ both _ _ u.passes (ap not c);
                by = u.by;
                from = u.from;
                to = z;
                marks = u.marks;
              })))
              (λ z. or_left _ _ (or_left _ _ (had u.rival x y u.few u.passes c (rw z at u.marks))))
              (at_or_below x y u))

      -- the candidates' pairs are marked, and they are left out
      pub remains_searched : {m : ℕ → ℕ → Bool} {u : List ℕ} → Holds u (either (bit_of v) (rivals_among h level t3 i (row_of a b)))
          → Remains h level t3 m i lo hi v → Remains h level t3 m r lo' hi' u
      unfolding either
      remains_searched k m =
          record {
            room = k.room;
            on = chain_prev on l q;
            chosen =
                record {
                  is = λ t2 f e. chosen.is t2 f (and_left _ _ (sym (row_minus na nb t2 f) ∙ e));
                  other = λ t2 f e. chosen.other t2 f (and_left _ _ (sym (row_minus na nb t2 f) ∙ e));
                };
            rest =
                λ x y hx hy.
                ap (λ (b : Bool). b or rivals_among h level t3 r (row_of lo' hi') x y) (k.is x y hx hy) ∙ marked-now x y ∙ m.rest x y hx hy;
          }

    -- its candidates are all rivals
    module _ (from : 1 ≤ level) (to : level ≤ 3) (told : is_told h level i ≡ true) where
      -- read i marks the pair of each candidate and its source
      candidate_marks : (t2 : ℕ) → t2 < 128 → row_of a b t2 ≡ true → rival_bit h level t3 t2 i (source_of h i) t2 ≡ true
      unfolding rival_bit is_candidate is_tried is_above fits
      candidate_marks t2 f e =
          let c = sym (row_candidates ca cb t2 f) ∙ e in
          let k = and_right _ _ c in
          let pairs = chosen.is t2 f (and_left _ _ c) in
          let writes = wrote-key h i (told_clean h level i told) l on.to t2 (told_sole h level i told) (and_right _ _ k) in
          let seen = lt-ltb (seen_from h level t2 t3) i (omega (arith, from_all h t2 t3 level pairs (told_level h level i told))) in
          let above = both _ _ (both _ _ (eq-eqb _ _ (on.of l)) seen) (both _ _ (and_left _ _ (and_left _ _ k)) writes) in
          cell_has _ (source_of h i) t2
          (sym
          (fits-settles h level t2 t3 (chosen.other t2 f (and_left _ _ c)) (pairs_first h level t2 t3 pairs) i
          (sees_above h t2 t3 level from to i l on.to))
          ∙ above)

      -- what is marked at once and what remains behind it are what remained
      marked-told : (x y : ℕ) → y < 128 → (bit_of v x y or (eqb x (source_of h i) and row_of a b y)) or rivals_among h level t3 r (row_of lo hi) x y
          ≡ bit_of v x y or rivals_among h level t3 i (row_of lo hi) x y
      marked-told x y hy =
          same_test _ _
          (λ e. ⊎_elim (λ f. ⊎_elim (or_left _ _) (λ g. or_right _ _ (now g)) (or_cases _ _ f)) (λ f. or_right _ _ (later f)) (or_cases _ _ e))
          (λ e. ⊎_elim (λ f. or_left _ _ (or_left _ _ f)) (λ f. back (among-at h level t3 i (row_of lo hi) x y f)) (or_cases _ _ e))
        where
          now : eqb x (source_of h i) and row_of a b y ≡ true → rivals_among h level t3 i (row_of lo hi) x y ≡ true
          now e =
              let s : x ≡ source_of h i = eqb-true x (source_of h i) (and_left _ _ e) in
              among-is h level t3 i (row_of lo hi) x y
              (record {
                rival = y;
                few = hy;
                passes = and_left _ _ (sym (row_candidates ca cb y hy) ∙ and_right _ _ e);
                by = i;
                from = l;
                to = omega arith;
                marks = rw s (candidate_marks y hy (and_right _ _ e));
              })

          later : rivals_among h level t3 r (row_of lo hi) x y ≡ true → rivals_among h level t3 i (row_of lo hi) x y ≡ true
          later = among_more h level t3 x y r i (row_of lo hi) (row_of lo hi) (λ t2 f c. c) (omega (arith, q.below))

          back : Among h level t3 i (row_of lo hi) x y
              → (bit_of v x y or (eqb x (source_of h i) and row_of a b y)) or rivals_among h level t3 r (row_of lo hi) x y ≡ true
          back u =
              ⊎_elim
              (λ z.
              or_right _ _
              (among-is h level t3 r (row_of lo hi) x y
              (record { rival = u.rival; few = u.few; passes = u.passes; by = u.by; from = u.from; to = z; marks = u.marks })))
              (λ z.
              let e : rival_bit h level t3 u.rival i x y ≡ true = rw z at u.marks in
              ifso (row_of a b u.rival)
              (λ c. or_left _ _ (or_right _ _ (marks_here h level t3 i a b u.rival x y e c)))
              (λ c. or_left _ _ (or_left _ _ (had u.rival x y u.few u.passes c e))))
              (at_or_below x y u)

      -- the candidates' pairs are marked, and none is left out: the reads below may have others
      pub remains_told : {m : ℕ → ℕ → Bool} {u : List ℕ} → Holds u (plus_row (bit_of v) (source_of h i) (row_of a b)) → Remains h level t3 m i lo hi v
          → Remains h level t3 m r lo hi u
      unfolding plus_row
      remains_told k m =
          record {
            room = k.room;
            on = chain_prev on l q;
            chosen = chosen;
            rest =
                λ x y hx hy.
                ap (λ (b : Bool). b or rivals_among h level t3 r (row_of lo hi) x y) (k.is x y hx hy) ∙ marked-told x y hy ∙ m.rest x y hx hy;
          }

-- the row of the source, by the read's byte
pub told-row : (E : ℕ → ℕ → Bool) (r : ℕ → Bool) {h k u : List ℕ} {i : ℕ} (level : ℕ) → Ready h k → HasOp h i → is_told (history_of h) level i ≡ true
    → Holds u (plus_row E (get_or k i 0 - 8) r) → Holds u (plus_row E (source_of (history_of h) i) r)
told-row E r {h} {k} {i = i} level p o told w =
    let e : source_of (history_of h) i ≡ get_or k i 0 - 8 = omega (arith, byte_source p o (told_clean (history_of h) level i told)) in
    rw e w

-- ── all rivals ──

module _ (h : History) (level : ℕ) where
  bit_rival : (t3 t2 i x y : ℕ) → 1 ≤ i → i < op_count h + 1 → rival_bit h level t3 t2 i x y ≡ true → is_rival h level y x ≡ true
  unfolding rival_bit settles_in is_rival
  bit_rival t3 t2 i x y a b e =
      let r = cell-is _ _ _ _ _ e in
      rw (r.1, r.2)
      (both _ _ (and_left _ _ (and_left _ _ r.0)) (some_of_lem (settles h level t2 (source_of h i)) (op_count h + 1) 1 i a b (and_right _ _ r.0)))

  rival_bit_lem : (t2 t1 i : ℕ) → committed h t2 ≡ true → settles h level t2 t1 i ≡ true → rival_bit h level (op h i).tx t2 i t1 t2 ≡ true
  unfolding rival_bit settles_in
  rival_bit_lem t2 t1 i c e =
      let s = (settled h level t2 t1 i e).source in
      let f : settles h level t2 (source_of h i) i ≡ true = rw s e in
      rw (← s) (cell_has _ _ _ (both _ _ (both _ _ c (eq-eqb (op h i).tx (op h i).tx refl)) f))

  rival_at : (a b : ℕ) → is_rival h level a b ≡ true → (committed h a ≡ true) × Passing (settles h level a b) 1 (op_count h + 1)
  unfolding is_rival
  rival_at a b e = (and_left _ _ e, some_at (settles h level a b) (op_count h + 1) 1 (and_right _ _ e))

module _ {h : List ℕ} (p : Held h) (level : ℕ) where
  rivals_are : (x y : ℕ) → rivals (history_of h) level x y ≡ is_rival (history_of h) level y x
  unfolding rivals rivals_of rival_bits across
  rivals_are x y =
      same_test _ _
      (λ e.
      let t3 = some_at (λ t3. rivals_of (history_of h) level t3 x y) (size (history_of h)) 1 e in
      let t2 = some_at (λ t2. rival_bits (history_of h) level t3.at (op_count (history_of h)) t2 x y) (size (history_of h)) 0 t3.passes in
      let i = some_at (λ i. rival_bit (history_of h) level t3.at t2.at i x y) (op_count (history_of h) + 1) 1 t2.passes in
      bit_rival (history_of h) level t3.at t2.at i.at x y i.from i.to i.passes)
      (λ e.
      let r = rival_at (history_of h) level y x e in
      let i = r.1 in
      some_of_lem (λ t3. rivals_of (history_of h) level t3 x y) (size (history_of h)) 1 (op (history_of h) i.at).tx
      (p.txs_in i.at i.from (omega (arith, i.to))).0 (omega (arith, (p.txs_in i.at i.from (omega (arith, i.to))).1))
      (some_of_lem (λ t2. rival_bits (history_of h) level (op (history_of h) i.at).tx (op_count (history_of h)) t2 x y) (size (history_of h)) 0 y (omega arith)
      (committed_below (history_of h) y r.0)
      (some_of_lem (λ j. rival_bit (history_of h) level (op (history_of h) i.at).tx y j x y) (op_count (history_of h) + 1) 1 i.at i.from i.to
      (rival_bit_lem (history_of h) level y x i.at r.0 i.passes))))

  pub rivals_filled : {t u : List ℕ} → Holds t nothing → Holds u (either (bit_of t) (rivals (history_of h) level))
      → Holds u (before (is_rival (history_of h) level))
  unfolding nothing either before
  rivals_filled n k = holds_same k (λ x y hx hy. or_on _ _ (n.is x y hx hy) ∙ rivals_are x y)

  -- ── they are of transactions that the history has ──

  module _ (a b : ℕ) where
    pub rival_under : is_rival (history_of h) level a b ≡ true → (a < size (history_of h)) × (b < size (history_of h))
    rival_under e =
        let r = rival_at (history_of h) level a b e in
        let i = r.1.at in
        (committed_below (history_of h) a r.0, omega (arith, (settled (history_of h) level a b i r.1.passes).source, source_less h i p))

    pub forced-under : forced (history_of h) level a b ≡ true → (a < size (history_of h)) × (b < size (history_of h))
    unfolding forced
    forced-under e = ⊎_elim (basic-under p a b) rival_under (or_cases _ _ e)

  -- ── the table of forced pairs ──

  module _ {t : List ℕ} (k : Holds t (before (forced (history_of h) level))) where
    -- it can be closed, and then holds what leads to what
    pub forced-closes : Under (size (history_of h)) t
    forced-closes = before-under (forced (history_of h) level) (size (history_of h)) (omega (arith, p.few)) k forced-under

    pub forced-leads : {u : List ℕ} → Holds u (via (bit_of t) (size (history_of h)))
        → Holds u (before (via (forced (history_of h) level) (size (history_of h))))
    forced-leads = before-via (forced (history_of h) level) (size (history_of h)) (omega (arith, p.few)) k

-- basic and rival pairs joined
module _ (h : History) (level : ℕ) {t v u : List ℕ} (b : Holds t (before (basic h))) (r : Holds v (before (is_rival h level))) where
  pub basic-joined : Holds u (either (bit_of t) (bit_of v)) → Holds u (before (forced h level))
  unfolding either before forced
  basic-joined k = holds_same k (λ x y hx hy. rw (b.is x y hx hy, r.is x y hx hy))
