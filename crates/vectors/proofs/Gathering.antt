-- What those before t know, taken from the greatest of them down, without those that stand before one that was taken.
use Prim.Native.Nat.{ℕ, ◌+◌, ◌*◌, ◌<◌, ◌≤◌}
use mathlib.Core.Path.{◌≡◌, refl, sym, ap, ◌∙◌}
use mathlib.Core.Bool.{true, not}
use mathlib.Core.List.{List}
use mathlib.Core.Logic.{◌⊎◌, inl, inr, ⊎_elim}
use native.Mathlib.Omega.{arith}
use lib.Bits.{bit_or}
use lib.Dec.{eqb}
use lib.ListN.{length, get_or}
use borrow.Author.Tests.{eqb-true, eq-eqb}
use Rattle.base.specs.Base.{◌and◌, ◌or◌, last}
use Rattle.base.proofs.Tests.{ifso, split, clash, both, and_left, and_right, or_cases, or_right, not-true}
use Rattle.base.proofs.Chains.{last_passes, last_none}
use Rattle.bits.specs.Bits.{Minus, bit_of, row_of, Alone}
use Rattle.bits.proofs.Tables.{row-own}
use Rattle.bits.proofs.Alone.{row_alone, row_minus}
use Rattle.vectors_rules.specs.Latest.{greater}
use Rattle.vectors_rules.proofs.Greatest.{greater_left, greater_right}
use Rattle.vectors.specs.Vectors.{slot, Changed, NarrowRow, merged_row, Sources, From, RowTaken, RowGathered}
use Rattle.vectors.proofs.Joining.{row_or}

-- ── what is left to take ──

-- lo' and hi' are lo and hi without what stands before p, and without p
pub record Lost (f : List ℕ) (p lo hi lo' hi' : ℕ) : Type 0 where
  pub is : (x : ℕ) → x < 128 → row_of lo' hi' x ≡ row_of lo hi x and not (bit_of f p x or eqb p x)

module _ {f : List ℕ} {p lo hi lo' hi' : ℕ} where
  pub dropped : {a b : ℕ} → Alone p 0 a → Alone p 1 b → Minus lo (bit_or (get_or f (2 * p) 0) a) lo' → Minus hi (bit_or (get_or f (2 * p + 1) 0) b) hi'
      → Lost f p lo hi lo' hi'
  dropped {a} {b} ha hb ml mh =
      record {
        is =
            λ x l.
            row_minus ml mh x l ∙ rw (row_or (get_or f (2 * p) 0) (get_or f (2 * p + 1) 0) a b x l, row-own f p x l, row_alone ha hb x l);
      }

  module _ (d : Lost f p lo hi lo' hi') (x : ℕ) (l : x < 128) where
    -- what is left was there
    dropped_within : row_of lo' hi' x ≡ true → row_of lo hi x ≡ true
    dropped_within e = and_left _ _ (sym (d.is x l) ∙ e)

    -- what was there is left, or is p, or stands before it
    dropped_cases : row_of lo hi x ≡ true → (row_of lo' hi' x ≡ true) ⊎ ((x ≡ p) ⊎ (bit_of f p x ≡ true))
    dropped_cases e =
        ifso (bit_of f p x or eqb p x) (λ t. inr (⊎_elim (λ q. inr q) (λ q. inl (sym (eqb-true p x q))) (or_cases _ _ t)))
        (λ t. inl (d.is x l ∙ both _ _ e (ap not t)))

  -- p was the greatest: what is left is below
  dropped_less : {r : ℕ} → Lost f p lo hi lo' hi' → p ≡ last (row_of lo hi) 128 → 0 < p → r ≡ last (row_of lo' hi') 128 → r < p
  dropped_less {r} d e h i =
      ⊎_elim
      (λ z.
      let q = rw (← i) at (last_passes (row_of lo' hi') 128 (rw i at z)) in
      ⊎_elim (λ l. l)
      (λ l.
      absurd
      (⊎_elim (λ m. clash (dropped_within d r q.1 q.0) (last_none (row_of lo hi) 128 r (omega arith) q.1))
      (λ m.
      let same : p ≡ r = omega arith in
      clash (or_right (bit_of f p r) _ (eq-eqb p r same)) (not-true _ (and_right _ _ (sym (d.is r q.1) ∙ q.0))))
      (split p r)))
      (split r p))
      (λ z. omega arith) (split 0 r)

-- ── the loop ──

-- one that has the set (lo, hi) left, of which p is the greatest
pub record Gathering (f : List ℕ) (t : ℕ) (v : List ℕ) (lo hi p : ℕ) (u : List ℕ) : Type 0 where
  pub top : p ≡ last (row_of lo hi) 128
  pub few : p < 128
  pub room : length u ≡ 16384
  pub within : (x : ℕ) → x < 128 → row_of lo hi x ≡ true → bit_of f t x ≡ true
  pub has : (s : ℕ) → s < 128 → 0 < slot u t s → From f v t s (slot u t s)
  pub most : (x : ℕ) → 0 < x → x < 128 → bit_of f t x ≡ true → (row_of lo hi x ≡ true) ⊎ RowTaken f v t u x
  pub others : (x s : ℕ) → x < 128 → s < 128 → (x ≡ t → ⊥) → slot u x s ≡ slot v x s

module _ {f : List ℕ} {t width : ℕ} {v : List ℕ} (w : Sources f t width v) where
  pub gathering_start : {p : ℕ} → (p ≡ last (row_of (get_or f (2 * t) 0) (get_or f (2 * t + 1) 0)) 128) × (p < 128)
      → Gathering f t v (get_or f (2 * t) 0) (get_or f (2 * t + 1) 0) p v
  gathering_start e =
      record {
        top = e.0;
        few = e.1;
        room = w.room;
        within = λ x l b. sym (row-own f t x l) ∙ b;
        has = λ s l h. absurd (omega (arith, w.empty s l));
        most = λ x h l b. inl (row-own f t x l ∙ b);
        others = λ x s hx hs d. refl;
      }

  module _ {lo hi p : ℕ} {u : List ℕ} (g : Gathering f t v lo hi p u) where
    module _ (h : 0 < p) where
      before : (bit_of f t p ≡ true) × (p ≡ t → ⊥) × NarrowRow v p width
      before =
          let e = g.top in
          let r : row_of lo hi p ≡ true = rw e (last_passes (row_of lo hi) 128 (omega arith)).0 in
          let b = g.within p g.few r in
          let q = w.before p g.few b in
          (b, q.0, q.1)

      same : (s : ℕ) → s < 128 → slot u p s ≡ slot v p s
      same s l = g.others p s g.few l before.1

      -- row p can be merged
      pub gathering_turn : NarrowRow u p width
      gathering_turn = record { is = λ s l m. same s m ∙ before.2.is s l m }

      -- the greatest that is left then is below p
      pub gathering_less : {lo' hi' p' : ℕ} → Lost f p lo hi lo' hi' → p' ≡ last (row_of lo' hi') 128 → p' < p
      gathering_less d e = dropped_less d g.top h e

      module _ {lo' hi' p' : ℕ} {z : List ℕ} (c : Changed u t (merged_row u t p) z) (d : Lost f p lo hi lo' hi') (e : (p' ≡ last (row_of lo' hi') 128) × (p' < 128)) where
        value : (s : ℕ) → s < 128 → slot z t s ≡ greater (slot u t s) (slot v p s)
        unfolding merged_row
        value s l = c.row s l ∙ ap (greater (slot u t s)) (same s l)

        -- each entry is the old one or that of row p
        at_least : (s : ℕ) → s < 128 → (slot u t s ≤ slot z t s) × (slot v p s ≤ slot z t s)
        at_least s l =
            let q = value s l in
            ⊎_elim (λ m. let k = greater_right (slot u t s) (slot v p s) (omega arith) in (omega arith, omega arith))
            (λ m. let k = greater_left (slot u t s) (slot v p s) m in (omega arith, omega arith)) (split (slot u t s) (slot v p s))

        entries : (s : ℕ) → s < 128 → 0 < slot z t s → From f v t s (slot z t s)
        entries s l n =
            let q = value s l in
            ⊎_elim
            (λ m.
            let k = greater_right (slot u t s) (slot v p s) (omega arith) in
            record { by = p; few = g.few; pair = before.0; is = q ∙ k })
            (λ m.
            let k = greater_left (slot u t s) (slot v p s) m in
            let r = g.has s l (omega arith) in
            record { by = r.by; few = r.few; pair = r.pair; is = q ∙ k ∙ r.is })
            (split (slot u t s) (slot v p s))

        taken_more : (x : ℕ) → RowTaken f v t u x → RowTaken f v t z x
        taken_more x r =
            record { by = r.by; few = r.few; pair = r.pair; is = r.is; most = λ s l. omega (arith, r.most s l, (at_least s l).0) }

        -- with p taken: what stands before it is left out, since whoever reaches that reaches p
        pub gathering_step : Gathering f t v lo' hi' p' z
        gathering_step =
            record {
              top = e.0;
              few = e.1;
              room = c.room;
              within = λ x l b. g.within x l (dropped_within d x l b);
              has = entries;
              most =
                  λ x n l b.
                  ⊎_elim
                  (λ r.
                  ⊎_elim (λ q. inl q)
                  (λ q. inr (record { by = p; few = g.few; pair = before.0; is = q; most = λ s m. (at_least s m).1 })) (dropped_cases d x l r))
                  (λ r. inr (taken_more x r)) (g.most x n l b);
              others = λ x s hx hs n. c.others x s hx hs n ∙ g.others x s hx hs n;
            }

    -- none is left besides 0
    pub gathering_end : p ≤ 0 → RowGathered f t v u
    gathering_end l =
        record {
          room = g.room;
          has = g.has;
          most = λ x h n b. ⊎_elim (λ r. absurd (clash r (last_none (row_of lo hi) 128 x (omega (arith, g.top)) n))) (λ r. r) (g.most x h n b);
          others = g.others;
        }
