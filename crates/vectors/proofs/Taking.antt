-- A transaction's vector is what those before it know, and itself.
use Prim.Native.Nat.{ℕ, ◌<◌, ◌≤◌}
use mathlib.Core.Path.{◌≡◌, refl, ◌∙◌}
use mathlib.Core.Bool.{Bool, true}
use mathlib.Core.List.{List}
use mathlib.Core.Logic.{inl, inr, ⊎_elim}
use native.Mathlib.Omega.{arith}
use borrow.Author.Tests.{ltb-true, lt-ltb}
use Rattle.base.specs.Base.{◌and◌}
use Rattle.base.proofs.Tests.{split, clash, both, and_left, and_right, and_on}
use Rattle.theory.specs.Leads.{Leads, step, then}
use Rattle.theory.proofs.Leads.{leads_on}
use Rattle.bits.specs.Bits.{bit_of}
use Rattle.vectors_rules.specs.Latest.{Greatest, KnowsOf, KnowsOrIs}
use Rattle.vectors_rules.proofs.Greatest.{greatest_either}
use Rattle.vectors_rules.proofs.Latest.{leads-last}
use Rattle.vectors_rules.proofs.Own.{own_alone}
use Rattle.vectors.specs.Vectors.{slot, pair_of, column_of, Columns, Changed, NarrowRow, noted_row, Sources, RowGathered, anyone, HasVector, RowPrepared, Finished}

-- ── pairs of the table ──

module _ (f : List ℕ) (a b : ℕ) where
  pub pair_in : pair_of f a b ≡ true → (a < 128) × (b < 128) × (bit_of f b a ≡ true)
  unfolding pair_of
  pair_in e = (ltb-true a 128 (and_left _ _ (and_left _ _ e)), ltb-true b 128 (and_right _ _ (and_left _ _ e)), and_right _ _ e)

  pub pair_of_lem : a < 128 → b < 128 → pair_of f a b ≡ bit_of f b a
  unfolding pair_of
  pair_of_lem ha hb = and_on _ _ (both _ _ (lt-ltb a 128 ha) (lt-ltb b 128 hb))

-- what leads by them is below 128
leads_small : (f : List ℕ) {a b : ℕ} → Leads (pair_of f) a b → a < 128
leads_small f (step e) = (pair_in f _ _ e).0
leads_small f (then e p) = (pair_in f _ _ e).0

-- nothing leads to a number that nothing stands before
leads-none : (f : List ℕ) {a b : ℕ} → ((q : ℕ) → q < 128 → bit_of f b q ≡ true → ⊥) → Leads (pair_of f) a b → ⊥
leads-none f {a} {b} none p =
    ⊎_elim (λ e. let i = pair_in f a b e in none a i.0 i.2) (λ r. let i = pair_in f r.0 b r.2 in none r.0 i.0 i.2) (leads-last p)

-- what p knows, or is, is known to q, which p stands before
handed : {m : ℕ → Bool} {ses : ℕ → ℕ} {f : ℕ → ℕ → Bool} {p q s a : ℕ} → f p q ≡ true → KnowsOrIs m ses f p s a → KnowsOf ses f q s a
handed b (inl k) = record { of = k.of; way = leads_on k.way (step b) }
handed b (inr o) = let e = o.is in record { of = rw e o.of; way = rw e (step b) }

-- ── one row ──

-- a vector has nothing beyond the columns
vector_narrow : {f c v : List ℕ} {width q : ℕ} → Columns c width → q < 128 → HasVector f c v q → NarrowRow v q width
vector_narrow {f} {c} {v} {width} {q} w l h =
    record { is = λ s m n. ⊎_elim (λ z. let k = of ((h.is s n).has z) in absurd (omega arith)) (λ z. omega arith) (split 0 (slot v q s)) }
  where
    of : {x s : ℕ} → KnowsOrIs anyone (column_of c) (pair_of f) q s x → s < width
    of (inl k) = let e = k.of in omega (arith, w.few _ (leads_small f k.way))
    of (inr o) = let e = o.of in omega (arith, w.few q l)

module _ {f c : List ℕ} {t width : ℕ} {v : List ℕ} (w : RowPrepared f c t width v) where
  pub sources : Sources f t width v
  sources =
      record {
        room = w.room;
        here = w.here;
        wide = w.columns.wide;
        empty = w.empty;
        before = λ q l b. let r = w.before q l b in (r.0, vector_narrow w.columns l r.1);
      }

  module _ {u : List ℕ} (g : RowGathered f t v u) where
    -- what p, which stands before t, knows, or is, is at most t's entry, by the row that was taken for p
    held : {p s a : ℕ} → 0 < p → pair_of f p t ≡ true → s < 128 → 0 < a → KnowsOrIs anyone (column_of c) (pair_of f) p s a → a ≤ slot u t s
    held {p} {s} {a} h e l z k =
        let i = pair_in f p t e in
        let r = g.most p h i.0 i.2 in
        omega (
          arith,
          r.most s l,
          ((w.before r.by r.few r.pair).1.is s l).most a z
              (⊎_elim (λ q. rw (← q) k) (λ b. inl (handed (pair_of_lem f p r.by i.0 r.few ∙ b) k)) r.is),
        )

    gathered_is : (s : ℕ) → s < 128 → Greatest (KnowsOf (column_of c) (pair_of f) t s) (slot u t s)
    unfolding anyone
    gathered_is s l =
        record {
          has =
              λ z.
              let r = g.has s l z in
              let e = r.is in
              rw e (handed (pair_of_lem f r.by t r.few w.here ∙ r.pair) (((w.before r.by r.few r.pair).1.is s l).has (omega arith)));
          most =
              λ a z k.
              ⊎_elim (λ e. held z e l z (inr (record { is = refl; member = refl; of = k.of })))
              (λ r.
              ⊎_elim (λ h. held h r.2 l z (inl (record { of = k.of; way = r.1 })))
              (λ h. let e : r.0 ≡ 0 = omega arith in absurd (leads-none f (λ q n b. clash b (w.start q n)) (rw e at r.1))) (split 0 r.0))
              (leads-last k.way);
        }

    -- with t itself noted
    pub taken_row : {z : List ℕ} → Changed u t (noted_row u t (column_of c t) t) z → Finished f c t v z
    unfolding noted_row anyone ◌and◌
    taken_row {z} h =
        record {
          room = h.room;
          row = record { is = λ s l. rw (h.row s l) (greatest_either (gathered_is s l) (own_alone anyone (column_of c) t s)) };
          others = λ x s hx hs d. h.others x s hx hs d ∙ g.others x s hx hs d;
        }
