-- The order as the sequence in which rows are filled, and what comes of it.
use Prim.Native.Nat.{ℕ, ◌<◌}
use mathlib.Core.Path.{◌≡◌, refl, sym, ap, ◌∙◌}
use mathlib.Core.Bool.{true, false, not}
use mathlib.Core.List.{List, []}
use mathlib.Core.Logic.{inl, inr, ⊎_elim}
use native.Mathlib.Omega.{arith}
use lib.ListN.{length, get_or, drop, get_or-append}
use Rattle.base.proofs.Tests.{known, clash, is_false, is_true}
use Rattle.base.proofs.Fill.{Appended}
use Rattle.theory.specs.Leads.{Leads}
use Rattle.theory.specs.Order.{place, Lawful, rest}
use Rattle.theory.proofs.Leads.{listed-none, none-listed}
use Rattle.theory.proofs.Order.{rest_lawful, whole_iff}
use Rattle.theory.proofs.Places.{place_at}
use Rattle.theory.proofs.Same.{rest-same}
use Rattle.order.specs.declared.Words.{Words}
use Rattle.order.specs.Sets.{in_words}
use Rattle.order.specs.Ordering.{stands_before}
use Rattle.vectors_rules.specs.Latest.{KnowsOrIs, Greatest, cyclic}
use Rattle.vectors_rules.proofs.Greatest.{greatest_same, greatest_none}
use Rattle.vectors_rules.proofs.Latest.{leads-second}
use Rattle.vectors_rules.proofs.Own.{own_one}
use Rattle.vectors_rules.proofs.Cycles.{cyclic_no, no_cyclic}
use Rattle.vectors.specs.Vectors.{slot, pair_of, column_of, anyone, Sequence, AllFilled, VectorsGiven, VectorsMade}
use Rattle.vectors.proofs.Taking.{pair_of_lem}

module _ {f : List ℕ} {n : ℕ} {w : Words} {m : ℕ} {c : List ℕ} {width : ℕ} {v : List ℕ} (g : VectorsGiven f n w m c width v) where
  -- the order by the pairs of the table
  abbrev order : List ℕ
  order = rest n (in_words w) (pair_of f) []

  same_order : rest n (in_words w) (stands_before f) [] ≡ order
  unfolding stands_before
  same_order =
      rest-same n (stands_before f) (pair_of f)
      (λ a b ha hb. sym (pair_of_lem f a b (omega (arith, g.table.few)) (omega (arith, g.table.few))))
      (in_words w) (in_words w) (λ a l. refl) []

  module _ {o₀ o : List ℕ} {k : ℕ} (x : Appended o₀ 0 o k (rest n (in_words w) (stands_before f) [])) where
    long : k ≡ length order
    long = omega (arith, x.end, ap length same_order)

    byte : (i : ℕ) → i < k → get_or o i 0 ≡ get_or order i 0
    byte i l =
        ap (λ (b : List ℕ). get_or b i 0) (rw same_order at x).is
        ∙ get_or-append order (drop k o₀) 0 i (omega (arith, long))

    -- not all are placed: some member leads to itself
    pub stuck : (k ≡ m → ⊥) → VectorsMade f n w c v v false
    stuck d =
        record {
          room = g.empty.room;
          is =
              ap not
              (sym
              (is_true (cyclic n (pair_of f))
              (λ e. d (long ∙ (whole_iff g.forces).1 (none-listed (cyclic_no g.forces e)) ∙ sym g.many))));
          vectors = λ e. absurd (clash e refl);
          kept = λ e. refl;
        }

    module _ (all : k ≡ m) where
      -- all are: none does, and the order is lawful
      free : (a : ℕ) → Leads (pair_of f) a a → ⊥
      free = listed-none ((whole_iff g.forces).0 (sym long ∙ all ∙ g.many))

      lawful : Lawful n (in_words w) (pair_of f) order
      lawful = rest_lawful g.forces free

      pub sequence : length o₀ ≡ 128 → Sequence f o k
      sequence h =
          let l = lawful in
          record {
            few = omega (arith, x.room);
            below = λ i q. rw (byte i q) (omega (arith, (l.lists i (omega (arith, long))).0, g.table.few));
            once =
                λ i j a b q.
                let z : get_or order i 0 ≡ get_or order j 0 = sym (byte i (omega arith)) ∙ q ∙ byte j b in
                omega (arith, ap (λ (y : ℕ). place y order) z, l.once i (omega (arith, long)), l.once j (omega (arith, long)));
            after =
                λ i q r hq b.
                let u : get_or order i 0 < 128 = omega (arith, (l.lists i (omega (arith, long))).0, g.table.few) in
                let p : place q order < place (get_or order i 0) order = l.before q (get_or order i 0) (pair_of_lem f q (get_or order i 0) hq u ∙ rw (byte i r) at b) in
                let s : place q order < i = omega (arith, l.once i (omega (arith, long))) in
                (place q order, s, byte (place q order) (omega arith) ∙ place_at q order (omega (arith, long)));
            start = λ q hq. is_false _ (λ b. omega (arith, l.first, l.before q 0 (pair_of_lem f q 0 hq (omega arith) ∙ b)));
          }

      module _ {u : List ℕ} (h : AllFilled f c o k u) where
        -- the vector of a member, and of any other, which nothing leads to
        vector : (t s : ℕ) → t < 128 → s < 128 → Greatest (KnowsOrIs (in_words w) (column_of c) (pair_of f) t s) (slot u t s)
        unfolding anyone
        vector t s ht hs =
            ⊎_elim
            (λ (b : in_words w t ≡ true).
            let p = lawful.has t (g.within t ht b) b in
            let e : get_or o (place t order) 0 ≡ t = byte (place t order) (omega (arith, long)) ∙ place_at t order p in
            greatest_same (λ a z q. ⊎_elim (λ q. inl q) (λ q. inr (record { is = q.is; member = b; of = q.of })) q)
            (λ a z q. ⊎_elim (λ q. inl q) (λ q. inr (record { is = q.is; member = refl; of = q.of })) q)
            ((rw e at (h.done (place t order) (omega (arith, long)))).is s hs))
            (λ (b : in_words w t ≡ false).
            rw (h.left t s ht hs (λ i l e. clash (rw (sym (byte i l) ∙ e) at (lawful.lists i (omega (arith, long))).1) b))
            (greatest_none (λ a z q. ⊎_elim (λ q. clash (leads-second g.forces q.way).1 b) (λ q. clash q.member b) q)))
            (known (in_words w t))

        pub placed : VectorsMade f n w c v u true
        placed =
            record {
              room = h.room;
              is = ap not (sym (no_cyclic g.forces free));
              vectors = λ _ t s ht hs. own_one g.forces t s (slot u t s) (vector t s ht hs);
              kept = λ e. absurd (clash refl e);
            }
