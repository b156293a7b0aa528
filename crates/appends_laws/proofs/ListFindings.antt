-- The findings among list reads are those that the document says, and so is the last field of each.
use Prim.Native.Nat.{ℕ, ◌+◌, ◌<◌}
use mathlib.Core.Path.{◌≡◌, refl, ap, ◌∙◌}
use mathlib.Core.Bool.{Bool, true}
use mathlib.Core.Logic.{⊎_elim, ◌↔◌}
use mathlib.Core.List.{List}
use native.Mathlib.Omega.{arith}
use lib.ListN.{length}
use borrow.Author.Tests.{eqb-true, eq-eqb, ltb-true, ltb-false}
use Rattle.base.specs.Base.{pick, some, first}
use Rattle.base.proofs.Tests.{clash, is_true, both, and_left, and_right, split}
use Rattle.base.proofs.Searches.{some_at, some_of_lem, first_cases, Found}
use Rattle.theory.specs.Entries.{AllOf}
use Rattle.theory.proofs.Entries.{those-all_of}
use Rattle.rules.specs.History.{History, tx, op_count}
use Rattle.demand1.specs.Lawful.{IsOp, LawfulHistory}
use Rattle.appends_rules.specs.Appends.{key_of, append_of, appender_of}
use Rattle.appends_rules.specs.ListKinds.{element, same_element, is_again, is_undone, list_kind, is_list_finding}
use Rattle.appends_rules.specs.ListOutcome.{fault_by, fault_of, list_findings}
use Rattle.appends_rules.proofs.Longest.{clean_kind, kind_clean}
use Rattle.appends_laws.specs.ListFits.{AppendOf, JudgedList, ListFits, never, again, undone, half, apart, HasListKind, IsCleanness}
use Rattle.appends_laws.specs.ListFindings.{ListFinding, FirstElement, EqualsEarlier, Undone, FaultNumber, for_7, for_8, for_9, for_10, for_11}
use Rattle.appends_laws.proofs.ListFits.{append_there, append_known, appender_is, judged_list_iff, clean_list_iff, list_kind_iff}

module _ {h : History} (ok : LawfulHistory h) (l : ℕ → List ℕ) {C : ℕ → Type 0} (are : IsCleanness h l C) where
  -- the findings are the judged list reads that are not clean, by number
  finding_list_iff : {i : ℕ} → IsOp h i → (is_list_finding h l i ≡ true) ↔ ListFinding h l C i
  unfolding is_list_finding
  finding_list_iff {i} o = (
    λ e.
        record {
          judged = (judged_list_iff ok o).0 (and_left _ _ e);
          unclean = λ c. omega (arith, ltb-true 0 (list_kind h l i) (and_right _ _ e), clean_kind h l i ((clean_list_iff ok l are i).1 c));
        },
    λ f.
        let j = (judged_list_iff ok o).1 f.judged in
        both _ _ j
        (is_true _ (λ t. f.unclean ((clean_list_iff ok l are i).0 (kind_clean h l i j (omega (arith, ltb-false 0 (list_kind h l i) t)))))),
  )

  pub list_findings_are : AllOf ◌<◌ (ListFinding h l C) (list_findings h l)
  unfolding list_findings
  list_findings_are =
      those-all_of (is_list_finding h l) 1 (op_count h + 1)
      (λ i. (
        λ f. let o = f.judged.list_read.is_op in (o.from, omega (arith, o.to), (finding_list_iff o).1 f),
        λ a b t. (finding_list_iff (record { from = a; to = omega arith })).0 t,
      ))

  -- ── the last field ──

  -- the first element that passes a test, where one does
  first-element : (p : ℕ → Bool) (i : ℕ) → some 0 (length (l i)) p ≡ true → Found 0 p 0 (length (l i)) (first 0 0 (length (l i)) p)
  first-element p i s =
      let q = some_at p (length (l i)) 0 s in
      ⊎_elim (λ z. absurd (clash q.passes (z.1 q.at q.from q.to))) (λ f. f) (first_cases 0 p (length (l i)) 0)

  module _ (i : ℕ) where
    again_iff : (k : ℕ) → (is_again (l i) k ≡ true) ↔ EqualsEarlier h l i k
    unfolding is_again same_element
    again_iff k = (
      λ s. let q = some_at (same_element (l i) k) k 0 s in (q.at, q.to, eqb-true _ _ q.passes),
      λ z. some_of_lem (same_element (l i) k) k 0 z.0 (omega arith) z.1 (eq-eqb _ _ z.2),
    )

    -- where each element was appended
    undone_iff : (k : ℕ) → AppendOf h (key_of h i) (element (l i) k) (append_of h (key_of h i) (element (l i) k))
        → (is_undone h (key_of h i) (l i) k ≡ true) ↔ Undone h l i k
    unfolding is_undone appender_of
    undone_iff k a = (
      λ s. (append_of h (key_of h i) (element (l i) k), a, eqb-true _ 0 s),
      λ z. eq-eqb _ 0 (ap (λ (u : ℕ). (tx h u).status) (appender_is h (key_of h i) (element (l i) k) ok z.1) ∙ z.2),
    )

    -- kind 7 does not fit: each element was appended
    there : {m : ℕ} → HasListKind h l C i m → 7 < m → (k : ℕ) → k < length (l i)
        → AppendOf h (key_of h i) (element (l i) k) (append_of h (key_of h i) (element (l i) k))
    there y b k d = append_there h _ _ (λ z. y.none_earlier 7 b (never d (λ w a. append_known h _ _ a z)))

    fault_by_lem : {m : ℕ} → HasListKind h l C i m → FaultNumber h l i m (fault_by h (key_of h i) (l i) m)
    unfolding fault_by pick
    fault_by_lem y = go y.fits y
      where
        go : {m : ℕ} → ListFits h l C i m → HasListKind h l C i m → FaultNumber h l i m (fault_by h (key_of h i) (l i) m)
        go (never b d) y = for_7
        go (again {j = j} {k = k} a b e) y =
            let f = first-element (is_again (l i)) i (some_of_lem (is_again (l i)) (length (l i)) 0 k (omega arith) b ((again_iff k).1 (j, a, e))) in
            for_8
            (record { within = f.to; holds = (again_iff _).0 f.passes; none_earlier = λ m c z. clash ((again_iff m).1 z) (f.none m (omega arith) c) })
            (there y (omega arith) _ f.to)
        go (undone {k = k} b w z) y =
            let t = there y (omega arith) in
            let f = first-element (is_undone h (key_of h i) (l i)) i (some_of_lem (is_undone h (key_of h i) (l i)) (length (l i)) 0 k (omega arith) b
            ((undone_iff k (t k b)).1 (_, w, z))) in
            for_9
            (record {
              within = f.to;
              holds = (undone_iff _ (t _ f.to)).0 f.passes;
              none_earlier = λ m c z. clash ((undone_iff m (t m (omega (arith, f.to)))).1 z) (f.none m (omega arith) c);
            })
            (t _ f.to)
        go (half b w d j m) y = for_10 (there y (omega arith) _ (omega arith))
        go (apart k b q f g) y = for_11

    -- the last field is that of the kind
    pub fault_is : {m : ℕ} → JudgedList h i → (m ≡ 0 → ⊥) → list_kind h l i ≡ m → FaultNumber h l i m (fault_of h l i)
    unfolding fault_of
    fault_is {m} j d e = rw e (fault_by_lem ((list_kind_iff ok l are j m d).0 e))

    -- there is one
    first_one : {P : ℕ → Type 0} {j k : ℕ} → FirstElement h l i P j → FirstElement h l i P k → j ≡ k
    first_one {P} {j} {k} x y =
        ⊎_elim (λ b. absurd (y.none_earlier j b x.holds)) (λ g. ⊎_elim (λ b. absurd (x.none_earlier k b y.holds)) (λ b. omega arith) (split k j))
        (split j k)

    -- an append of one element, and of another that is the same element
    append_one : {j k v w : ℕ} → j ≡ k → AppendOf h (key_of h i) (element (l i) j) v → AppendOf h (key_of h i) (element (l i) k) w → v ≡ w
    append_one e p q = ok.one_write _ _ _ _ (rw e at p) q

    pub fault_one : {m v w : ℕ} → FaultNumber h l i m v → FaultNumber h l i m w → v ≡ w
    fault_one for_7 for_7 = refl
    fault_one (for_8 x p) (for_8 y q) = append_one (first_one x y) p q
    fault_one (for_9 x p) (for_9 y q) = append_one (first_one x y) p q
    fault_one (for_10 p) (for_10 q) = ok.one_write _ _ _ _ p q
    fault_one for_11 for_11 = refl
