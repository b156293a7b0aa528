-- Looking at the elements of a list one by one.
use Prim.Native.Nat.{ℕ, ◌+◌, ◌<◌, ◌≤◌}
use mathlib.Core.Path.{◌≡◌, refl, ap, sym, ◌∙◌}
use mathlib.Core.Bool.{Bool, true, false, not, ◌||◌}
use mathlib.Core.List.{List}
use mathlib.Core.Logic.{◌⊎◌, inl, inr, ⊎_elim}
use native.Mathlib.Omega.{arith}
use lib.ListN.{length, get_or, set, length-set}
use lib.Seq.{get_or-set_same, get_or-set_other}
use lib.Dec.{eqb}
use borrow.Author.Tests.{eqb-true, eqb-false, eq-eqb, ne_eqb, lt-ltb, le-ltb}
use Rattle.base.specs.Base.{◌or◌, pick, some}
use Rattle.base.proofs.Tests.{ifso, same_test, both, and_left, and_right, or_right, or_off, known, and_on, and_no_left, and_no_right, pick_on, pick_off, split}
use Rattle.base.proofs.Searches.{some_at, some_of_lem, some_end, some_miss, some_hit}
use Rattle.base.proofs.Chains.{top_hit, top_miss, last_passes}
use Rattle.rules.specs.History.{History, tx, op, op_count, writes_value, write_of}
use Rattle.table.specs.Table.{keyed}
use Rattle.rules.specs.History.{append_key}
use Rattle.appends_rules.specs.Appends.{append_of, appender_of}
use Rattle.appends_rules.specs.ListKinds.{element, is_lost, same_element, is_again, is_undone, last_element, is_half, is_half_by}
use Rattle.rules.specs.Reads.{wrote_between}
use Rattle.elements.specs.declared.ListKind.{ListKind}
use Rattle.elements.specs.declared.ListKind.TheVariants.{Lost, Again, Undone, Half, Apart}
use Rattle.elements.specs.Elements.{number_of, worst, is_aborted, Visited, fault_kind, has_append, mark_of, Fresh, Scanned}

-- ── appends ──

module _ (h : History) (x v : ℕ) (z : 0 < append_of h x v) where
  found : writes_value h (append_key x) v (append_of h x v) ≡ true
  unfolding append_of write_of
  found = (last_passes (writes_value h (append_key x) v) (op_count h + 1) z).0

  pub append_value : (op h (append_of h x v)).value ≡ v
  unfolding writes_value
  append_value = eqb-true _ _ (and_left _ _ (and_left _ _ found))

  pub append_keyed : keyed h (append_key x) (append_of h x v) ≡ true
  unfolding writes_value keyed
  append_keyed = both _ _ (and_right _ _ (and_left _ _ found)) (and_right _ _ found)

-- ── kinds ──

-- a kind's number is not below 7
pub number-low : (k : ListKind) → 7 ≤ number_of k
number-low Lost = omega arith
number-low Again = omega arith
number-low Undone = omega arith
number-low Half = omega arith
number-low Apart = omega arith

-- what the code writes for it
or_is : (a b : Bool) → a || b ≡ a or b
unfolding ◌or◌
or_is true b = refl
or_is false b = refl

-- one number more
some_more : (p : ℕ → Bool) (q : ℕ) → some 0 (q + 1) p ≡ some 0 q p or p q
some_more p q =
    ifso (p q) (λ t. top_hit p 0 q (omega arith) t ∙ sym (or_right _ _ t)) (λ t. top_miss p 0 q t ∙ sym (or_off _ _ t))

module _ (h : History) (x : ℕ) (e : List ℕ) (i : ℕ) (k : List ℕ) where
  -- the first q elements were looked at: none is lost, `again` and `undone` say whether one came again or is undone, and k has become m
  pub record Scanning (m : List ℕ) (again undone : Bool) (q : ℕ) : Type 0 where
    pub within : q ≤ length e
    pub lost : some 0 (length e) (is_lost h x e) ≡ some q (length e) (is_lost h x e)
    pub there : (j : ℕ) → j < q → 0 < append_of h x (element e j)
    pub again_is : again ≡ some 0 q (is_again e)
    pub undone_is : undone ≡ some 0 q (is_undone h x e)
    pub room : length m ≡ 1025
    pub marks : (w : ℕ) → get_or m w 0 ≡ mark_of h x e i k q w

  pub scan_start : Fresh h x i k → Scanning k false false 0
  unfolding mark_of pick
  scan_start f =
      record {
        within = omega arith;
        lost = refl;
        there = λ j l. absurd (omega arith);
        again_is = sym (some_end (is_again e) 0 0 (omega arith));
        undone_is = sym (some_end (is_undone h x e) 0 0 (omega arith));
        room = f.room;
        marks = λ w. rw (some_end (has_append h x e w) 0 0 (omega arith));
      }

  module _ (f : Fresh h x i k) {m : List ℕ} {again undone : Bool} {q : ℕ} (z : Scanning m again undone q) where
    -- only appends have got another number
    kept : (w : ℕ) → (get_or m w 0 ≡ get_or k w 0) ⊎ ((get_or m w 0 ≡ i) × (keyed h (append_key x) w ≡ true))
    unfolding mark_of has_append
    kept w =
        ifso (some 0 q (has_append h x e w))
        (λ t.
        let r = some_at (has_append h x e w) q 0 t in
        let v = element e r.at in
        inr (z.marks w ∙ pick_on _ _ _ t, rw (eqb-true (append_of h x v) w r.passes) at (append_keyed h x v (z.there r.at r.to))))
        (λ t. inl (z.marks w ∙ pick_off _ _ _ t))

    -- an element's append has the number i exactly if the element came before
    again-is : (w : ℕ) → w ≡ append_of h x (element e q) → 0 < w → eqb (get_or m w 0) i ≡ is_again e q
    unfolding mark_of has_append is_again same_element
    again-is w a l =
        same_test _ _
        (λ t.
        ⊎_elim
        (λ (c : some 0 q (has_append h x e w) ≡ true).
        let r = some_at (has_append h x e w) q 0 c in
        let b = eqb-true (append_of h x (element e r.at)) w r.passes in
        some_of_lem (same_element e q) q 0 r.at (omega arith) r.to
        (eq-eqb _ _
        (sym (append_value h x (element e r.at) (z.there r.at r.to)) ∙ ap (λ (u : ℕ). (op h u).value) (b ∙ a) ∙ append_value h x (element e q)
        (omega arith))))
        (λ (c : some 0 q (has_append h x e w) ≡ false).
        absurd
        (omega (
          arith,
          eqb-true (get_or m w 0) i t,
          z.marks w ∙ pick_off _ i (get_or k w 0) c,
          f.below w (rw (sym a) at (append_keyed h x (element e q) (omega arith))),
        )))
        (known (some 0 q (has_append h x e w))))
        (λ t.
        let r = some_at (same_element e q) q 0 t in
        eq-eqb _ _
        (z.marks w
        ∙ pick_on _ _ _
        (some_of_lem (has_append h x e w) q 0 r.at (omega arith) r.to
        (eq-eqb _ _ (ap (append_of h x) (eqb-true (element e r.at) (element e q) r.passes) ∙ sym a)))))

    module _ (l : q < length e) where
      pub scan_lost : (w : ℕ) → w ≡ append_of h x (element e q) → w ≡ 0 → Scanned h x e i k m 7
      unfolding fault_kind is_lost
      scan_lost w a b =
          record {
            kind = sym (pick_on _ _ _ (z.lost ∙ some_hit (is_lost h x e) q (length e) l (eq-eqb _ _ (sym a ∙ b))));
            room = z.room;
            kept = kept;
          }

      pub scan_on : {n : List ℕ} {r t : Bool} (w : ℕ) → w ≡ append_of h x (element e q) → 0 < w → w < 1025 → Visited m n i w r → t ≡ is_aborted h w
          → Scanning n (again || r) (undone || t) (q + 1)
      unfolding is_lost is_aborted is_undone appender_of mark_of has_append
      scan_on {n} {r} {t} w a b c d f =
          record {
            within = omega arith;
            lost = z.lost ∙ some_miss (is_lost h x e) q (length e) l (ne_eqb (append_of h x (element e q)) 0 (λ y. omega (arith, a, y)));
            there = λ j g. ⊎_elim (λ (y : j < q). z.there j y) (λ (y : q ≤ j). let g : j ≡ q = omega arith in rw g (omega (arith, a, b))) (split j q);
            again_is = or_is again r ∙ rw (z.again_is, d.again_is, again-is w a b, some_more (is_again e) q);
            undone_is = or_is undone t ∙ rw (z.undone_is, f, undone_here, some_more (is_undone h x e) q);
            room = ap length d.is ∙ length-set m w i ∙ z.room;
            marks = λ u. ap (λ (g : List ℕ). get_or g u 0) d.is ∙ marks_on u;
          }
        where
          undone_here : is_aborted h w ≡ is_undone h x e q
          undone_here = ap (λ (u : ℕ). eqb (tx h (op h u).tx).status 0) a

          marks_on : (u : ℕ) → get_or (set m w i) u 0 ≡ mark_of h x e i k (q + 1) u
          marks_on u =
              ifso (eqb u w)
              (λ t.
              let g = eqb-true u w t in
              rw g
              (get_or-set_same m w i 0 (omega (arith, z.room))
              ∙ sym (pick_on _ _ _ (top_hit (has_append h x e w) 0 q (omega arith) (eq-eqb (append_of h x (element e q)) w (sym a))))))
              (λ t.
              let g = eqb-false u w t in
              get_or-set_other m w u i 0 g ∙ z.marks u
              ∙ ap (λ (y : Bool). pick y i (get_or k u 0))
              (sym (top_miss (has_append h x e u) 0 q (ne_eqb (append_of h x (element e q)) u (λ y. g (sym (a ∙ y)))))))

    pub scan_end : {r : ℕ} → length e ≤ q → r ≡ worst again undone → Scanned h x e i k m r
    unfolding fault_kind
    scan_end l is =
        let g : q ≡ length e = omega (arith, z.within) in
        record {
          kind = is ∙ rw (z.again_is, z.undone_is, g) (sym (pick_off _ _ _ (z.lost ∙ some_end (is_lost h x e) q (length e) l)));
          room = z.room;
          kept = kept;
        }

-- ── the last element ──

pub half_is : (h : History) (t x : ℕ) (e : List ℕ) (w : ℕ) → 0 < length e → w ≡ append_of h x (last_element e) → is_half_by h t x w (op h w).tx ≡ is_half h t x e
unfolding is_half appender_of
half_is h t x e w l a = ap (λ (u : ℕ). is_half_by h t x u (op h u).tx) a ∙ sym (and_on _ _ (lt-ltb 0 (length e) l))

pub half_none : (h : History) (t x : ℕ) (e : List ℕ) → length e ≡ 0 → is_half h t x e ≡ false
unfolding is_half
half_none h t x e l = and_no_left _ _ (le-ltb 0 (length e) (omega arith))

module _ (h : History) (t x w : ℕ) where
  pub half_zero : w ≡ 0 → is_half_by h t x w (op h w).tx ≡ false
  unfolding is_half_by
  half_zero z = and_no_left _ _ (and_no_left _ _ (le-ltb 0 w (omega arith)))

  pub half_own : (u : ℕ) → u ≡ (op h w).tx → u ≡ t → is_half_by h t x w (op h w).tx ≡ false
  unfolding is_half_by
  half_own u a b = and_no_left _ _ (and_no_right _ _ (ap not (eq-eqb _ _ (sym a ∙ b))))

  pub half_other : (u : ℕ) → 0 < w → u ≡ (op h w).tx → (u ≡ t → ⊥) → is_half_by h t x w (op h w).tx ≡ wrote_between h u (append_key x) w (op_count h + 1)
  unfolding is_half_by
  half_other u z a b =
      and_on _ _ (both _ _ (lt-ltb 0 w z) (ap not (ne_eqb _ _ (λ c. b (a ∙ c))))) ∙ ap (λ (v : ℕ). wrote_between h v (append_key x) w (op_count h + 1)) (sym a)

pub aborted_by : (h : History) (w t c : ℕ) → c ≡ (tx h t).status → t ≡ (op h w).tx → eqb c 0 ≡ is_aborted h w
unfolding is_aborted
aborted_by h w t c a b = ap (λ (n : ℕ). eqb n 0) (a ∙ ap (λ (u : ℕ). (tx h u).status) b)
