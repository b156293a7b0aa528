-- What a list read is: the first kind that fits, as the checks find it out, and its code.
use Prim.Native.Nat.{ℕ, ◌<◌, ◌≤◌}
use mathlib.Core.Path.{◌≡◌, refl, sym, ◌∙◌}
use mathlib.Core.Bool.{Bool, true, false}
use mathlib.Core.List.{List, [], ◌∷◌}
use mathlib.Core.Logic.{◌⊎◌, ⊎_elim}
use native.Mathlib.Omega.{arith}
use Rattle.base.specs.Base.{pick, row, first_fit}
use Rattle.base.proofs.Tests.{ifso, is_false, is_true, both, and_no_left, and_no_right, pick_on, pick_off, pick_both}
use Rattle.rules.specs.History.{History, op, committed}
use Rattle.appends_rules.specs.Appends.{is_list, is_judged_list}
use Rattle.appends_rules.specs.ListKinds.{is_half, list_kind_by, list_kind, is_clean_list}
use Rattle.appends_rules.proofs.Longest.{kind-by_longest, clean_judged, clean_kind, kind_clean}
use Rattle.std.specs.Prelude.{Option, None, Some, MatchOption}
use Rattle.std.specs.Bool.{then_some}
use Rattle.elements.specs.declared.ListKind.{ListKind}
use Rattle.elements.specs.declared.ListKind.TheVariants.{Apart}
use Rattle.elements.specs.Elements.{number_of, number_or_0, worst, fault_kind}
use Rattle.elements.proofs.Scanning.{number-low}
use Rattle.grading.specs.Grades.{code_of}

-- ── the first kind that fits, over bare tests ──

-- the rows one by one
unfoldable kinds : Bool → Bool → Bool → Bool → Bool → ℕ
kinds l a u f b = pick l 7 (pick a 8 (pick u 9 (pick f 10 (pick b 11 0))))

rows : (l a u f b : Bool) → first_fit (row l 7 ∷ row a 8 ∷ row u 9 ∷ row f 10 ∷ row b 11 ∷ []) ≡ kinds l a u f b
unfolding first_fit pick kinds
rows true a u f b = refl
rows false true u f b = refl
rows false false true f b = refl
rows false false false true b = refl
rows false false false false true = refl
rows false false false false false = refl

some_fault : (l a u f b : Bool) → (pick l 7 (worst a u) ≡ 0 → ⊥) → pick l 7 (worst a u) ≡ kinds l a u f b
unfolding worst pick kinds
some_fault true a u f b d = refl
some_fault false true u f b d = refl
some_fault false false true f b d = refl
some_fault false false false f b d = absurd (d refl)

no_fault : (l a u f b : Bool) → pick l 7 (worst a u) ≡ 0 → ◌≡◌ {A = ℕ} (pick f 10 (pick b 11 0)) (kinds l a u f b)
unfolding worst pick kinds
no_fault true a u f b d = absurd (omega arith)
no_fault false true u f b d = absurd (omega arith)
no_fault false false true f b d = absurd (omega arith)
no_fault false false false f b d = refl

not_kind : (l a u : Bool) {r : ℕ} → r ≡ pick l 7 (worst a u) → (r < 7) ⊎ (11 < r) → r ≡ 0
unfolding worst pick
not_kind true a u e d = absurd (⊎_elim (λ x. omega arith) (λ x. omega arith) d)
not_kind false true u e d = absurd (⊎_elim (λ x. omega arith) (λ x. omega arith) d)
not_kind false false true e d = absurd (⊎_elim (λ x. omega arith) (λ x. omega arith) d)
not_kind false false false e d = e

-- a kind is 0, or from 7 to 11
range : (l a u f b : Bool) (n : ℕ) → n ≡ kinds l a u f b → (n ≤ 11) × ((n ≡ 0 → ⊥) → 7 ≤ n)
unfolding pick kinds
range true a u f b n e = (omega arith, λ z. omega arith)
range false true u f b n e = (omega arith, λ z. omega arith)
range false false true f b n e = (omega arith, λ z. omega arith)
range false false false true b n e = (omega arith, λ z. omega arith)
range false false false false true n e = (omega arith, λ z. omega arith)
range false false false false false n e = (omega arith, λ z. absurd (z e))

-- a number of no kind is 0
pub fault-none : (h : History) (x : ℕ) (e : List ℕ) {r : ℕ} → r ≡ fault_kind h x e → (r < 7) ⊎ (11 < r) → r ≡ 0
unfolding fault_kind
fault-none h x e q d = not_kind _ _ _ q d

module _ (h : History) (t x : ℕ) (e : List ℕ) (b : Bool) where
  pub kind_fault : (fault_kind h x e ≡ 0 → ⊥) → fault_kind h x e ≡ list_kind_by h t x e b
  unfolding fault_kind list_kind_by
  kind_fault d = some_fault _ _ _ (is_half h t x e) b d ∙ sym (rows _ _ _ _ _)

  pub kind_late : fault_kind h x e ≡ 0 → ◌≡◌ {A = ℕ} (pick (is_half h t x e) 10 (pick b 11 0)) (list_kind_by h t x e b)
  unfolding fault_kind list_kind_by
  kind_late d = no_fault _ _ _ (is_half h t x e) b d ∙ sym (rows _ _ _ _ _)

-- 11 or none
pub apart_or_none : (b : Bool) → pick b 11 0 ≡ number_or_0 (then_some b Apart)
unfolding pick
apart_or_none true = refl
apart_or_none false = refl

-- ── codes ──

module _ (h : History) (l : ℕ → List ℕ) where
  kind_range : (i : ℕ) → (list_kind h l i ≤ 11) × ((list_kind h l i ≡ 0 → ⊥) → 7 ≤ list_kind h l i)
  unfolding list_kind_by
  kind_range i = range _ _ _ _ _ (list_kind h l i) (kind-by_longest h l i ∙ rows _ _ _ _ _)

  pub kind-low : (i : ℕ) → (list_kind h l i ≡ 0 → ⊥) → 7 ≤ list_kind h l i
  kind-low i = (kind_range i).1

  kind-not_1 : (i : ℕ) → list_kind h l i ≡ 1 → ⊥
  kind-not_1 i e = omega (arith, e, kind-low i (λ z. omega (arith, e, z)))

  pub code_other : (i : ℕ) → is_list h i ≡ false → code_of h l i ≡ 0
  unfolding code_of is_judged_list
  code_other i e = pick_off _ _ _ (and_no_left _ _ e)

  module _ (i : ℕ) (is : is_list h i ≡ true) where
    pub code_unjudged : committed h (op h i).tx ≡ false → 0 ≡ code_of h l i
    unfolding code_of is_judged_list
    code_unjudged c = sym (pick_off _ _ _ (and_no_right _ _ c))

    module _ (c : committed h (op h i).tx ≡ true) where
      judged : is_judged_list h i ≡ true
      unfolding is_judged_list
      judged = both _ _ is c

      pub code-kind : (list_kind h l i ≡ 0 → ⊥) → list_kind h l i ≡ code_of h l i
      unfolding code_of
      code-kind d = sym (pick_on _ _ _ judged ∙ pick_off _ _ _ (is_false _ (λ t. d (clean_kind h l i t))))

      pub code_clean : list_kind h l i ≡ 0 → 1 ≡ code_of h l i
      unfolding code_of
      code_clean e = sym (pick_on _ _ _ judged ∙ pick_on _ _ _ (kind_clean h l i judged e))

      -- by the kind that was found, if any
      pub code_found : (f : Option ListKind) {r : ℕ} → number_or_0 f ≡ list_kind h l i → MatchOption f (r ≡ 1) (λ k. r ≡ number_of k) → r ≡ code_of h l i
      code_found None q e = e ∙ code_clean (sym q)
      code_found (Some k) q e = e ∙ q ∙ code-kind (λ z. omega (arith, number-low k, q, z))

  pub code_most : (i : ℕ) → code_of h l i ≤ 11
  unfolding code_of
  code_most i =
      pick_both (λ (n : ℕ). n ≤ 11) (is_judged_list h i) (pick_both (λ (n : ℕ). n ≤ 11) (is_clean_list h l i) (omega arith) (omega (arith, (kind_range i).0)))
      (omega arith)

  pub code_small : (i : ℕ) → code_of h l i < 16
  code_small i = omega (arith, code_most i)

  -- its code is 1 exactly if it is clean
  pub clean_code : (i : ℕ) → is_clean_list h l i ≡ true → code_of h l i ≡ 1
  unfolding code_of
  clean_code i t = pick_on _ _ _ (clean_judged h l i t) ∙ pick_on _ _ _ t

  pub code-is_clean : (i : ℕ) → code_of h l i ≡ 1 → is_clean_list h l i ≡ true
  unfolding code_of
  code-is_clean i e =
      is_true _
      (λ t.
      ifso (is_judged_list h i) (λ j. kind-not_1 i (sym (pick_on _ _ _ j ∙ pick_off _ _ _ t) ∙ e))
      (λ j. omega (arith, sym (pick_off (is_judged_list h i) _ 0 j) ∙ e)))
