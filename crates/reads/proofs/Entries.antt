-- What an operation's byte says.
use Prim.Native.Nat.{ℕ, ◌+◌, ◌<◌, ◌≤◌}
use mathlib.Core.Path.{◌≡◌, ap, sym, ◌∙◌}
use mathlib.Core.Bool.{true, false, not}
use mathlib.Core.List.{List}
use native.Mathlib.Omega.{arith}
use lib.ListN.{get_or}
use lib.Dec.{ltb, leb, eqb}
use borrow.Author.Tests.{eq-eqb, ne_eqb, eqb-true, lt-ltb, le-ltb, le-leb, lt-leb, ltb-true}
use Rattle.base.specs.Base.{◌and◌, pick}
use Rattle.base.proofs.Tests.{ifso, same_test, and_right, and_on, and_no_left, and_no_right, pick_on, pick_off}
use Rattle.rules.specs.History.{History, op, op_count, source_of, committed}
use Rattle.rules.specs.Reads.{kind_of, is_judged, is_finding, is_external, reads_from}
use Rattle.reads.specs.Verdicts.{verdict_of, Judged}
use Rattle.rules.proofs.Kind.{kind-le}

module _ (h : History) (i : ℕ) where
  -- ── the byte, case by case ──

  pub verdict_write : (op h i).is_write ≡ true → 0 ≡ verdict_of h i
  unfolding verdict_of is_external is_finding is_judged ◌and◌ pick
  verdict_write e = rw e

  pub verdict_unjudged : (op h i).is_write ≡ false → committed h (op h i).tx ≡ false → 0 ≡ verdict_of h i
  unfolding verdict_of is_external is_finding is_judged ◌and◌ pick
  verdict_unjudged e f = rw (e, f)

  module _ (e : (op h i).is_write ≡ false) (f : committed h (op h i).tx ≡ true) where
    pub verdict_kind : (kind_of h i ≡ 0 → ⊥) → kind_of h i ≡ verdict_of h i
    unfolding verdict_of is_external is_finding is_judged ◌and◌ pick
    verdict_kind n = rw (e, f, ne_eqb (kind_of h i) 0 n, lt-ltb 0 (kind_of h i) (omega (arith, n)))

    pub verdict_internal : kind_of h i ≡ 0 → source_of h i ≡ (op h i).tx → 0 ≡ verdict_of h i
    unfolding verdict_of is_external is_finding is_judged ◌and◌ pick
    verdict_internal k s = rw (e, f, k, eq-eqb (source_of h i) (op h i).tx s)

    pub verdict_external : kind_of h i ≡ 0 → (source_of h i ≡ (op h i).tx → ⊥) → 8 + source_of h i ≡ verdict_of h i
    unfolding verdict_of is_external is_finding is_judged ◌and◌ pick
    verdict_external k s = rw (e, f, k, ne_eqb (source_of h i) (op h i).tx s)

  -- ── and what it tells ──

  pub external_says : is_external h i ≡ true → verdict_of h i ≡ 8 + source_of h i
  unfolding verdict_of
  external_says e = pick_on _ _ _ e

  -- a clean read is no finding
  finding_unclean : is_finding h i ≡ true → is_external h i ≡ false
  unfolding is_finding is_external
  finding_unclean e =
      let l : 0 < kind_of h i = ltb-true 0 (kind_of h i) (and_right (is_judged h i) (ltb 0 (kind_of h i)) e) in
      and_no_left (is_judged h i and eqb (kind_of h i) 0) (not (eqb (source_of h i) (op h i).tx))
      (and_no_right (is_judged h i) (eqb (kind_of h i) 0) (ne_eqb (kind_of h i) 0 (λ q. omega arith)))

  pub finding_says : is_finding h i ≡ true → verdict_of h i ≡ kind_of h i
  unfolding verdict_of
  finding_says e = pick_off (is_external h i) _ _ (finding_unclean e) ∙ pick_on _ _ _ e

  pub nothing_says : is_external h i ≡ false → is_finding h i ≡ false → verdict_of h i ≡ 0
  unfolding verdict_of
  nothing_says e f = pick_off (is_external h i) _ _ e ∙ pick_off (is_finding h i) _ _ f

  pub finding_from : is_finding h i ≡ true → 1 ≤ kind_of h i
  unfolding is_finding
  finding_from e = ltb-true 0 (kind_of h i) (and_right (is_judged h i) (ltb 0 (kind_of h i)) e)

  inside_small : is_external h i ≡ false → verdict_of h i ≤ 6
  inside_small e =
      ifso (is_finding h i) (λ f. omega (arith, finding_says f, kind-le h i)) (λ f. omega (arith, nothing_says e f))

  pub external_test : is_external h i ≡ leb 8 (verdict_of h i)
  external_test =
      ifso (is_external h i) (λ e. e ∙ sym (le-leb 8 (verdict_of h i) (omega (arith, external_says e))))
      (λ e. e ∙ sym (lt-leb 8 (verdict_of h i) (omega (arith, inside_small e))))

  pub finding_test : is_finding h i ≡ (ltb 0 (verdict_of h i) and ltb (verdict_of h i) 8)
  finding_test =
      ifso (is_finding h i)
      (λ f.
      f
      ∙ sym
      (and_on (ltb 0 (verdict_of h i)) (ltb (verdict_of h i) 8) (lt-ltb 0 (verdict_of h i) (omega (arith, finding_says f, finding_from f)))
      ∙ lt-ltb (verdict_of h i) 8 (omega (arith, inside_small (finding_unclean f)))))
      (λ f.
      f
      ∙ sym
      (ifso (is_external h i) (λ e. and_no_right (ltb 0 (verdict_of h i)) (ltb (verdict_of h i) 8) (le-ltb (verdict_of h i) 8 (omega (arith, external_says e))))
      (λ e. and_no_left (ltb 0 (verdict_of h i)) (ltb (verdict_of h i) 8) (le-ltb 0 (verdict_of h i) (omega (arith, nothing_says e f))))))

  pub reads_from_test : (t a : ℕ) → reads_from h t a i ≡ (eqb (op h i).tx t and eqb (verdict_of h i) (8 + a))
  unfolding reads_from
  reads_from_test t a =
      ifso (is_external h i)
      (λ e.
      let s : eqb (source_of h i) a ≡ eqb (verdict_of h i) (8 + a) =
      same_test (eqb (source_of h i) a) (eqb (verdict_of h i) (8 + a))
      (λ q. eq-eqb (verdict_of h i) (8 + a) (omega (arith, external_says e, eqb-true (source_of h i) a q)))
      (λ q. eq-eqb (source_of h i) a (omega (arith, external_says e, eqb-true (verdict_of h i) (8 + a) q))) in
      rw (and_on (is_external h i) (eqb (op h i).tx t) e, s))
      (λ e.
      and_no_left (is_external h i and eqb (op h i).tx t) (eqb (source_of h i) a) (and_no_left (is_external h i) (eqb (op h i).tx t) e)
      ∙ sym (and_no_right (eqb (op h i).tx t) (eqb (verdict_of h i) (8 + a)) (ne_eqb (verdict_of h i) (8 + a) (λ q. omega (arith, inside_small e)))))

-- ── the same of the table of bytes ──

module _ {k : List ℕ} {h : History} (j : Judged k h) (i : ℕ) (a : 1 ≤ i) (b : i ≤ op_count h) where
  pub judged_external : is_external h i ≡ leb 8 (get_or k i 0)
  judged_external = external_test h i ∙ ap (leb 8) (sym (j.is i a b))

  pub judged_finding : is_finding h i ≡ (ltb 0 (get_or k i 0) and ltb (get_or k i 0) 8)
  judged_finding = finding_test h i ∙ ap (λ (v : ℕ). ltb 0 v and ltb v 8) (sym (j.is i a b))

  pub judged-kind : is_finding h i ≡ true → kind_of h i ≡ get_or k i 0
  judged-kind e = sym (j.is i a b ∙ finding_says h i e)

  pub judged_reads : (t s : ℕ) → reads_from h t s i ≡ (eqb (op h i).tx t and eqb (get_or k i 0) (8 + s))
  judged_reads t s = reads_from_test h i t s ∙ ap (λ (v : ℕ). eqb (op h i).tx t and eqb v (8 + s)) (sym (j.is i a b))
