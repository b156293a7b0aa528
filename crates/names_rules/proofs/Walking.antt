-- One record of a names file, and the walk past it.
use Prim.Native.Nat.{ℕ, zero, suc, ◌+◌, ◌≤◌, ◌<◌}
use mathlib.Core.Path.{◌≡◌, refl, ap, sym, ◌∙◌}
use mathlib.Core.Bool.{true, false, not}
use mathlib.Core.Logic.{⊎_elim}
use mathlib.Core.List.{List, [], ◌∷◌}
use native.Mathlib.Omega.{arith}
use lib.ListN.{length}
use lib.Dec.{ltb, eqb}
use borrow.Author.Tests.{ltb-false, eqb-true, eq-eqb, ne_eqb, lt-ltb, le-ltb}
use Rattle.base.specs.Base.{◌or◌, some, row, first_fit}
use Rattle.base.proofs.Tests.{split, neither_left, neither_right, not-false, pick_on, pick_off}
use Rattle.base.proofs.Rows.{fit_past, fit_here, fit_none, fit_unfit}
use Rattle.rules.specs.Records.{len_at, kind_at, next_at}
use Rattle.names_rules.specs.Names.{key_at, is_odd, name_rows, name_no, FileCheck, check_from, checked, offsets_from}
use Rattle.std.specs.Prelude.{Ok, Err}
use Rattle.rules.specs.Refusals.{declined}

-- a record that no row refuses
pub record NameFits (s : List ℕ) (at low : ℕ) : Type 0 where
  pub least : 7 ≤ len_at s at
  pub most : len_at s at ≤ 46
  pub room : next_at s at ≤ length s
  pub kind : kind_at s at ≡ 32
  pub name : some (at + 8) (next_at s at) (is_odd s) ≡ false
  pub ascends : low ≤ key_at s at

-- ── the rows, from the first ──

module _ (s : List ℕ) (at low : ℕ) where
  pub no_field : length s < at + 2 → 3 ≡ name_no s at low
  unfolding name_no name_rows
  no_field a = fit_here _ _ _ (lt-ltb _ _ a)

  module _ (a : at + 2 ≤ length s) where
    pub other_length : ltb (len_at s at) 7 or ltb 46 (len_at s at) ≡ true → 4 ≡ name_no s at low
    unfolding name_no name_rows
    other_length b = fit_past _ _ _ (le-ltb _ _ a) (fit_here _ _ _ b)

    module _ (b : ltb (len_at s at) 7 or ltb 46 (len_at s at) ≡ false) where
      pub cut_off : length s < next_at s at → 3 ≡ name_no s at low
      unfolding name_no name_rows
      cut_off d = fit_past _ _ _ (le-ltb _ _ a) (fit_past _ _ _ b (fit_here _ _ _ (lt-ltb _ _ d)))

      module _ (d : next_at s at ≤ length s) where
        past_length : {x : ℕ} → x ≡ first_fit (row (not (eqb (kind_at s at) 32)) 6 ∷ row (some (at + 8) (next_at s at) (is_odd s)) 8 ∷ row (ltb (key_at s at) low) 18 ∷ []) → x ≡ name_no s at low
        unfolding name_no name_rows
        past_length h = fit_past _ _ _ (le-ltb _ _ a) (fit_past _ _ _ b (fit_past _ _ _ (le-ltb _ _ d) h))

        pub other_kind : (kind_at s at ≡ 32 → ⊥) → 6 ≡ name_no s at low
        other_kind k = past_length (fit_here _ _ _ (ap not (ne_eqb _ _ k)))

        module _ (k : kind_at s at ≡ 32) where
          pub other_byte : some (at + 8) (next_at s at) (is_odd s) ≡ true → 8 ≡ name_no s at low
          other_byte o = past_length (fit_past _ _ _ (ap not (eq-eqb _ _ k)) (fit_here _ _ _ o))

          module _ (o : some (at + 8) (next_at s at) (is_odd s) ≡ false) where
            pub not_ascending : key_at s at < low → 18 ≡ name_no s at low
            not_ascending u = past_length (fit_past _ _ _ (ap not (eq-eqb _ _ k)) (fit_past _ _ _ o (fit_here _ _ _ (lt-ltb _ _ u))))

            pub no_row : low ≤ key_at s at → 0 ≡ name_no s at low
            no_row u = past_length (fit_past _ _ _ (ap not (eq-eqb _ _ k)) (fit_past _ _ _ o (fit_past _ _ _ (le-ltb _ _ u) fit_none)))

  pub fit : name_no s at low ≡ 0 → NameFits s at low
  unfolding name_no name_rows
  fit h =
      let a = fit_unfit _ 3 _ (omega arith) h in
      let b = fit_unfit _ 4 _ (omega arith) a.1 in
      let d = fit_unfit _ 3 _ (omega arith) b.1 in
      let k = fit_unfit _ 6 _ (omega arith) d.1 in
      let o = fit_unfit _ 8 _ (omega arith) k.1 in
      let u = fit_unfit _ 18 _ (omega arith) o.1 in
      record {
        least = ltb-false _ _ (neither_left _ _ b.0);
        most = ltb-false _ _ (neither_right _ _ b.0);
        room = ltb-false _ _ d.0;
        kind = eqb-true _ _ (not-false _ k.0);
        name = o.0;
        ascends = ltb-false _ _ u.0;
      }

-- ── the walk ──

module _ (s : List ℕ) (at low : ℕ) where
  pub check_end : (f : ℕ) → length s ≤ at → check_from f s at low ≡ Ok tt
  unfolding check_from
  check_end zero h = refl
  check_end (suc f) h = pick_off _ _ _ (le-ltb _ _ h)

  module _ (f : ℕ) (l : at < length s) where
    pub check_bad : 0 < name_no s at low → check_from (suc f) s at low ≡ Err (declined (name_no s at low) at)
    unfolding check_from
    check_bad h = pick_on _ _ _ (lt-ltb _ _ l) ∙ pick_on _ _ _ (lt-ltb _ _ h)

    pub check_on : name_no s at low ≡ 0 → check_from (suc f) s at low ≡ check_from f s (next_at s at) (key_at s at + 1)
    unfolding check_from
    check_on h = pick_on _ _ _ (lt-ltb _ _ l) ∙ pick_off _ _ _ (le-ltb 0 (name_no s at low) (omega arith))

    -- a record of a lawful file fits
    pub check_passed : check_from (suc f) s at low ≡ Ok tt → name_no s at low ≡ 0
    check_passed g =
        ⊎_elim
        (λ h.
        let w : ◌≡◌ {A = FileCheck} (Err (declined (name_no s at low) at)) (Ok tt) = sym (check_bad h) ∙ g in
        let z : ◌≡◌ {A = ℕ} 0 1 = cc in
        absurd (omega arith))
        (λ h. omega arith) (split 0 (name_no s at low))

module _ (s : List ℕ) (at : ℕ) where
  pub offsets_end : (f : ℕ) → length s ≤ at → offsets_from f s at ≡ []
  unfolding offsets_from
  offsets_end zero h = refl
  offsets_end (suc f) h = pick_off _ _ _ (le-ltb _ _ h)

  pub offsets_on : (f : ℕ) → at < length s → offsets_from (suc f) s at ≡ at ∷ offsets_from f s (next_at s at)
  unfolding offsets_from
  offsets_on f l = pick_on _ _ _ (lt-ltb _ _ l)

-- ── the whole file ──

module _ (s : List ℕ) where
  pub too_long : 32768 < length s → checked s ≡ Err (declined 2 32768)
  unfolding checked
  too_long h = pick_on _ _ _ (lt-ltb _ _ h)

  pub from_front : length s ≤ 32768 → checked s ≡ check_from (length s) s 0 0
  unfolding checked
  from_front h = pick_off _ _ _ (le-ltb _ _ h)

  pub lawful_short : checked s ≡ Ok tt → length s ≤ 32768
  lawful_short g =
      ⊎_elim
      (λ h.
      let w : ◌≡◌ {A = FileCheck} (Err (declined 2 32768)) (Ok tt) = sym (too_long h) ∙ g in
      let z : ◌≡◌ {A = ℕ} 0 1 = cc in
      absurd (omega arith))
      (λ h. h) (split 32768 (length s))

  pub lawful_front : checked s ≡ Ok tt → check_from (length s) s 0 0 ≡ Ok tt
  lawful_front g = sym (from_front (lawful_short g)) ∙ g
