-- A record and a file: the definitions that compute agree with the conditions in the document's words, both ways.
use Prim.Native.Nat.{ℕ, zero, suc, ◌+◌, ◌≤◌, ◌<◌}
use mathlib.Core.Path.{◌≡◌, refl, sym, ◌∙◌, subst}
use mathlib.Core.Bool.{true, false}
use mathlib.Core.Logic.{◌⊎◌, ◌↔◌, inl, inr, ⊎_elim}
use mathlib.Core.List.{List}
use native.Mathlib.Omega.{arith}
use lib.ListN.{length}
use lib.Dec.{ltb, eqb}
use borrow.Author.Tests.{ltb-true, ltb-false, eqb-true, eqb-false, lt-ltb, le-ltb}
use Rattle.base.specs.Base.{◌or◌, some}
use Rattle.base.proofs.Tests.{ifso, split, or_cases, or_left, or_right, or_on, neither_left, neither_right}
use Rattle.base.proofs.Searches.{some_at, some_of_lem, some-none, none-at}
use Rattle.names_rules.specs.Names.{is_odd, name_no, FileCheck, check_from, checked}
use Rattle.names_laws.specs.Names.{name_length, name_kind, name_key, name_end, WholeName, PlainName, OtherByte, SoundName, Faulty, no_length, other_length, missing, other_kind, other_byte, not_ascending, SoundTo, front, past, NamesRefused, too_long, faulty, NamesLawful}
use Rattle.std.specs.Prelude.{Ok, Err}
use Rattle.rules.specs.Refusals.{declined}
use Rattle.names_rules.proofs.Walking as W
use Rattle.names_rules.proofs.Loops.{Checking, checking_first, checking_end, checking_bad, checking_more}

-- ── a record ──

module _ (s : List ℕ) (at : ℕ) where
  plain_of : some (at + 8) (name_end s at) (is_odd s) ≡ false → PlainName s at
  unfolding is_odd
  plain_of h i a b = let t = none-at (is_odd s) (name_end s at) (at + 8) h i a b in (ltb-false _ _ (neither_left _ _ t), ltb-false _ _ (neither_right _ _ t))

  is_plain : PlainName s at → some (at + 8) (name_end s at) (is_odd s) ≡ false
  unfolding is_odd
  is_plain p = some-none (is_odd s) (name_end s at) (at + 8) (λ i a b. or_on _ _ (le-ltb _ _ (p i a b).0) ∙ le-ltb _ _ (p i a b).1)

  other_of : some (at + 8) (name_end s at) (is_odd s) ≡ true → OtherByte s at
  unfolding is_odd
  other_of h =
      let r = some_at (is_odd s) (name_end s at) (at + 8) h in
      record { byte = r.at; from = r.from; to = r.to; other = ⊎_elim (λ t. inl (ltb-true _ _ t)) (λ t. inr (ltb-true _ _ t)) (or_cases _ _ r.passes) }

  is-other : OtherByte s at → some (at + 8) (name_end s at) (is_odd s) ≡ true
  unfolding is_odd
  is-other o =
      some_of_lem (is_odd s) (name_end s at) (at + 8) o.byte o.from o.to
      (⊎_elim (λ t. or_left _ _ (lt-ltb _ _ t)) (λ t. or_right _ _ (lt-ltb _ _ t)) o.other)

  fits-length : 7 ≤ name_length s at → name_length s at ≤ 46 → ltb (name_length s at) 7 or ltb 46 (name_length s at) ≡ false
  fits-length a b = or_on _ _ (le-ltb _ _ a) ∙ le-ltb _ _ b

  module _ (low : ℕ) where
    pub sound_fits : W.NameFits s at low → SoundName s at low
    sound_fits f =
        record { whole = record { least = f.least; most = f.most; within = f.room }; is_name = f.kind; plain = plain_of f.name; ascends = f.ascends }

    sound_no : SoundName s at low → 0 ≡ name_no s at low
    sound_no x =
        let w = x.whole in
        W.no_row s at low (omega (arith, w.within)) (fits-length w.least w.most) w.within x.is_name (is_plain x.plain) x.ascends

    faulty_no : {n : ℕ} → Faulty s at low n → n ≡ name_no s at low
    faulty_no (no_length a) = W.no_field s at low a
    faulty_no (other_length a b) = W.other_length s at low a (⊎_elim (λ t. or_left _ _ (lt-ltb _ _ t)) (λ t. or_right _ _ (lt-ltb _ _ t)) b)
    faulty_no (missing a b d e) = W.cut_off s at low a (fits-length b d) e
    faulty_no (other_kind w k) = W.other_kind s at low (omega (arith, w.within)) (fits-length w.least w.most) w.within k
    faulty_no (other_byte w k o) = W.other_byte s at low (omega (arith, w.within)) (fits-length w.least w.most) w.within k (is-other o)
    faulty_no (not_ascending w k p u) = W.not_ascending s at low (omega (arith, w.within)) (fits-length w.least w.most) w.within k (is_plain p) u

    -- a record is as it should be, or has the fault of the first row that fits
    decided : SoundName s at low ⊎ Faulty s at low (name_no s at low)
    decided =
        ⊎_elim (λ (a : length s < at + 2). because (no_length a))
        (λ (a : at + 2 ≤ length s).
        ifso (ltb (name_length s at) 7 or ltb 46 (name_length s at))
        (λ t. because (other_length a (⊎_elim (λ u. inl (ltb-true _ _ u)) (λ u. inr (ltb-true _ _ u)) (or_cases _ _ t))))
        (λ t.
        let l = ltb-false (name_length s at) 7 (neither_left _ _ t) in
        let m = ltb-false 46 (name_length s at) (neither_right _ _ t) in
        ⊎_elim (λ (d : length s < name_end s at). because (missing a l m d))
        (λ (d : name_end s at ≤ length s).
        let w : WholeName s at = record { least = l; most = m; within = d } in
        ifso (eqb (name_kind s at) 32)
        (λ k.
        let is = eqb-true (name_kind s at) 32 k in
        ifso (some (at + 8) (name_end s at) (is_odd s)) (λ o. because (other_byte w is (other_of o)))
        (λ o.
        ⊎_elim (λ (u : name_key s at < low). because (not_ascending w is (plain_of o) u))
        (λ (u : low ≤ name_key s at). inl (record { whole = w; is_name = is; plain = plain_of o; ascends = u })) (split (name_key s at) low)))
        (λ k. because (other_kind w (eqb-false (name_kind s at) 32 k))))
        (split (length s) (name_end s at))))
        (split (length s) (at + 2))
      where
        because : {n : ℕ} → Faulty s at low n → SoundName s at low ⊎ Faulty s at low (name_no s at low)
        because f = inr (subst (Faulty s at low) (faulty_no f) f)

    -- a fault has a number
    fault_counts : {n : ℕ} → Faulty s at low n → 0 < n
    fault_counts (no_length a) = omega arith
    fault_counts (other_length a b) = omega arith
    fault_counts (missing a b d e) = omega arith
    fault_counts (other_kind w k) = omega arith
    fault_counts (other_byte w k o) = omega arith
    fault_counts (not_ascending w k p u) = omega arith

    -- no row refuses a record exactly if it is as it should be
    pub sound_iff : (name_no s at low ≡ 0) ↔ SoundName s at low
    sound_iff = (λ h. sound_fits (W.fit s at low h), λ x. sym (sound_no x))

    -- .. and the first row that does is that of its fault, of which it has one
    pub faulty_iff : (n : ℕ) → 0 < n → (name_no s at low ≡ n) ↔ Faulty s at low n
    faulty_iff n h = (
      λ e. ⊎_elim (λ x. absurd (omega (arith, sound_no x))) (λ (f : Faulty s at low (name_no s at low)). subst (Faulty s at low) e f) decided,
      λ f. sym (faulty_no f),
    )

-- ── a file ──

-- what checking a file says, as a condition
unfoldable Says : List ℕ → FileCheck → Type 0
Says s (Ok x) = NamesLawful s
Says s (Err d) = NamesRefused s d.no d.place

-- checking comes as far as records are as they should be
pub comes_checking : (s : List ℕ) → length s ≤ 32768 → {at low : ℕ} → SoundTo s at low → Checking s at low
comes_checking s h front = checking_first s h
comes_checking s h (past {at} {low} c l x) = checking_more (comes_checking s h c) l (sound_no s at low x) (omega arith) refl refl

lawful_is : (s : List ℕ) → NamesLawful s → checked s ≡ Ok tt
lawful_is s x = sym (checking_end (comes_checking s x.short x.ends) (omega arith))

refused_is : (s : List ℕ) {n p : ℕ} → NamesRefused s n p → checked s ≡ Err (declined n p)
refused_is s (too_long h) = W.too_long s h
refused_is s (faulty {at} {low} h c l x) = sym (checking_bad (comes_checking s h c) l (faulty_no s at low x) (fault_counts s at low x))

says_from : (f : ℕ) (s : List ℕ) (at low : ℕ) → length s ≤ 32768 → at ≤ length s → length s ≤ f + at → SoundTo s at low → Says s (check_from f s at low)
unfolding Says
says_from zero s at low h w e c = let q : at ≡ length s = omega arith in subst (Says s) (sym (W.check_end s at low zero (omega arith))) (record { short = h; low = low; ends = rw q at c })
says_from (suc f) s at low h w e c =
    ⊎_elim
    (λ (l : at < length s).
    ⊎_elim
    (λ (x : SoundName s at low).
    subst (Says s) (sym (W.check_on s at low f l (sym (sound_no s at low x))))
    (says_from f s (name_end s at) (name_key s at + 1) h x.whole.within (omega (arith, x.whole.least)) (past c l x)))
    (λ (x : Faulty s at low (name_no s at low)). subst (Says s) (sym (W.check_bad s at low f l (fault_counts s at low x))) (faulty h c l x)) (decided s at low))
    (λ (l : length s ≤ at).
    let q : at ≡ length s = omega arith in
    subst (Says s) (sym (W.check_end s at low (suc f) l)) (record { short = h; low = low; ends = rw q at c }))
    (split at (length s))

-- what checking a file says is so
check_says : (s : List ℕ) → Says s (checked s)
unfolding Says
check_says s =
    ⊎_elim (λ (h : 32768 < length s). subst (Says s) (sym (W.too_long s h)) (too_long h))
    (λ (h : length s ≤ 32768). subst (Says s) (sym (W.from_front s h)) (says_from (length s) s 0 0 h (omega arith) (omega arith) front)) (split 32768 (length s))

-- a file is found lawful exactly if every record is as it should be
pub lawful_iff : (s : List ℕ) → (checked s ≡ Ok tt) ↔ NamesLawful s
unfolding Says
lawful_iff s = (λ q. subst (Says s) q (check_says s), lawful_is s)

-- .. and refused exactly on the rows, with their numbers and places
pub refused_iff : (s : List ℕ) (n p : ℕ) → (checked s ≡ Err (declined n p)) ↔ NamesRefused s n p
unfolding Says
refused_iff s n p = (λ q. subst (Says s) q (check_says s), refused_is s)
