-- The list in a record, place by place; lists that agree as far as both go.
use Prim.Native.Nat.{ℕ, suc, ◌+◌, ◌-◌, ◌<◌, ◌≤◌, min}
use mathlib.Core.Path.{◌≡◌, refl, ap, sym, ◌∙◌}
use mathlib.Core.Bool.{Bool, true, false}
use mathlib.Core.List.{List, [], ◌∷◌}
use mathlib.Core.Logic.{⊎_elim}
use native.Mathlib.Omega.{arith}
use lib.ListN.{length}
use Rattle.std.specs.Bool.{MatchBool}
use Rattle.std.specs.List.{range_with_len, AllWithin, HoldsAt}
use Rattle.std.proofs.Common.{zero-add}
use Rattle.std.proofs.lemmas.List.FromFn.{length-range_with_len, get_or-range_with_len}
use borrow.Author.Tests.{eq-eqb}
use Rattle.base.proofs.Tests.{both, is_false, split}
use Rattle.base.proofs.Searches.{singles_length, singles_at}
use Rattle.rules.specs.Records.{number_at}
use Rattle.appends_rules.specs.Appends.{value_at, values_at}
use Rattle.appends_rules.specs.ListKinds.{begins, in_line, element, last_element}
use Rattle.appends_rules.proofs.Lines.{line_left, line_right, line_cases, begins_agree}
use Rattle.elements.specs.Elements.{ListAt}

module _ (s : List ℕ) (p : ℕ) where
  pub values_length : length (values_at s p) ≡ number_at s p
  unfolding values_at
  values_length = singles_length (value_at s p) 0 (number_at s p) ∙ omega arith

  pub values_at_lem : (k : ℕ) → k < number_at s p → element (values_at s p) k ≡ value_at s p k
  unfolding values_at
  values_at_lem k l = singles_at (value_at s p) 0 0 (number_at s p) k (omega arith) ∙ ap (value_at s p) (omega arith)

-- .. where its number is known
module _ {s : List ℕ} {p n : ℕ} (x : ListAt s p n) where
  pub at_length : length (values_at s p) ≡ n
  at_length = values_length s p ∙ sym x.number

  pub at-element : (k : ℕ) → k < n → element (values_at s p) k ≡ value_at s p k
  at-element k l = values_at_lem s p k (omega (arith, x.number))

  pub last-at : element (values_at s p) (n - 1) ≡ last_element (values_at s p)
  last-at = ap (λ (m : ℕ). element (values_at s p) (m - 1)) (sym at_length)

-- the lists a and b agree below q
pub record AgreeTo (a b : List ℕ) (q : ℕ) : Type 0 where
  pub one : q ≤ length a
  pub two : q ≤ length b
  pub each : (j : ℕ) → j < q → element a j ≡ element b j

pub agree_start : (a b : List ℕ) → AgreeTo a b 0
agree_start a b = record { one = omega arith; two = omega arith; each = λ j l. absurd (omega arith) }

pub agree_on : {a b : List ℕ} {q : ℕ} → AgreeTo a b q → q < length a → q < length b → element a q ≡ element b q → AgreeTo a b (q + 1)
agree_on {a} {b} {q} x l m e =
    record { one = omega arith; two = omega arith; each = λ j k. ⊎_elim (λ n. x.each j n) (λ n. let i : j ≡ q = omega arith in rw i e) (split j q) }

-- one that agrees with b to its end begins it
agree_begins : (a b : List ℕ) → length a ≤ length b → ((j : ℕ) → j < length a → element a j ≡ element b j) → begins a b ≡ true
unfolding begins
agree_begins [] b l f = refl
agree_begins (x ∷ a) [] l f = absurd (omega arith)
agree_begins (x ∷ a) (y ∷ b) l f = both _ _ (eq-eqb x y (f 0 (omega arith))) (agree_begins a b (omega arith) (λ j k. f (suc j) (omega arith)))

module _ {a b : List ℕ} {q : ℕ} (x : AgreeTo a b q) where
  pub agree_one : length a ≤ q → in_line a b ≡ true
  agree_one l = line_left a b (agree_begins a b (omega (arith, x.two)) (λ j m. x.each j (omega arith)))

  pub agree_two : length b ≤ q → in_line a b ≡ true
  agree_two l = line_right a b (agree_begins b a (omega (arith, x.one)) (λ j m. sym (x.each j (omega arith))))

pub differ : (a b : List ℕ) (q : ℕ) → q < length a → q < length b → (element a q ≡ element b q → ⊥) → in_line a b ≡ false
differ a b q l m d = is_false _ (λ t. ⊎_elim (λ u. d (begins_agree a b u q l)) (λ u. d (sym (begins_agree b a u q m))) (line_cases a b t))

-- the lists at p and at o: as far as both go their elements are the same, or one is not
module _ {s : List ℕ} {p n o m : ℕ} (x : ListAt s p n) (y : ListAt s o m) where
  abbrev Same : ℕ → Type 0
  Same q = value_at s p q ≡ value_at s o q

  abbrev both_go : List ℕ
  both_go = range_with_len 0 (min n m)

  pub in_line_by : (r : Bool)
      → MatchBool r (AllWithin Same both_go 0 (length both_go)) ((q : ℕ) × (q < length both_go) × HoldsAt (λ q. Same q → ⊥) both_go q)
      → r ≡ in_line (values_at s p) (values_at s o)
  in_line_by true t =
      let long = length-range_with_len 0 (min n m) in
      let agree : AgreeTo (values_at s p) (values_at s o) (min n m) =
      record {
        one = omega (arith, at_length x);
        two = omega (arith, at_length y);
        each =
            λ j l.
            let i = get_or-range_with_len 0 (min n m) j 0 l ∙ zero-add j in
            at-element x j (omega arith) ∙ (rw i at (t j 0 (omega arith) (omega (arith, long)))) ∙ sym (at-element y j (omega arith));
      } in
      sym (⊎_elim (λ (l : n < m). agree_one agree (omega (arith, at_length x))) (λ (l : m ≤ n). agree_two agree (omega (arith, at_length y))) (split n m))
  in_line_by false t =
      let q = t.0 in
      let l : q < min n m = omega (arith, t.1, length-range_with_len 0 (min n m)) in
      let i = get_or-range_with_len 0 (min n m) q 0 l ∙ zero-add q in
      sym
      (differ _ _ q (omega (arith, at_length x)) (omega (arith, at_length y))
      (λ e. (rw i at (t.2 0)) (sym (at-element x q (omega arith)) ∙ e ∙ at-element y q (omega arith))))
