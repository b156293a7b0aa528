-- A claim's entries as sets in two words.
use Prim.Native.Nat.{ℕ, ◌+◌, ◌-◌, ◌*◌, ◌<◌, ◌≤◌}
use mathlib.Core.Path.{◌≡◌, refl, ap, sym, ◌∙◌}
use mathlib.Core.Bool.{Bool, true, false, not}
use mathlib.Core.List.{List, [], ◌∷◌}
use mathlib.Core.Logic.{⊎_elim}
use native.Mathlib.Omega.{arith}
use lib.Bits.{bit_or}
use lib.Dec.{ltb, eqb}
use lib.ListN.{length, get_or}
use borrow.Author.Tests.{ltb-true, lt-ltb, le-ltb, eqb-true, eq-eqb}
use Rattle.base.specs.Base.{◌and◌, ◌or◌, some}
use Rattle.base.proofs.Tests.{ifso, same_test, not-true, not-false, both, and_left, and_right, and_no_left, and_no_right, or_cases, or_left, or_right, or_on, neither_left, denied, granted, split}
use Rattle.base.proofs.Searches.{some_at, some_of_lem, some-none}
use Rattle.theory.specs.Order.{place}
use Rattle.theory.proofs.Places.{place_at, place_most}
use Rattle.rules.specs.History.{History, size, committed}
use Rattle.rules.proofs.Committed.{committed_below}
use Rattle.bits.specs.Bits.{test_bit, bit_of, Minus}
use Rattle.bits.proofs.Words.{test_bit_or}
use Rattle.order.specs.declared.Words.{Words}
use Rattle.order.specs.Sets.{words, in_words, is_left, Plus, Gathered}
use Rattle.order.specs.Ordering.{waits}
use Rattle.order.proofs.Sets.{in_low, in_high, in_none, waits-low, waits_high}
use Rattle.claims_rules.specs.Claims.{is_stray, is_missing, has_members}
use Rattle.claims_rules.proofs.Members.{stray_members, missing_members, rest_members}
use Rattle.claims.specs.Seats.{Earlier, UpTo, is_stray_in, turned_at, TurnedFirsts, WithMissing}

-- below the next number: not above this one
below_next : (a b : ℕ) → ltb a (b + 1) ≡ not (ltb b a)
below_next a b = ⊎_elim (λ l. le-ltb a (b + 1) (omega arith) ∙ ap not (sym (lt-ltb b a l))) (λ g. lt-ltb a (b + 1) (omega arith) ∙ ap not (sym (le-ltb b a g))) (split b a)

-- a search up to the next number
some_next : (p : ℕ → Bool) (e : ℕ) → some 0 (e + 1) p ≡ some 0 e p or p e
some_next p e =
    same_test _ _
    (λ s.
    let r = some_at p (e + 1) 0 s in
    ⊎_elim (λ l. or_left _ _ (some_of_lem p e 0 r.at (omega arith) l r.passes))
    (λ g. let q : r.at ≡ e = omega (arith, r.to) in or_right _ _ (rw q at r.passes)) (split r.at e))
    (λ s.
    ⊎_elim (λ t. let r = some_at p e 0 t in some_of_lem p (e + 1) 0 r.at (omega arith) (omega (arith, r.to)) r.passes)
    (λ t. some_of_lem p (e + 1) 0 e (omega arith) (omega arith) t) (or_cases _ _ s))

-- ── those that stand before a place ──

module _ (o : List ℕ) where
  pub earlier_start : {w : Words} → w ≡ words 0 0 → Earlier o 0 w
  earlier_start e = rw e (record { is = λ x l. in_none x ∙ sym (le-ltb (place x o) 0 (omega arith)) })

  module _ {i : ℕ} (l : i < length o) {w : Words} (before : Earlier o i w) where
    pub earlier_next : {v : Words} → Plus w (get_or o i 0) v → Earlier o (i + 1) v
    earlier_next plus =
        record {
          is =
              λ x m.
              plus.is x m ∙ ap (λ (b : Bool). b or eqb x (get_or o i 0)) (before.is x m)
              ∙ same_test _ _
              (λ s.
              ⊎_elim (λ t. lt-ltb (place x o) (i + 1) (omega (arith, ltb-true (place x o) i t)))
              (λ t. let e = eqb-true x (get_or o i 0) t in lt-ltb (place x o) (i + 1) (omega (arith, place_most o i l, ap (λ (y : ℕ). place y o) e)))
              (or_cases _ _ s))
              (λ s.
              let k = ltb-true (place x o) (i + 1) s in
              ⊎_elim (λ n. or_left _ _ (lt-ltb (place x o) i n))
              (λ g.
              let q : place x o ≡ i = omega arith in
              or_right _ _ (eq-eqb x (get_or o i 0) (sym (place_at x o (omega arith)) ∙ ap (λ (j : ℕ). get_or o j 0) q)))
              (split (place x o) i));
        }

    -- where entry i is a, which stands at no earlier place
    pub up_to_here : {a : ℕ} {v : Words} → i ≤ place a o → Plus w (get_or o i 0) v → get_or o i 0 ≡ a → UpTo o a v
    up_to_here {a} from plus e =
        let q : place a o ≡ i = omega (arith, from, place_most o i l, ap (λ (y : ℕ). place y o) e) in
        record { is = λ x m. (earlier_next plus).is x m ∙ below_next (place x o) i ∙ ap (λ (j : ℕ). not (ltb j (place x o))) (sym q) }

  -- .. and where it is not
  pub up_to_on : {i a : ℕ} → i ≤ place a o → place a o < length o → (get_or o i 0 ≡ a → ⊥) → i + 1 ≤ place a o
  up_to_on {i} {a} from k d =
      ⊎_elim (λ m. omega arith) (λ g. let q : place a o ≡ i = omega arith in absurd (d (ap (λ (j : ℕ). get_or o j 0) (sym q) ∙ place_at a o k))) (split i (place a o))

  -- 0 is first where the first entry is 0
  pub first_entry : 0 < length o → eqb (get_or o 0 0) 0 ≡ eqb (place 0 o) 0
  first_entry l =
      same_test _ _
      (λ t.
      let e = eqb-true (get_or o 0 0) 0 t in
      let m = place_most o 0 l in
      eq-eqb (place 0 o) 0 (omega (arith, m, ap (λ (x : ℕ). place x o) e)))
      (λ t.
      let e = eqb-true (place 0 o) 0 t in
      eq-eqb (get_or o 0 0) 0 (ap (λ (j : ℕ). get_or o j 0) (sym e) ∙ place_at 0 o (omega arith)))

pub first-none : (o : List ℕ) → length o ≡ 0 → true ≡ eqb (place 0 o) 0
unfolding place
first-none [] e = refl
first-none (x ∷ o) e = absurd (omega arith)

-- ── who stands in the claim ──

-- the test for a stray entry, by its parts
module _ (m p : Words) (a : ℕ) where
  pub stray_large : 128 ≤ a → true ≡ is_stray_in m p a
  unfolding is_stray_in
  stray_large l = sym (or_left _ _ (ap not (and_no_left _ _ (le-ltb a 128 l))))

  pub stray_other : {b : Bool} → b ≡ in_words m a → not b ≡ true → true ≡ is_stray_in m p a
  unfolding is_stray_in
  stray_other e q = sym (or_left _ _ (ap not (and_no_right _ _ (denied e q))))

  pub stray_again : a < 128 → {b r : Bool} → b ≡ in_words m a → not b ≡ false → r ≡ in_words p a → r ≡ is_stray_in m p a
  unfolding is_stray_in
  stray_again l e q z = z ∙ sym (or_on _ _ (ap not (both _ _ (lt-ltb a 128 l) (granted e q))))

  pub stray_small : is_stray_in m p a ≡ false → a < 128
  unfolding is_stray_in
  stray_small e = ltb-true a 128 (and_left _ _ (not-false _ (neither_left _ _ e)))

-- m has those that count, p those that stand before place i
module _ (h : History) (few : size h ≤ 128) {m : Words} (g : Gathered (committed h) (size h) m) (o : List ℕ) where
  -- what m says of a number
  counts_in : (a : ℕ) → ltb a 128 and in_words m a ≡ committed h a
  counts_in a =
      same_test _ _
      (λ s. let l = ltb-true a 128 (and_left _ _ s) in and_right _ _ (sym (g.is a l) ∙ and_right _ _ s))
      (λ c.
      let b = committed_below h a c in
      both _ _ (lt-ltb a 128 (omega arith)) (g.is a (omega arith) ∙ both _ _ (lt-ltb a (size h) b) c))

  module _ {i : ℕ} {p : Words} (e : Earlier o i p) where
    pub stray_is : is_stray_in m p (get_or o i 0) ≡ is_stray h o i
    unfolding is_stray_in is_stray
    stray_is =
        rw (counts_in (get_or o i 0))
        (ifso (committed h (get_or o i 0))
        (λ (c : committed h (get_or o i 0) ≡ true).
        let b = committed_below h (get_or o i 0) c in
        ap (λ (x : Bool). not (committed h (get_or o i 0)) or x) (e.is (get_or o i 0) (omega arith)))
        (λ (c : committed h (get_or o i 0) ≡ false). or_left _ _ (ap not c) ∙ sym (or_left _ _ (ap not c))))

    pub no_stray_on : some 0 i (is_stray h o) ≡ false → is_stray_in m p (get_or o i 0) ≡ false → some 0 (i + 1) (is_stray h o) ≡ false
    no_stray_on s q = some_next (is_stray h o) i ∙ or_on _ _ s ∙ sym stray_is ∙ q

    pub stray_not : i < length o → is_stray_in m p (get_or o i 0) ≡ true → false ≡ has_members h o
    stray_not l q = sym (stray_members h o (some_of_lem (is_stray h o) (length o) 0 i (omega arith) l (sym stray_is ∙ q)))

  -- where all entries were seen
  module _ {p : Words} (e : Earlier o (length o) p) (s : some 0 (length o) (is_stray h o) ≡ false) where
    missing_is : some 0 128 (is_left m p) ≡ some 0 (size h) (is_missing h o)
    unfolding is_left is_missing
    missing_is =
        same_test _ _
        (λ t.
        let r = some_at (is_left m p) 128 0 t in
        let c = sym (counts_in r.at) ∙ both _ _ (lt-ltb r.at 128 r.to) (and_left _ _ r.passes) in
        some_of_lem (is_missing h o) (size h) 0 r.at (omega arith) (committed_below h r.at c)
        (both _ _ c (ap not (sym (e.is r.at r.to) ∙ not-true _ (and_right _ _ r.passes)))))
        (λ t.
        let r = some_at (is_missing h o) (size h) 0 t in
        let l : r.at < 128 = omega (arith, r.to) in
        some_of_lem (is_left m p) 128 0 r.at (omega arith) l
        (both _ _ (and_right _ _ (counts_in r.at ∙ and_left _ _ r.passes)) (ap not (e.is r.at l ∙ not-true _ (and_right _ _ r.passes)))))

    pub missing_not : {b : Bool} → b ≡ not (some 0 128 (is_left m p)) → not b ≡ true → false ≡ has_members h o
    missing_not {b} q n = sym (missing_members h o (sym missing_is ∙ not-false _ (sym q ∙ not-true b n)))

    pub members_is : {b r : Bool} → b ≡ not (some 0 128 (is_left m p)) → not b ≡ false → r ≡ eqb (place 0 o) 0 → r ≡ has_members h o
    members_is {b} q n z = z ∙ sym (rest_members h o s (sym missing_is ∙ not-true _ (sym q ∙ not-false b n)))

-- no entry before place i is a stray one, in any history of which m has those that count
pub record Clear (m : Words) (o : List ℕ) (i : ℕ) : Type 0 where
  pub is : (h : History) → size h ≤ 128 → Gathered (committed h) (size h) m → some 0 i (is_stray h o) ≡ false

module _ (m : Words) (o : List ℕ) where
  pub clear_start : Clear m o 0
  clear_start = record { is = λ h few g. some-none (is_stray h o) 0 0 (λ i a b. absurd (omega arith)) }

  pub clear_next : {i : ℕ} {p : Words} → Earlier o i p → Clear m o i → is_stray_in m p (get_or o i 0) ≡ false → Clear m o (i + 1)
  clear_next e c q = record { is = λ h few g. no_stray_on h few g o e (c.is h few g) q }

-- ── pairs against places ──

module _ (f o : List ℕ) where
  pub turned_start : {w : Words} → w ≡ words 0 0 → TurnedFirsts f o 0 w
  turned_start e = rw e (record { is = λ x l. in_none x ∙ sym (some-none (turned_at f o x) 0 0 (λ i a b. absurd (omega arith))) })

  pub turned-next : {i : ℕ} {p w v : Words} → Earlier o i p → TurnedFirsts f o i w → WithMissing f (get_or o i 0) p w v → TurnedFirsts f o (i + 1) v
  unfolding waits turned_at
  turned-next {i} {p} e t j =
      record {
        is =
            λ x l.
            j.is x l ∙ ap (λ (b : Bool). b or (bit_of f (get_or o i 0) x and not (in_words p x))) (t.is x l)
            ∙ ap (λ (b : Bool). some 0 i (turned_at f o x) or (bit_of f (get_or o i 0) x and not b)) (e.is x l)
            ∙ sym (some_next (turned_at f o x) i);
      }

-- row b's words without those of p, joined to w
pub joined : (f : List ℕ) (b : ℕ) (p w : Words) {r s : ℕ} → Minus (get_or f (2 * b) 0) p.lo r → Minus (get_or f (2 * b + 1) 0) p.hi s
    → WithMissing f b p w (words (bit_or w.lo r) (bit_or w.hi s))
joined f b p w {r} {s} u v =
    record {
      is =
          λ x l.
          ⊎_elim
          (λ m.
          in_low (words (bit_or w.lo r) (bit_or w.hi s)) x m ∙ test_bit_or w.lo r x
          ∙ ap (λ (t : Bool). t or test_bit r x) (sym (in_low w x m)) ∙ ap (λ (t : Bool). in_words w x or t) (u.is x ∙ sym (waits-low f p b x m)))
          (λ m.
          let e : x - 64 + 64 ≡ x = omega arith in
          in_high (words (bit_or w.lo r) (bit_or w.hi s)) x m ∙ test_bit_or w.hi s (x - 64)
          ∙ ap (λ (t : Bool). t or test_bit s (x - 64)) (sym (in_high w x m))
          ∙ ap (λ (t : Bool). in_words w x or t) (v.is (x - 64) ∙ sym (waits_high f p b (x - 64) (omega arith)) ∙ ap (waits f p b) e))
          (split x 64);
    }
