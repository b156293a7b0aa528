-- The kind that is computed is the first of the document's six conditions that fits.
use Prim.Native.Nat.{ℕ, ◌+◌, ◌<◌, ◌≤◌}
use mathlib.Core.Path.{◌≡◌, refl, ap, sym, ◌∙◌}
use mathlib.Core.Bool.{Bool, true, false, not}
use mathlib.Core.Logic.{inl, inr, ⊎_elim, ◌↔◌}
use mathlib.Core.List.{List, [], ◌∷◌}
use native.Mathlib.Omega.{arith}
use lib.Dec.{ltb, eqb}
use borrow.Author.Tests.{eqb-true, eqb-false, eq-eqb, ne_eqb, ltb-true, ltb-false, lt-ltb}
use Rattle.base.specs.Base.{◌and◌, ◌or◌, Row, row, first_fit}
use Rattle.base.proofs.Rows.{fit_here, fit_past}
use Rattle.base.proofs.Tests.{ifso, clash, is_false, is_true, not-true, both, and_left, and_right, or_cases, or_left, or_right, split}
use Rattle.base.proofs.Searches.{some_at, some_of_lem}
use Rattle.rules.specs.History.{History, op, op_count, committed}
use Rattle.rules.specs.Reads.{writes_at, wrote_between, kind_by, kind_of, is_judged, is_finding}
use Rattle.rules.specs.Outcome.{findings}
use Rattle.base.proofs.Empty.{those-none}
use Rattle.demand1.specs.Lawful.{LawfulHistory}
use Rattle.demand2.proofs.Origin.{Origin, origin}
use Rattle.demand2.proofs.Counts.{counts_iff, counts_not}
use Rattle.demand2.specs.Kinds.{WriteIn, WriteOf, JudgedRead, Fits, thin_air, aborted, future, not_my_last, not_my_own, intermediate, HasKind, Clean, AllClean}

-- ── writes ──

-- the test for a write of x in t is right
pub writes_at_lem : (h : History) (t x j : ℕ) → 1 ≤ j → j ≤ op_count h → writes_at h t x j ≡ true → WriteIn h t x j
unfolding writes_at
writes_at_lem h t x j a b e =
    let f = and_left _ _ e in
    record {
      from = a;
      to = b;
      is_write = and_left _ _ f;
      in_tx = eqb-true _ _ (and_right _ _ f);
      of_key = eqb-true _ _ (and_right _ _ e);
    }

pub at_writes : {h : History} {t x j : ℕ} → WriteIn h t x j → writes_at h t x j ≡ true
unfolding writes_at
at_writes w = both _ _ (both _ _ w.is_write (eq-eqb _ _ w.in_tx)) (eq-eqb _ _ w.of_key)

-- t writes x above a and below e
pub record Wrote (h : History) (t x a e : ℕ) : Type 0 where
  pub at : ℕ
  pub is : WriteIn h t x at
  pub above : a < at
  pub under : at < e

-- the search for such a write is right
pub wrote_at : (h : History) (t x a e : ℕ) → e ≤ op_count h + 1 → wrote_between h t x a e ≡ true → Wrote h t x a e
unfolding wrote_between
wrote_at h t x a e l s =
    let r = some_at (writes_at h t x) e (a + 1) s in
    record {
      at = r.at;
      is = writes_at_lem h t x r.at (omega (arith, r.from)) (omega (arith, r.to)) r.passes;
      above = omega (arith, r.from);
      under = r.to;
    }

pub at-wrote : {h : History} {t x a e j : ℕ} → WriteIn h t x j → a < j → j < e → wrote_between h t x a e ≡ true
unfolding wrote_between
at-wrote {h} {t} {x} {a} {e} {j} w l m = some_of_lem (writes_at h t x) e (a + 1) j (omega arith) m (at_writes w)

-- ── the first row of a table that fits ──

-- the first number from n to before e of which F holds; 0 where it holds of none
pub data Firstly (F : ℕ → Type 0) (n e k : ℕ) : Type 0 where
  none : k ≡ 0 → ((l : ℕ) → n ≤ l → l < e → F l → ⊥) → Firstly F n e k
  hit : n ≤ k → F k → ((l : ℕ) → n ≤ l → l < k → F l → ⊥) → Firstly F n e k

-- the rows of a table have the numbers from n to before e, and each row's test decides F of its number
pub data KindDecided (F : ℕ → Type 0) : ℕ → ℕ → List Row → Type 0 where
  end : {n : ℕ} → KindDecided F n n []
  next : {n e : ℕ} {b : Bool} {rs : List Row} → (b ≡ true) ↔ F n → KindDecided F (n + 1) e rs → KindDecided F n e (row b n ∷ rs)

-- what holds of no number past n, nor of n, holds of none from n on
from_next : (F : ℕ → Type 0) (n : ℕ) → (F n → ⊥) → (l : ℕ) → n ≤ l → (n + 1 ≤ l → F l → ⊥) → F l → ⊥
from_next F n d l a f = ⊎_elim (λ m. f (omega arith)) (λ m. let q : l ≡ n = omega arith in rw q d) (split n l)

firstly_next : {F : ℕ → Type 0} {n e k : ℕ} → (F n → ⊥) → Firstly F (n + 1) e k → Firstly F n e k
firstly_next {F} {n} d (none z f) = none z (λ l a b. from_next F n d l a (λ m. f l m b))
firstly_next {F} {n} d (hit m x f) = hit (omega arith) x (λ l a b. from_next F n d l a (λ c. f l c b))

-- so the number that a table gives is the first of which F holds
pub decides_first : {F : ℕ → Type 0} {n e : ℕ} {rs : List Row} → KindDecided F n e rs → Firstly F n e (first_fit rs)
unfolding first_fit
decides_first end = none refl (λ l a b. absurd (omega arith))
decides_first (next {n} {b = b} {rs} d r) =
    ifso b (λ t. rw (← fit_here b n rs t) (hit (omega arith) (d.0 t) (λ l a c. absurd (omega arith))))
    (λ t. rw (← fit_past b n rs t refl) (firstly_next (λ f. clash (d.1 f) t) (decides_first r)))

-- ── the six rows ──

module _ (h : History) (i w u : ℕ) where
  -- that write is the read's own transaction's; it is another's
  abbrev own : Bool
  own = not (eqb w 0) and eqb u (op h i).tx

  abbrev other : Bool
  other = not (eqb w 0) and not (eqb u (op h i).tx)

  -- the tests of `kind_by`, by number
  abbrev test_1 : Bool
  test_1 = not (eqb (op h i).value 0) and not (not (eqb w 0))

  abbrev test_2 : Bool
  test_2 = other and not (committed h u)

  abbrev test_3 : Bool
  test_3 = own and ltb i w

  abbrev test_4 : Bool
  test_4 = own and ltb w i and wrote_between h (op h i).tx (op h i).key w i

  abbrev test_5 : Bool
  test_5 = (eqb (op h i).value 0 or (other and committed h u)) and wrote_between h (op h i).tx (op h i).key 0 i

  abbrev test_6 : Bool
  test_6 = other and committed h u and wrote_between h u (op h i).key w (op_count h + 1)

module _ {h : History} (ok : LawfulHistory h) {i w u : ℕ} (o : Origin h i w u) (to : i ≤ op_count h) where
  -- a write that there is has a number; it is the read's own transaction's, or another's
  written_is : {u' w' : ℕ} → WriteOf h u' (op h i).key (op h i).value w' → not (eqb w 0) ≡ true
  written_is k = ap not (ne_eqb w 0 (λ z. omega (arith, (o.only k).0, k.in_it.from)))

  written_at : not (eqb w 0) ≡ true → WriteOf h u (op h i).key (op h i).value w
  written_at e = o.there (eqb-false w 0 (not-true _ e))

  own_is : {w' : ℕ} → WriteOf h (op h i).tx (op h i).key (op h i).value w' → own h i w u ≡ true
  own_is k = both _ _ (written_is k) (eq-eqb _ _ (o.only k).1)

  own_at : own h i w u ≡ true → WriteOf h (op h i).tx (op h i).key (op h i).value w
  own_at e = rw (eqb-true u (op h i).tx (and_right _ _ e)) at (written_at (and_left _ _ e))

  other-is : {u' w' : ℕ} → WriteOf h u' (op h i).key (op h i).value w' → (u' ≡ (op h i).tx → ⊥) → other h i w u ≡ true
  other-is k d = both _ _ (written_is k) (ap not (ne_eqb _ _ (λ e. d (sym (o.only k).1 ∙ e))))

  other_at : other h i w u ≡ true → WriteOf h u (op h i).key (op h i).value w × (u ≡ (op h i).tx → ⊥)
  other_at e = (written_at (and_left _ _ e), eqb-false _ _ (not-true _ (and_right _ _ e)))

  -- each test decides its kind's condition
  row_1 : (test_1 h i w u ≡ true) ↔ Fits h i 1
  row_1 = (λ e. thin_air (eqb-false _ _ (not-true _ (and_left _ _ e))) (λ u' w' k. clash (written_is k) (not-true _ (and_right _ _ e))), is)
    where
      is : Fits h i 1 → test_1 h i w u ≡ true
      is (thin_air d n) = both _ _ (ap not (ne_eqb _ _ d)) (ap (λ b. not (not b)) (is_true (eqb w 0) (λ t. n u w (o.there (eqb-false w 0 t)))))

  row_2 : (test_2 h i w u ≡ true) ↔ Fits h i 2
  row_2 = (λ e. let k = other_at (and_left _ _ e) in aborted k.0 k.1 ((counts_not ok u).0 (not-true _ (and_right _ _ e))), is)
    where
      is : Fits h i 2 → test_2 h i w u ≡ true
      is (aborted k d c) = both _ _ (other-is k d) (rw (o.only k).1 (ap not ((counts_not ok _).1 c)))

  row_3 : (test_3 h i w u ≡ true) ↔ Fits h i 3
  row_3 = (λ e. future (own_at (and_left _ _ e)) (ltb-true _ _ (and_right _ _ e)), is)
    where
      is : Fits h i 3 → test_3 h i w u ≡ true
      is (future k l) = both _ _ (own_is k) (lt-ltb i w (omega (arith, (o.only k).0)))

  row_4 : (test_4 h i w u ≡ true) ↔ Fits h i 4
  row_4 = (
    λ e.
        let f = and_left _ _ e in
        let s = wrote_at h _ _ w i (omega arith) (and_right _ _ e) in
        not_my_last (own_at (and_left _ _ f)) (ltb-true _ _ (and_right _ _ f)) s.is s.above s.under,
    is,
  )
    where
      is : Fits h i 4 → test_4 h i w u ≡ true
      is (not_my_last k l j a b) =
          let e = (o.only k).0 in
          both _ _ (both _ _ (own_is k) (lt-ltb w i (omega arith))) (at-wrote j (omega arith) b)

  row_5 : (test_5 h i w u ≡ true) ↔ Fits h i 5
  row_5 = (
    λ e.
        let s = wrote_at h _ _ 0 i (omega arith) (and_right _ _ e) in
        not_my_own
        (⊎_elim (λ z. inl (eqb-true _ _ z)) (λ f. let k = other_at (and_left _ _ f) in inr (u, w, (k.0, k.1, (counts_iff ok u).0 (and_right _ _ f))))
        (or_cases _ _ (and_left _ _ e)))
        (s.at, s.is, s.under),
    is,
  )
    where
      is : Fits h i 5 → test_5 h i w u ≡ true
      is (not_my_own c b) =
          both _ _
          (⊎_elim (λ z. or_left _ _ (eq-eqb _ _ z))
          (λ f. or_right _ _ (both _ _ (other-is f.2.0 f.2.1) (rw (o.only f.2.0).1 ((counts_iff ok _).1 f.2.2)))) c)
          (at-wrote b.1 (omega (arith, b.1.from)) b.2)

  row_6 : (test_6 h i w u ≡ true) ↔ Fits h i 6
  row_6 = (
    λ e.
        let f = and_left _ _ e in
        let k = other_at (and_left _ _ f) in
        let s = wrote_at h _ _ w (op_count h + 1) (omega arith) (and_right _ _ e) in
        intermediate (k.0, k.1, (counts_iff ok u).0 (and_right _ _ f)) s.is s.above,
    is,
  )
    where
      is : Fits h i 6 → test_6 h i w u ≡ true
      is (intermediate f j l) =
          let e = o.only f.0 in
          both _ _ (both _ _ (other-is f.0 f.1) (rw e.1 ((counts_iff ok _).1 f.2))) (at-wrote (rw (sym e.1) at j) (omega (arith, e.0)) (omega (arith, j.to)))

  -- so the kind is the first that fits
  kind-by : Firstly (Fits h i) 1 7 (kind_by h i (op h i).tx (op h i).key (op h i).value w u)
  unfolding kind_by
  kind-by = decides_first (next row_1 (next row_2 (next row_3 (next row_4 (next row_5 (next row_6 end))))))

-- ── the theorems ──

-- the kinds are numbered 1 to 6
fits_range : {h : History} {i k : ℕ} → Fits h i k → (1 ≤ k) × (k < 7)
fits_range (thin_air _ _) = (omega arith, omega arith)
fits_range (aborted _ _ _) = (omega arith, omega arith)
fits_range (future _ _) = (omega arith, omega arith)
fits_range (not_my_last _ _ _ _ _) = (omega arith, omega arith)
fits_range (not_my_own _ _) = (omega arith, omega arith)
fits_range (intermediate _ _ _) = (omega arith, omega arith)

module _ {h : History} (ok : LawfulHistory h) {i : ℕ} (r : JudgedRead h i) where
  kind-first : Firstly (Fits h i) 1 7 (kind_of h i)
  unfolding kind_of
  kind-first = kind-by ok (origin h i ok) r.to

  -- a read has kind k exactly if that is the kind that is computed
  pub kind_iff : (k : ℕ) → (k ≡ 0 → ⊥) → (kind_of h i ≡ k) ↔ HasKind h i k
  kind_iff k d = (λ e. at kind-first e, is kind-first)
    where
      at : {m : ℕ} → Firstly (Fits h i) 1 7 m → m ≡ k → HasKind h i k
      at (none z _) e = absurd (d (sym e ∙ z))
      at (hit _ x f) e = record { fits = rw e at x; none_earlier = λ l b y. f l (fits_range y).0 (omega arith) y }

      is : {m : ℕ} → Firstly (Fits h i) 1 7 m → HasKind h i k → m ≡ k
      is (none z f) y = let b = fits_range y.fits in absurd (f k b.0 b.1 y.fits)
      is {m} (hit a x f) y =
          ⊎_elim (λ l. absurd (y.none_earlier m l x))
          (λ g. ⊎_elim (λ l. absurd (f k (fits_range y.fits).0 l y.fits)) (λ l. omega arith) (split k m)) (split m k)

  -- it is clean exactly if none is
  pub clean_iff : (kind_of h i ≡ 0) ↔ Clean h i
  clean_iff = (at kind-first, is kind-first)
    where
      at : {m : ℕ} → Firstly (Fits h i) 1 7 m → m ≡ 0 → Clean h i
      at (none _ f) e = λ k y. let b = fits_range y in f k b.0 b.1 y
      at (hit a _ _) e = absurd (omega arith)

      is : {m : ℕ} → Firstly (Fits h i) 1 7 m → Clean h i → m ≡ 0
      is (none z _) c = z
      is {m} (hit _ x _) c = absurd (c m x)

-- the test for a judged read is right
pub judged_iff : {h : History} → LawfulHistory h → {i : ℕ} → 1 ≤ i → i ≤ op_count h → (is_judged h i ≡ true) ↔ JudgedRead h i
unfolding is_judged
judged_iff ok a b = (
  λ e. record { from = a; to = b; is_read = not-true _ (and_left _ _ e); in_committed = (counts_iff ok _).0 (and_right _ _ e) },
  λ r. both _ _ (ap not r.is_read) ((counts_iff ok _).1 r.in_committed),
)

-- what is judged and is no finding has kind 0
unfound : {h : History} → LawfulHistory h → {i : ℕ} → JudgedRead h i → is_finding h i ≡ false → kind_of h i ≡ 0
unfolding is_finding
unfound {h} ok {i} r f =
    ifso (ltb 0 (kind_of h i)) (λ t. absurd (clash (both _ _ ((judged_iff ok r.from r.to).1 r) t) f))
    (λ t. omega (arith, ltb-false 0 (kind_of h i) t))

-- a finding is a judged read that is not clean
pub finding_iff : {h : History} → LawfulHistory h → {i : ℕ} → 1 ≤ i → i ≤ op_count h
    → (is_finding h i ≡ true) ↔ (JudgedRead h i × (Clean h i → ⊥))
unfolding is_finding
finding_iff {h} ok {i} a b = (
  λ e.
      let r = (judged_iff ok a b).0 (and_left _ _ e) in
      (r, λ c. omega (arith, ltb-true 0 (kind_of h i) (and_right _ _ e), (clean_iff ok r).1 c)),
  λ f.
      both _ _ ((judged_iff ok a b).1 f.0)
      (is_true _ (λ t. f.1 ((clean_iff ok f.0).0 (omega (arith, ltb-false 0 (kind_of h i) t))))),
)

-- there is no finding exactly if every judged read is clean
pub findings_iff : {h : History} → LawfulHistory h → (findings h ≡ []) ↔ AllClean h
unfolding findings
findings_iff {h} ok = (
  λ e i r. (clean_iff ok r).0 (unfound ok r ((those-none (is_finding h) 1 (op_count h + 1)).0 e i r.from (omega (arith, r.to)))),
  λ c. (those-none (is_finding h) 1 (op_count h + 1)).1 (λ i a b. is_false _ (λ t. let f = (finding_iff ok a (omega arith)).0 t in f.1 (c i f.0))),
)
