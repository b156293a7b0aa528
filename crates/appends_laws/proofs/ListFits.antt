-- The kind that is computed is the first of the document's five conditions that fits; there is one notion of clean that is as the document says, and it is
-- the computed one.
use Prim.Native.Nat.{ℕ, zero, suc, ◌+◌, ◌<◌, ◌≤◌}
use mathlib.Core.Path.{◌≡◌, ap, sym, ◌∙◌}
use mathlib.Core.Bool.{Bool, true, false, not, false≢true}
use mathlib.Core.Logic.{⊎_elim, ◌↔◌}
use mathlib.Core.List.{List, ◌∷◌}
use native.Mathlib.Omega.{arith}
use lib.ListN.{length, get_or-eq_default}
use borrow.Author.Tests.{eqb-true, eqb-false, eq-eqb, ne_eqb, ltb-true, lt-ltb, leb-true, le-leb}
use Rattle.base.specs.Base.{some}
use Rattle.base.proofs.Tests.{clash, is_false, is_true, not-true, both, and_left, and_right, split, below_suc}
use Rattle.base.proofs.Searches.{some_at, some_of_lem}
use Rattle.rules.specs.History.{History, Op, no_op, tx, op, op_count, write_of, append_key}
use Rattle.rules.proofs.History.{op_0, status_0}
use Rattle.demand1.specs.Lawful.{IsOp, LawfulHistory}
use Rattle.demand1.proofs.Checks.{write_found, write_known}
use Rattle.demand2.proofs.Kind.{wrote_at, at-wrote, Firstly, none, hit, end, next, decides_first}
use Rattle.demand2.proofs.Counts.{counts_iff}
use Rattle.appends_rules.specs.Appends.{is_list, key_of, append_of, appender_of, is_judged_list}
use Rattle.appends_rules.specs.ListKinds.{in_line, element, last_element, is_lost, same_element, is_again, is_undone, is_half_by, is_half, is_of, is_apart, list_kind_by, kind_with, list_kind, is_clean_list}
use Rattle.appends_rules.proofs.Lines.{begins_iff, line_cases, line_left, line_right}
use Rattle.appends_rules.proofs.Longest.{kind-by_clean, clean_judged, clean_kind, kind_clean}
use Rattle.appends_laws.specs.ListFits.{AppendOf, StartsWith, JudgedList, ListFits, never, again, undone, half, apart, HasListKind, IsCleanness}

-- ── appends ──

module _ (h : History) (x v : ℕ) where
  -- what is found is an append; where there is one, it is found
  pub append_there : (append_of h x v ≡ 0 → ⊥) → AppendOf h x v (append_of h x v)
  unfolding append_of
  append_there d = write_found h (append_key x) v (⊎_elim (λ z. z) (λ z. absurd (d (omega arith))) (split 0 (write_of h (append_key x) v)))

  pub append_known : {w : ℕ} → AppendOf h x v w → append_of h x v ≡ 0 → ⊥
  unfolding append_of
  append_known k e = omega (arith, write_known k)

  pub append_only : LawfulHistory h → {w : ℕ} → AppendOf h x v w → append_of h x v ≡ w
  append_only ok k = ok.one_write (append_key x) v _ _ (append_there (append_known k)) k

  -- and its transaction
  pub appender_is : LawfulHistory h → {w : ℕ} → AppendOf h x v w → appender_of h x v ≡ (op h w).tx
  unfolding appender_of
  appender_is ok k = ap (λ (w : ℕ). (op h w).tx) (append_only ok k)

-- ── the five rows ──

module _ {h : History} (ok : LawfulHistory h) (l : ℕ → List ℕ) {c : ℕ → Bool} {C : ℕ → Type 0} {i : ℕ} (to : i ≤ op_count h)
    (same : (j : ℕ) → j < i → (c j ≡ true) ↔ C j) (from : (j : ℕ) → C j → 1 ≤ j) where
  abbrev x : ℕ
  x = key_of h i

  abbrev e : List ℕ
  e = l i

  row_7 : (some 0 (length e) (is_lost h x e) ≡ true) ↔ ListFits h l C i 7
  unfolding is_lost
  row_7 = (
    λ s. let q = some_at (is_lost h x e) (length e) 0 s in never q.to (λ w k. append_known h x _ k (eqb-true _ _ q.passes)),
    is,
  )
    where
      is : ListFits h l C i 7 → some 0 (length e) (is_lost h x e) ≡ true
      is (never {k = k} b d) =
          some_of_lem (is_lost h x e) (length e) 0 k (omega arith) b
          (is_true _ (λ t. d _ (append_there h x (element e k) (eqb-false _ _ t))))

  row_8 : (some 0 (length e) (is_again e) ≡ true) ↔ ListFits h l C i 8
  unfolding is_again same_element
  row_8 = (
    λ s.
        let q = some_at (is_again e) (length e) 0 s in
        let p = some_at (same_element e q.at) q.at 0 q.passes in
        again p.to q.to (eqb-true _ _ p.passes),
    is,
  )
    where
      is : ListFits h l C i 8 → some 0 (length e) (is_again e) ≡ true
      is (again {j = j} {k = k} a b q) =
          some_of_lem (is_again e) (length e) 0 k (omega arith) b (some_of_lem (same_element e k) k 0 j (omega arith) a (eq-eqb _ _ q))

  -- the test finds an append where the status is 0: transaction 0 has another
  undone_there : (v : ℕ) → (tx h (appender_of h x v)).status ≡ 0 → AppendOf h x v (append_of h x v)
  unfolding appender_of
  undone_there v z =
      append_there h x v (λ q. omega (arith, sym (ap (λ (w : ℕ). (tx h (op h w).tx).status) q) ∙ z, ap (λ (u : ℕ). (tx h u).status) (op_0 h) ∙ status_0 h))

  row_9 : (some 0 (length e) (is_undone h x e) ≡ true) ↔ ListFits h l C i 9
  unfolding is_undone appender_of
  row_9 = (
    λ s.
        let q = some_at (is_undone h x e) (length e) 0 s in
        let z = eqb-true (tx h (appender_of h x (element e q.at))).status 0 q.passes in
        undone q.to (undone_there (element e q.at) z) z,
    is,
  )
    where
      is : ListFits h l C i 9 → some 0 (length e) (is_undone h x e) ≡ true
      is (undone {k = k} b w z) =
          some_of_lem (is_undone h x e) (length e) 0 k (omega arith) b
          (eq-eqb _ 0 (ap (λ (u : ℕ). (tx h u).status) (appender_is h x (element e k) ok w) ∙ z))

  row_10 : (is_half h (op h i).tx x e ≡ true) ↔ ListFits h l C i 10
  unfolding is_half is_half_by appender_of
  row_10 = (
    λ s.
        let r = and_right _ _ s in
        let q = and_left _ _ r in
        let a = append_there h x (last_element e) (λ z. omega (arith, z, ltb-true 0 (append_of h x (last_element e)) (and_left _ _ q))) in
        let y = wrote_at h _ _ _ (op_count h + 1) (omega arith) (and_right _ _ r) in
        half (ltb-true 0 (length e) (and_left _ _ s)) a (eqb-false _ _ (not-true _ (and_right _ _ q))) y.is y.above,
    is,
  )
    where
      is : ListFits h l C i 10 → is_half h (op h i).tx x e ≡ true
      is (half {w = w} {j = j} b a d y m) =
          let q = append_only h x (last_element e) ok a in
          let u = appender_is h x (last_element e) ok a in
          both _ _ (lt-ltb 0 (length e) b)
          (both _ _ (both _ _ (lt-ltb 0 (append_of h x (last_element e)) (omega (arith, q, a.is_op.from))) (ap not (ne_eqb _ _ (λ z. d (sym u ∙ z)))))
          (at-wrote (rw (sym u) at y) (omega (arith, q)) (omega (arith, y.to))))

  -- two lists are in line exactly if one starts with the other
  not_line : (a b : List ℕ) → (StartsWith a b → ⊥) → (StartsWith b a → ⊥) → in_line a b ≡ false
  not_line a b f g = is_false _ (λ t. ⊎_elim (λ p. g ((begins_iff a b).0 p)) (λ p. f ((begins_iff b a).0 p)) (line_cases a b t))

  row_11 : (some 1 i (is_apart h l c i) ≡ true) ↔ ListFits h l C i 11
  unfolding is_apart is_of
  row_11 = (
    λ s.
        let q = some_at (is_apart h l c i) i 1 s in
        let o = and_left _ _ q.passes in
        let d = not-true _ (and_right _ _ q.passes) in
        apart ((same q.at q.to).0 (and_left _ _ o)) q.to (eqb-true (key_of h q.at) x (and_right _ _ o))
        (λ z. clash (line_right _ _ ((begins_iff (l q.at) e).1 z)) d) (λ z. clash (line_left _ _ ((begins_iff e (l q.at)).1 z)) d),
    is,
  )
    where
      is : ListFits h l C i 11 → some 1 i (is_apart h l c i) ≡ true
      is (apart {j = j} k b q f g) =
          some_of_lem (is_apart h l c i) i 1 j (from j k) b
          (both _ _ (both _ _ ((same j b).1 k) (eq-eqb _ _ q)) (ap not (not_line e (l j) f g)))

  -- so the kind is the first that fits
  kind-first : Firstly (ListFits h l C i) 7 12 (kind_with h l c i)
  unfolding kind_with list_kind_by
  kind-first = decides_first (next row_7 (next row_8 (next row_9 (next row_10 (next row_11 end)))))

-- ── the theorems ──

-- the kinds are numbered 7 to 11
pub fits_range : {h : History} {l : ℕ → List ℕ} {C : ℕ → Type 0} {i k : ℕ} → ListFits h l C i k → (7 ≤ k) × (k < 12)
fits_range (never _ _) = (omega arith, omega arith)
fits_range (again _ _ _) = (omega arith, omega arith)
fits_range (undone _ _ _) = (omega arith, omega arith)
fits_range (half _ _ _ _ _) = (omega arith, omega arith)
fits_range (apart _ _ _ _ _) = (omega arith, omega arith)

-- the test for a list read that is judged is right
pub judged_list_iff : {h : History} → LawfulHistory h → {i : ℕ} → IsOp h i → (is_judged_list h i ≡ true) ↔ JudgedList h i
unfolding is_judged_list is_list
judged_list_iff {h} ok {i} o = (
  λ e.
      let a = and_left _ _ e in
      record {
        list_read = record { is_op = o; held = and_left _ _ a; of_list = leb-true _ _ (and_right _ _ a) };
        in_committed = (counts_iff ok _).0 (and_right _ _ e);
      },
  λ r. both _ _ (both _ _ r.list_read.held (le-leb _ _ r.list_read.of_list)) ((counts_iff ok _).1 r.in_committed),
)

-- what is held as a write is an operation
pub held_op : (h : History) (i : ℕ) → (op h i).is_write ≡ true → IsOp h i
unfolding op
held_op h zero e = absurd (false≢true e)
held_op h (suc i) e =
    record {
      from = omega arith;
      to =
          ⊎_elim (λ b. omega arith)
          (λ g.
          let past = get_or-eq_default (no_op ∷ h.ops) no_op {n = suc i} (omega arith) in
          absurd (false≢true (sym (ap (λ (o : Op). o.is_write) past) ∙ e)))
          (split (suc i) (op_count h + 1));
    }

pub judged-op : (h : History) (i : ℕ) → is_judged_list h i ≡ true → IsOp h i
unfolding is_judged_list is_list
judged-op h i e = held_op h i (and_left _ _ (and_left _ _ e))

-- no kind fits exactly if the first that fits is none
first-none : {F : ℕ → Type 0} {k : ℕ} → ((m : ℕ) → F m → (7 ≤ m) × (m < 12)) → Firstly F 7 12 k → (k ≡ 0) ↔ ((m : ℕ) → F m → ⊥)
first-none range (none z f) = (λ _ m y. f m (range m y).0 (range m y).1 y, λ _. z)
first-none range (hit a x f) = (λ e. absurd (omega arith), λ d. absurd (d _ x))

-- .. and m fits first exactly if it is m
first_some : {F : ℕ → Type 0} {k : ℕ} → ((m : ℕ) → F m → (7 ≤ m) × (m < 12)) → Firstly F 7 12 k → (m : ℕ) → (m ≡ 0 → ⊥)
    → (k ≡ m) ↔ (F m × ((p : ℕ) → p < m → F p → ⊥))
first_some range (none z f) m d = (λ e. absurd (d (sym e ∙ z)), λ y. absurd (f m (range m y.0).0 (range m y.0).1 y.0))
first_some {F} {k} range (hit a x f) m d = (
  λ e. (rw e at x, λ p b y. f p (range p y).0 (omega arith) y),
  λ y. ⊎_elim (λ b. absurd (y.1 k b x)) (λ g. ⊎_elim (λ b. absurd (f m (range m y.0).0 b y.0)) (λ b. omega arith) (split m k)) (split k m),
)

module _ {h : History} (ok : LawfulHistory h) (l : ℕ → List ℕ) {C : ℕ → Type 0} (are : IsCleanness h l C) where
  -- by those before it
  first_of : (i : ℕ) → ((j : ℕ) → j < i → (is_clean_list h l j ≡ true) ↔ C j) → IsOp h i → Firstly (ListFits h l C i) 7 12 (list_kind h l i)
  first_of i ih o = rw (kind-by_clean h l i) (kind-first ok l o.to ih (λ j k. ((are j).0 k).judged.list_read.is_op.from))

  clean_at : (i : ℕ) → ((j : ℕ) → j < i → (is_clean_list h l j ≡ true) ↔ C j) → (is_clean_list h l i ≡ true) ↔ C i
  clean_at i ih = (
    λ t.
        let j = clean_judged h l i t in
        let o = judged-op h i j in
        (are i).1
        (record { judged = (judged_list_iff ok o).0 j; none_fits = (first-none (λ m y. fits_range y) (first_of i ih o)).0 (clean_kind h l i t) }),
    λ k.
        let r = (are i).0 k in
        let o = r.judged.list_read.is_op in
        kind_clean h l i ((judged_list_iff ok o).1 r.judged) ((first-none (λ m y. fits_range y) (first_of i ih o)).1 r.none_fits),
  )

  clean_below : (n j : ℕ) → j < n → (is_clean_list h l j ≡ true) ↔ C j
  clean_below zero j b = absurd (omega arith)
  clean_below (suc n) j b = ⊎_elim (λ e. rw e (clean_at n (clean_below n))) (λ k. clean_below n j k) (below_suc b)

  -- a list read is clean exactly if the test says so
  pub clean_list_iff : (i : ℕ) → (is_clean_list h l i ≡ true) ↔ C i
  clean_list_iff i = clean_at i (λ j b. clean_below i j b)

  -- it has kind k exactly if that is the kind that is computed
  pub list_kind_iff : {i : ℕ} → JudgedList h i → (k : ℕ) → (k ≡ 0 → ⊥) → (list_kind h l i ≡ k) ↔ HasListKind h l C i k
  list_kind_iff {i} r k d =
      let t = first_some (λ m y. fits_range y) (first_of i (λ j b. clean_below i j b) r.list_read.is_op) k d in (
        λ e. let y = t.0 e in record { fits = y.0; none_earlier = y.1 },
        λ y. t.1 (y.fits, y.none_earlier),
      )

-- the test is a notion of clean as the document has it, and there is no other
pub test-is_cleanness : {h : History} → LawfulHistory h → (l : ℕ → List ℕ) → IsCleanness h l (λ i. is_clean_list h l i ≡ true)
test-is_cleanness {h} ok l i = (
  λ t.
      let j = clean_judged h l i t in
      let o = judged-op h i j in
      record { judged = (judged_list_iff ok o).0 j; none_fits = (first-none (λ m y. fits_range y) (first o)).0 (clean_kind h l i t) },
  λ r. kind_clean h l i ((judged_list_iff ok r.judged.list_read.is_op).1 r.judged)
      ((first-none (λ m y. fits_range y) (first r.judged.list_read.is_op)).1 r.none_fits),
)
  where
    first : IsOp h i → Firstly (ListFits h l (λ j. is_clean_list h l j ≡ true) i) 7 12 (list_kind h l i)
    first o = rw (kind-by_clean h l i) (kind-first ok l o.to (λ j b. (λ t. t, λ t. t)) (λ j t. (judged-op h j (clean_judged h l j t)).from))

pub cleanness_one : {h : History} → LawfulHistory h → (l : ℕ → List ℕ) {C D : ℕ → Type 0} → IsCleanness h l C → IsCleanness h l D → (i : ℕ) → C i ↔ D i
cleanness_one ok l c d i =
    let p = clean_list_iff ok l c i in
    let q = clean_list_iff ok l d i in
    (λ x. q.0 (p.1 x), λ x. p.0 (q.1 x))
