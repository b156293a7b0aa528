-- What is marked are the dependencies.
use Prim.Native.Nat.{ℕ, ◌+◌, ◌-◌, ◌<◌, ◌≤◌}
use mathlib.Core.Path.{◌≡◌, ap, sym, ◌∙◌}
use mathlib.Core.Bool.{Bool, true, false, not}
use mathlib.Core.List.{List}
use native.Mathlib.Omega.{arith}
use lib.Dec.{eqb}
use lib.ListN.{length}
use borrow.Author.Tests.{eqb-true, eq-eqb, lt-ltb, le-ltb}
use Rattle.base.specs.Base.{◌or◌, pick}
use Rattle.base.proofs.Tests.{is_false, same_test, not-true, both, and_left, and_right, and_on, and_no_left, or_off, or_on, pick_on, pick_off}
use Rattle.base.proofs.Searches.{some_at, some_of_lem, some_end}
use Rattle.rules.specs.History.{History, op, op_count}
use Rattle.rules.proofs.History.{op_0}
use Rattle.bits.specs.Bits.{bit_of, Holds, nothing, either}
use Rattle.bits.proofs.Tables.{holds_same, holds_self}
use Rattle.pairs.specs.Pairs.{before, across}
use Rattle.pairs.proofs.Marking.{cell-is, cell_has, Marking, mark_up}
use Rattle.appends_rules.specs.Appends.{is_list, key_of, append_of, appender_of, is_judged_list}
use Rattle.appends_rules.specs.ListKinds.{element, last_element}
use Rattle.appends_rules.specs.Dependencies.{joins, is_write_dep, tells, is_read_dep}
use Rattle.appends_rules.proofs.Longest.{clean_judged}
use Rattle.appends_rules.proofs.Neighbours.{next_to, write_dep_any}
use Rattle.grading.specs.Grades.{code_of}
use Rattle.grading.proofs.Codes.{clean_code, code-is_clean}
use Rattle.ties.specs.Ties.{deps_of, tied, next_tie, next_ties, last_tie, ties_of}

-- ── tables ──

-- nothing is added
pub either-none : {t : List ℕ} (g : ℕ → ℕ → Bool) → length t ≡ 256 → ((x y : ℕ) → g x y ≡ false) → Holds t (either (bit_of t) g)
unfolding either
either-none g r f = holds_same (holds_self _ r) (λ x y hx hy. sym (or_off _ _ (f x y)))

-- the same is added
pub either_same : {t : List ℕ} (E : ℕ → ℕ → Bool) {f g : ℕ → ℕ → Bool} → Holds t (either E f) → ((x y : ℕ) → f x y ≡ g x y) → Holds t (either E g)
unfolding either
either_same E h e = holds_same h (λ x y hx hy. ap (λ (b : Bool). E x y or b) (e x y))

-- all that is to be marked, in a table that has nothing
pub mark-all : {t : List ℕ} (z : ℕ → ℕ → ℕ → Bool) {g : ℕ → ℕ → Bool} (a e : ℕ) → Holds t nothing → ((x y : ℕ) → across a e z x y ≡ g y x)
    → Marking z (before g) a e t
unfolding nothing before
mark-all z a e p f = record { room = p.room; rest = λ x y hx hy. or_on _ _ (p.is x y hx hy) ∙ f x y }

-- ── a pair ──

tied_at : (a b x y : ℕ) → tied a b x y ≡ true → (eqb y x ≡ false) × (a ≡ y) × (b ≡ x)
unfolding tied
tied_at a b x y t =
    let r = cell-is (not (eqb a b)) b a x y t in
    (rw (r.1, r.2) (not-true _ r.0), sym r.2, sym r.1)

tied_has : {a b x y : ℕ} → a ≡ y → b ≡ x → eqb y x ≡ false → tied a b x y ≡ true
unfolding tied
tied_has {a} {b} {x} {y} p q e = rw (p, q) (cell_has (not (eqb y x)) x y (ap not e))

-- ── who appended ──

pub appender_none : (h : History) (x v : ℕ) {w : ℕ} → w ≡ append_of h x v → w ≡ 0 → 0 ≡ appender_of h x v
unfolding appender_of
appender_none h x v e z = sym (ap (λ (w : ℕ). (op h w).tx) (sym e ∙ z) ∙ op_0 h)

pub appender_some : (h : History) (x v : ℕ) {w : ℕ} → w ≡ append_of h x v → (op h w).tx ≡ appender_of h x v
unfolding appender_of
appender_some h x v e = ap (λ (w : ℕ). (op h w).tx) e

-- ── a list ──

module _ (h : History) (x : ℕ) (e : List ℕ) where
  pub next-none : length e ≡ 0 → (a b : ℕ) → next_ties h x e a b ≡ false
  unfolding next_ties across
  next-none z a b = some_end _ 0 (length e - 1) (omega arith)

  -- a and b appended element q - 1 and element q
  pub next_marked : {w : ℕ → ℕ → Bool} {t u : List ℕ} {a b q : ℕ} → 1 ≤ q → q < length e → a ≡ appender_of h x (element e (q - 1)) → b ≡ appender_of h x (element e q)
      → Marking (next_tie h x e) w (q - 1) (length e - 1) t → Holds u (either (bit_of t) (tied a b)) → Marking (next_tie h x e) w q (length e - 1) u
  unfolding next_tie
  next_marked {t = t} {u} {a} {b} {q} l m ea eb z p =
      let k : q - 1 + 1 ≡ q = omega arith in
      let y : Holds u (either (bit_of t) (tied (appender_of h x (element e (q - 1))) (appender_of h x (element e (q - 1 + 1))))) = rw (k, ← ea, ← eb) p in
      rw k at (mark_up (next_tie h x e) (q - 1) (omega arith) z y)

  pub last_empty : length e ≡ 0 → (t a b : ℕ) → last_tie h x e t a b ≡ false
  unfolding last_tie
  last_empty z t a b = and_no_left _ _ (le-ltb 0 (length e) (omega arith))

  pub last_some : {u : ℕ} (t : ℕ) → 0 < length e → u ≡ appender_of h x (last_element e) → (a b : ℕ) → tied u t a b ≡ last_tie h x e t a b
  unfolding last_tie
  last_some {u} t z q a b = sym (and_on _ _ (lt-ltb 0 (length e) z) ∙ ap (λ (v : ℕ). tied v t a b) (sym q))

-- ── all list reads ──

module _ (h : History) (l : ℕ → List ℕ) where
  pub clean_list : (i : ℕ) → code_of h l i ≡ 1 → is_list h i ≡ true
  unfolding is_judged_list
  clean_list i e = and_left _ _ (clean_judged h l i (code-is_clean h l i e))

  -- of list read i, whose list e of the key x was looked at, and whose transaction is t
  module _ (reads : Bool) (i : ℕ) where
    pub ties_none : (code_of h l i ≡ 1 → ⊥) → (a b : ℕ) → ties_of reads h l i a b ≡ false
    unfolding ties_of
    ties_none d a b = and_no_left _ _ (is_false _ (λ t. d (clean_code h l i t)))

    module _ {x : ℕ} {e : List ℕ} (c : code_of h l i ≡ 1) (p : x ≡ key_of h i) (q : e ≡ l i) where
      pub ties_next : reads ≡ false → (a b : ℕ) → next_ties h x e a b ≡ ties_of reads h l i a b
      unfolding ties_of
      ties_next o a b = sym (and_on _ _ (code-is_clean h l i c) ∙ pick_off _ _ _ o ∙ rw (← q, ← p))

      pub ties_last : {t : ℕ} → reads ≡ true → t ≡ (op h i).tx → (a b : ℕ) → last_tie h x e t a b ≡ ties_of reads h l i a b
      unfolding ties_of
      ties_last o r a b = sym (and_on _ _ (code-is_clean h l i c) ∙ pick_on _ _ _ o ∙ rw (← q, ← p, ← r))

  -- some list read gives the pair (y, x) exactly if it is a dependency
  next_given : (x y : ℕ) → across 1 (op_count h + 1) (ties_of false h l) x y ≡ is_write_dep h l y x
  unfolding across ties_of next_ties next_tie next_to joins pick
  next_given x y =
      same_test _ _
      (λ s.
      let q = some_at (λ i. ties_of false h l i x y) (op_count h + 1) 1 s in
      let r = some_at (λ k. next_tie h (key_of h q.at) (l q.at) k x y) (length (l q.at) - 1) 0 (and_right _ _ q.passes) in
      let z = tied_at _ _ x y r.passes in
      write_dep_any h l y x
      ∙ both _ _ (ap not z.0)
      (some_of_lem (next_to h l y x) (op_count h + 1) 1 q.at q.from q.to
      (both _ _ (and_left _ _ q.passes)
      (some_of_lem (joins h (key_of h q.at) (l q.at) y x) (length (l q.at) - 1) 0 r.at (omega arith) r.to
      (both _ _ (eq-eqb _ _ z.1) (eq-eqb _ _ z.2))))))
      (λ s.
      let t = sym (write_dep_any h l y x) ∙ s in
      let q = some_at (next_to h l y x) (op_count h + 1) 1 (and_right _ _ t) in
      let r = some_at (joins h (key_of h q.at) (l q.at) y x) (length (l q.at) - 1) 0 (and_right _ _ q.passes) in
      some_of_lem (λ i. ties_of false h l i x y) (op_count h + 1) 1 q.at q.from q.to
      (both _ _ (and_left _ _ q.passes)
      (some_of_lem (λ k. next_tie h (key_of h q.at) (l q.at) k x y) (length (l q.at) - 1) 0 r.at (omega arith) r.to
      (tied_has (eqb-true _ _ (and_left _ _ r.passes)) (eqb-true _ _ (and_right _ _ r.passes)) (not-true _ (and_left _ _ t))))))

  last_given : (x y : ℕ) → across 1 (op_count h + 1) (ties_of true h l) x y ≡ is_read_dep h l y x
  unfolding across ties_of last_tie is_read_dep tells pick
  last_given x y =
      same_test _ _
      (λ s.
      let q = some_at (λ i. ties_of true h l i x y) (op_count h + 1) 1 s in
      let r = and_right _ _ q.passes in
      let z = tied_at _ _ x y (and_right _ _ r) in
      both _ _ (ap not z.0)
      (some_of_lem (tells h l y x) (op_count h + 1) 1 q.at q.from q.to
      (both _ _ (both _ _ (both _ _ (and_left _ _ q.passes) (and_left _ _ r)) (eq-eqb _ _ z.1)) (eq-eqb _ _ z.2))))
      (λ s.
      let q = some_at (tells h l y x) (op_count h + 1) 1 (and_right _ _ s) in
      let u = and_left _ _ q.passes in
      let v = and_left _ _ u in
      some_of_lem (λ i. ties_of true h l i x y) (op_count h + 1) 1 q.at q.from q.to
      (both _ _ (and_left _ _ v)
      (both _ _ (and_right _ _ v)
      (tied_has (eqb-true _ _ (and_right _ _ u)) (eqb-true _ _ (and_right _ _ q.passes)) (not-true _ (and_left _ _ s))))))

  pub ties_are : (reads : Bool) (x y : ℕ) → across 1 (op_count h + 1) (ties_of reads h l) x y ≡ deps_of reads h l y x
  unfolding deps_of pick
  ties_are true x y = last_given x y
  ties_are false x y = next_given x y
