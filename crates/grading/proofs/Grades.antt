-- The number of a list read, by the list read of its key before it.
use Prim.Native.Nat.{ℕ, zero, suc, ◌+◌, ◌-◌, ◌*◌, ◌/◌, ◌%◌, ◌<◌, ◌≤◌}
use mathlib.Core.Path.{◌≡◌, refl, ap, sym, ◌∙◌}
use mathlib.Core.Bool.{true, false, false≢true}
use mathlib.Core.List.{List}
use mathlib.Core.Logic.{inl, inr, ⊎_elim}
use native.Mathlib.Numerals.{add-one}
use native.Mathlib.Omega.{arith}
use lib.Dec.{eqb}
use lib.ListN.{length, get_or, set, length-set}
use lib.Seq.{get_or-set_same, get_or-set_other}
use borrow.Author.Tests.{eqb-true, eqb-false, eq-eqb, lt-ltb, le-ltb, leb-true, le-leb, lt-leb}
use Rattle.base.proofs.Tests.{ifso, clash, is_false, both, and_left, and_right, and_no_left, and_no_right, pick_on, pick_off, split}
use Rattle.base.proofs.Chains.{last_passes, last_none, last_less}
use Rattle.rules.specs.History.{History, op, op_count, append_key}
use Rattle.table.specs.Table.{keyed, prev_list}
use Rattle.appends_rules.specs.Appends.{is_list, key_of, is_judged_list}
use Rattle.appends_rules.specs.ListKinds.{is_of, is_clean_list, list_at, is_longer, longest_below}
use Rattle.appends_rules.proofs.Longest.{clean_judged, clean_0, at_list, longest_below_lem}
use Rattle.elements.specs.Elements.{Fresh, Scanned}
use Rattle.grading.specs.Grades.{code_of, grade_of, Graded, Ungraded, OnlyMarked}
use Rattle.grading.proofs.Codes.{code_small, clean_code, code-is_clean}

-- ── list reads and appends ──

-- what is held as a write is not operation 0
write_from : (h : History) (i : ℕ) → (op h i).is_write ≡ true → 0 < i
unfolding op
write_from h zero t = absurd (false≢true t)
write_from h (suc i) t = omega arith

module _ (h : History) where
  list_write : (i : ℕ) → is_list h i ≡ true → (op h i).is_write ≡ true
  unfolding is_list
  list_write i t = and_left _ _ t

  of_list : (i : ℕ) → is_list h i ≡ true → 8589934592 ≤ (op h i).key
  unfolding is_list
  of_list i t = leb-true _ _ (and_right _ _ t)

  append_apart : (x w : ℕ) → x < 4294967296 → keyed h (append_key x) w ≡ true → (is_list h w ≡ false) × (0 < w)
  unfolding keyed is_list
  append_apart x w s t =
      let e = eqb-true (op h w).key (append_key x) (and_right _ _ t) in
      (and_no_right _ _ (lt-leb 8589934592 (op h w).key (omega arith)), write_from h w (and_left _ _ t))

  -- a look at a list marks appends only
  pub scanned_marked : {x i r : ℕ} {e k m : List ℕ} → x < 4294967296 → Scanned h x e i k m r → OnlyMarked h i k m
  scanned_marked {x} s z =
      record { room = z.room; kept = λ w. ⊎_elim (λ e. inl e) (λ e. let t = append_apart x w s e.1 in inr (e.0, t.0, t.1)) (z.kept w) }

  pub none-marked : (i : ℕ) (k : List ℕ) → length k ≡ 1025 → OnlyMarked h i k k
  none-marked i k r = record { room = r; kept = λ w. inl refl }

module _ (h : History) (l : ℕ → List ℕ) where
  -- ── the longest ──

  longest_miss : (x n : ℕ) → is_of h (is_clean_list h l) x n ≡ false → longest_below h l x (n + 1) ≡ longest_below h l x n
  unfolding longest_below is_longer
  longest_miss x n e = rw (add-one n) (pick_off _ _ _ (and_no_left _ _ e))

  longest_skip : (x a n : ℕ) → ((j : ℕ) → a ≤ j → j < a + n → is_of h (is_clean_list h l) x j ≡ false) → longest_below h l x (a + n) ≡ longest_below h l x a
  longest_skip x a zero f = ap (longest_below h l x) (omega arith)
  longest_skip x a (suc n) f =
      let e : a + suc n ≡ (a + n) + 1 = omega arith in
      rw e (longest_miss x (a + n) (f (a + n) (omega arith) (omega arith)) ∙ longest_skip x a n (λ j b c. f j b (omega arith)))

  longest_first : (x : ℕ) → longest_below h l x 1 ≡ 0
  unfolding longest_below is_of
  longest_first x = longest_miss x 0 (and_no_left _ _ (clean_0 h l))

  keyed_list : (i j : ℕ) → is_list h i ≡ true → keyed h (op h i).key j ≡ true → (is_list h j ≡ true) × (key_of h j ≡ key_of h i)
  unfolding keyed is_list key_of
  keyed_list i j is t =
      let e = eqb-true (op h j).key (op h i).key (and_right _ _ t) in
      (both _ _ (and_left _ _ t) (le-leb 8589934592 (op h j).key (omega (arith, e, of_list h i is))), ap (λ (n : ℕ). n % 4294967296) e)

  module _ (small : (i : ℕ) → is_list h i ≡ true → (op h i).key < 12884901888) where
    -- a clean list of i's key is a list read of it
    of_keyed : (i j : ℕ) → is_list h i ≡ true → is_of h (is_clean_list h l) (key_of h i) j ≡ true → keyed h (op h i).key j ≡ true
    unfolding is_of keyed key_of is_judged_list
    of_keyed i j is t =
        let s = and_left _ _ (clean_judged h l j (and_left _ _ t)) in
        let e = eqb-true (key_of h j) (key_of h i) (and_right _ _ t) in
        both _ _ (list_write h j s)
        (eq-eqb (op h j).key (op h i).key (omega (arith, of_list h i is, of_list h j s, small i is, small j s, e)))

    -- up to a list read the longest is what it was behind the one before it
    longest_prev : (i j : ℕ) → 1 ≤ i → is_list h i ≡ true → j ≡ prev_list h i → longest_below h l (key_of h i) i ≡ longest_below h l (key_of h i) (j + 1)
    unfolding prev_list
    longest_prev i j a is e =
        let b = last_less (keyed h (op h i).key) i a in
        let q : i ≡ (j + 1) + (i - (j + 1)) = omega (arith, e) in
        ap (longest_below h l (key_of h i)) q
        ∙ longest_skip (key_of h i) (j + 1) (i - (j + 1))
        (λ n c d. is_false _ (λ t. clash (of_keyed i n is t) (last_none (keyed h (op h i).key) i n (omega (arith, e)) (omega (arith, e)))))

    -- .. which its number says
    pub grade_prev : {k : List ℕ} (i j : ℕ) → 1 ≤ i → is_list h i ≡ true → Graded h l i k → j ≡ prev_list h i
        → get_or k j 0 / 16 ≡ longest_below h l (key_of h i) i
    unfolding prev_list grade_of
    grade_prev {k} i j a is g e =
        ⊎_elim
        (λ z.
        let r = last_passes (keyed h (op h i).key) i (omega (arith, e)) in
        let t = keyed_list i j is (rw (sym e) at r.0) in
        let v = g.grades j (omega (arith, r.1, e)) t.0 in
        let c = code_small h l j in
        let d : get_or k j 0 / 16 ≡ longest_below h l (key_of h j) (j + 1) = omega (arith, v, c) in
        d ∙ ap (λ (x : ℕ). longest_below h l x (j + 1)) t.1 ∙ sym (longest_prev i j a is e))
        (λ (z : j ≤ 0).
        let y : j ≡ 0 = omega arith in
        let d : get_or k j 0 / 16 ≡ 0 = rw y (omega (arith, g.zero)) in
        d ∙ sym (longest_prev i j a is e ∙ rw y (longest_first (key_of h i))))
        (split 0 j)

  -- behind list read i, a and b being the lengths of its list and of the longest before it, m
  module _ (i m : ℕ) (e : m ≡ longest_below h l (key_of h i) i) where
    pub longest_unclean : (code_of h l i ≡ 1 → ⊥) → m ≡ longest_below h l (key_of h i) (i + 1)
    unfolding is_of
    longest_unclean d = e ∙ sym (longest_miss (key_of h i) i (and_no_left _ _ (is_false _ (λ t. d (clean_code h l i t)))))

    module _ (f : 1 ≤ i) {a b : ℕ} (ea : a ≡ length (list_at l i)) (eb : b ≡ length (list_at l m)) where
      pub longest_stays : a ≤ b → m ≡ longest_below h l (key_of h i) (i + 1)
      unfolding longest_below is_longer
      longest_stays g =
          let n : length (l i) ≤ length (list_at l m) = omega (arith, ap length (at_list h l i f)) in
          rw (add-one i) (e ∙ sym (pick_off _ _ _ (and_no_right _ _ (rw (← e) (le-ltb _ _ n)))))

      pub longest_new : code_of h l i ≡ 1 → b < a → i ≡ longest_below h l (key_of h i) (i + 1)
      unfolding longest_below is_longer is_of
      longest_new c g =
          let m = longest_below h l (key_of h i) i in
          let n : length (list_at l m) < length (l i) = omega (arith, ap length (at_list h l i f), ap (λ (n : ℕ). length (list_at l n)) e) in
          rw (add-one i)
          (sym (pick_on _ i m (both _ _ (both _ _ (code-is_clean h l i c) (eq-eqb (key_of h i) (key_of h i) refl))
          (lt-ltb (length (list_at l m)) (length (l i)) n))))

  pub longest_most : (x i : ℕ) {b : ℕ} → b ≡ longest_below h l x (i + 1) → b ≤ i
  longest_most x i {b} e = ⊎_elim (λ z. omega (arith, e, ((longest_below_lem h l x (i + 1)).clean (omega (arith, e))).1)) (λ z. omega arith) (split 0 b)

  -- ── the numbers ──

  pub graded_fresh : {k : List ℕ} {i x : ℕ} → Graded h l i k → op_count h ≤ 1024 → i ≤ op_count h → x < 4294967296 → Fresh h x i k
  graded_fresh {x = x} g a c s = record { room = g.room; number = omega arith; below = λ w t. g.marks w (append_apart h x w s t).0 }

  -- from its parts
  pub grade_is : (i : ℕ) {c b : ℕ} → c ≡ code_of h l i → b ≡ longest_below h l (key_of h i) (i + 1) → c + 16 * b ≡ grade_of h l i
  unfolding grade_of
  grade_is i e f = rw (e, f)

  -- .. which a word of the table holds
  pub grade_small : (i : ℕ) {c b : ℕ} → i ≤ 1024 → c ≡ code_of h l i → b ≡ longest_below h l (key_of h i) (i + 1) → c + 16 * b < 65536
  grade_small i few e f = omega (arith, e, code_small h l i, longest_most (key_of h i) i f)

  -- .. of which the code is the lower
  pub grade_code : {k : List ℕ} {n : ℕ} → Graded h l n k → (i : ℕ) → i < n → is_list h i ≡ true → get_or k i 0 % 16 ≡ code_of h l i
  unfolding grade_of
  grade_code g i b t = omega (arith, g.grades i b t, code_small h l i)

  pub graded_start : {k : List ℕ} → Ungraded k → Graded h l 1 k
  graded_start b =
      record {
        room = b.room;
        zero = b.is 0;
        grades = λ i a t. absurd (omega (arith, write_from h i (list_write h i t)));
        marks = λ w t. omega (arith, b.is w);
      }

  pub graded_on : {k m : List ℕ} (i v : ℕ) → 1 ≤ i → i ≤ 1024 → is_list h i ≡ true → Graded h l i k → OnlyMarked h i k m → v ≡ grade_of h l i
      → Graded h l (i + 1) (set m i v)
  graded_on {k} {m} i v a b is g c e =
      record {
        room = length-set m i v ∙ c.room;
        zero = get_or-set_other m i 0 v 0 (λ z. omega arith) ∙ ⊎_elim (λ y. y ∙ g.zero) (λ y. absurd (omega (arith, y.2))) (c.kept 0);
        grades =
            λ j d t.
            ifso (eqb j i) (λ y. rw (eqb-true j i y) (get_or-set_same m i v 0 (omega (arith, c.room)) ∙ e))
            (λ y.
            get_or-set_other m i j v 0 (eqb-false j i y)
            ∙ ⊎_elim (λ u. u ∙ g.grades j (omega (arith, eqb-false j i y)) t) (λ u. absurd (clash t u.1)) (c.kept j));
        marks =
            λ w t.
            let d : w ≡ i → ⊥ = λ z. clash (rw (← z) at is) t in
            ⊎_elim (λ u. omega (arith, u, get_or-set_other m i w v 0 d, g.marks w t)) (λ u. omega (arith, u.0, get_or-set_other m i w v 0 d)) (c.kept w);
      }

  -- an operation that is no list leaves the table as it is
  pub graded_past : {k : List ℕ} (i : ℕ) → is_list h i ≡ false → Graded h l i k → Graded h l (i + 1) k
  graded_past i is g =
      record {
        room = g.room;
        zero = g.zero;
        grades = λ j d t. g.grades j (⊎_elim (λ y. y) (λ y. let z : j ≡ i = omega arith in absurd (clash (rw z at t) is)) (split j i)) t;
        marks = λ w t. omega (arith, g.marks w t);
      }
