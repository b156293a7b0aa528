-- The clean lists of a key form a chain under "starts with": so one is the longest, and a list is in line with all earlier clean ones exactly if it is in line
-- with the longest of them.
use Prim.Native.Nat.{ℕ, zero, suc, ◌<◌, ◌≤◌}
use mathlib.Core.Path.{◌≡◌, refl, ap, sym, ◌∙◌}
use mathlib.Core.Bool.{Bool, true, false, not, false≢true}
use mathlib.Core.List.{List, []}
use mathlib.Core.Logic.{⊎_elim}
use native.Mathlib.Omega.{arith}
use lib.ListN.{length}
use lib.Dec.{eqb}
use borrow.Author.Tests.{eqb-true, eqb-false, eq-eqb, ltb-true, ltb-false}
use Rattle.base.specs.Base.{◌and◌, some}
use Rattle.base.proofs.Tests.{ifso, clash, is_false, same_test, not-true, both, and_left, and_right, pick_on, pick_off, split, below_suc}
use Rattle.base.proofs.Searches.{some_at, some_of_lem, some_same, none-at}
use Rattle.base.proofs.Rows.{fit_unfit}
use Rattle.rules.specs.History.{History, op}
use Rattle.appends_rules.specs.Appends.{is_list, key_of, is_judged_list}
use Rattle.appends_rules.specs.ListKinds.{begins, in_line, is_of, is_apart, list_kind_by, kind_with, clean_with, clean_below, list_kind, is_clean_list, list_at, is_longer, longest_below}
use Rattle.appends_rules.proofs.Lines.{begins-none, begins_itself, begins_on, line-either, line_cases, line_left, line_right, line_swap, line_shorter}

module _ (h : History) (l : ℕ → List ℕ) where
  -- ── clean, without the bound ──

  -- only what c says below i counts
  kind-same : (c d : ℕ → Bool) (i : ℕ) → ((j : ℕ) → j < i → c j ≡ d j) → kind_with h l c i ≡ kind_with h l d i
  unfolding kind_with is_apart is_of
  kind-same c d i e =
      ap (list_kind_by h _ _ _)
      (some_same (is_apart h l c i) (is_apart h l d i) i 1 (λ j a b. ap (λ (q : Bool). q and eqb (key_of h j) (key_of h i) and not (in_line (l i) (l j))) (e j b)))

  below_is : (n i : ℕ) → i < n → clean_below h l n i ≡ is_clean_list h l i
  unfolding clean_below is_clean_list
  below_is zero i b = absurd (omega arith)
  below_is (suc n) i b =
      ifso (eqb i n) (λ t. pick_on _ _ _ t ∙ ap (λ (j : ℕ). clean_with h l (clean_below h l j) j) (sym (eqb-true i n t)))
      (λ t. pick_off _ _ _ t ∙ below_is n i (⊎_elim (λ z. absurd (eqb-false i n t z)) (λ z. z) (below_suc b)))

  -- the kind of a list read by which earlier ones are clean
  pub kind-by_clean : (i : ℕ) → list_kind h l i ≡ kind_with h l (is_clean_list h l) i
  unfolding list_kind
  kind-by_clean i = kind-same (clean_below h l i) (is_clean_list h l) i (below_is i)

  pub clean_judged : (i : ℕ) → is_clean_list h l i ≡ true → is_judged_list h i ≡ true
  unfolding is_clean_list clean_with
  clean_judged i t = and_left _ _ t

  pub clean_kind : (i : ℕ) → is_clean_list h l i ≡ true → list_kind h l i ≡ 0
  unfolding is_clean_list clean_with list_kind
  clean_kind i t = eqb-true _ _ (and_right _ _ t)

  pub kind_clean : (i : ℕ) → is_judged_list h i ≡ true → list_kind h l i ≡ 0 → is_clean_list h l i ≡ true
  unfolding is_clean_list clean_with list_kind
  kind_clean i t e = both _ _ t (eq-eqb _ _ e)

  -- operation 0 is none
  pub clean_0 : is_clean_list h l 0 ≡ false
  unfolding is_judged_list is_list op
  clean_0 = is_false _ (λ t. false≢true (and_left _ _ (and_left _ _ (clean_judged 0 t))))

  -- ── a chain ──

  -- where no kind fits, 11 does not
  no_11 : (t x : ℕ) (e : List ℕ) (b : Bool) → list_kind_by h t x e b ≡ 0 → b ≡ false
  unfolding list_kind_by
  no_11 t x e b z =
      let r7 = fit_unfit _ _ _ (omega arith) z in
      let r8 = fit_unfit _ _ _ (omega arith) r7.1 in
      let r9 = fit_unfit _ _ _ (omega arith) r8.1 in
      let r10 = fit_unfit _ _ _ (omega arith) r9.1 in
      (fit_unfit _ _ _ (omega arith) r10.1).0

  -- an earlier clean list of the key is in line with a clean one
  pub clean_line : (x i j : ℕ) → 1 ≤ j → j < i → is_of h (is_clean_list h l) x i ≡ true → is_of h (is_clean_list h l) x j ≡ true → in_line (l i) (l j) ≡ true
  unfolding is_of is_apart kind_with
  clean_line x i j a b s t =
      let n = no_11 _ _ _ _ (sym (kind-by_clean i) ∙ clean_kind i (and_left _ _ s)) in
      let k : eqb (key_of h j) (key_of h i) ≡ true = eq-eqb (key_of h j) (key_of h i) (eqb-true (key_of h j) x (and_right _ _ t)
      ∙ sym (eqb-true (key_of h i) x (and_right _ _ s))) in
      ifso (in_line (l i) (l j)) (λ y. y)
      (λ y. absurd (clash (both _ _ (both _ _ (and_left _ _ t) k) (ap not y)) (none-at (is_apart h l (is_clean_list h l) i) i 1 n j a b)))

  -- any two clean lists of a key are in line
  pub clean_chain : (x i j : ℕ) → 1 ≤ i → 1 ≤ j → is_of h (is_clean_list h l) x i ≡ true → is_of h (is_clean_list h l) x j ≡ true → in_line (l i) (l j) ≡ true
  clean_chain x i j a b s t =
      ⊎_elim (λ m. line_swap _ _ (clean_line x j i a m t s))
      (λ g. ⊎_elim (λ m. clean_line x i j b m s t) (λ k. let e : i ≡ j = omega arith in rw e (line_left _ _ (begins_itself (l j)))) (split j i)) (split i j)

  -- ── the longest ──

  -- m is the longest clean list of x below n: a clean one, or 0 where all are empty, that starts with each of them
  pub record Longest (x n m : ℕ) : Type 0 where
    pub clean : 0 < m → (is_of h (is_clean_list h l) x m ≡ true) × (m < n)
    pub starts : (j : ℕ) → 1 ≤ j → j < n → is_of h (is_clean_list h l) x j ≡ true → begins (l j) (list_at l m) ≡ true

  pub at_list : (m : ℕ) → 0 < m → list_at l m ≡ l m
  unfolding list_at
  at_list zero z = absurd (omega arith)
  at_list (suc m) z = refl

  pub at_zero : (m : ℕ) → m ≡ 0 → list_at l m ≡ []
  unfolding list_at
  at_zero zero z = refl
  at_zero (suc m) z = absurd (omega arith)

  -- a clean list is in line with the longest below n
  line_longest : (x n m i : ℕ) → Longest x n m → 1 ≤ i → is_of h (is_clean_list h l) x i ≡ true → in_line (l i) (list_at l m) ≡ true
  line_longest x n m i r a s =
      ⊎_elim (λ z. rw (at_list m z) (clean_chain x i m a (omega arith) s (r.clean z).0))
      (λ z. rw (at_zero m (omega arith)) (line_right (l i) [] (begins-none (l i)))) (split 0 m)

  -- a clean one that is longer takes its place
  longer : (x n m : ℕ) → Longest x n m → is_longer h l x (list_at l m) n ≡ true → Longest x (suc n) n
  unfolding is_longer
  longer x n m r t =
      record {
        clean = λ z. (and_left _ _ t, omega arith);
        starts =
            λ j a b s.
            rw (at_list n (omega arith))
            (⊎_elim (λ e. rw e (begins_itself (l n)))
            (λ k.
            begins_on _ _ _ (r.starts j a k s)
            (line_shorter _ _ (line_swap _ _ (line_longest x n m n r (omega arith) (and_left _ _ t)))
            (omega (arith, ltb-true (length (list_at l m)) (length (l n)) (and_right _ _ t)))))
            (below_suc b));
      }

  -- any other leaves it
  shorter : (x n m : ℕ) → Longest x n m → is_longer h l x (list_at l m) n ≡ false → Longest x (suc n) m
  unfolding is_longer
  shorter x n m r t =
      record {
        clean = λ z. ((r.clean z).0, omega (arith, (r.clean z).1));
        starts =
            λ j a b s.
            ⊎_elim
            (λ e.
            let q : is_of h (is_clean_list h l) x n ≡ true = rw e at s in
            rw e (line_shorter _ _ (line_longest x n m n r (omega arith) q) (ltb-false _ _ (is_false _ (λ y. clash (both _ _ q y) t)))))
            (λ k. r.starts j a k s) (below_suc b);
      }

  pub longest_below_lem : (x n : ℕ) → Longest x n (longest_below h l x n)
  unfolding longest_below
  longest_below_lem x zero = record { clean = λ z. absurd (omega arith); starts = λ j a b s. absurd (omega arith) }
  longest_below_lem x (suc n) =
      let r = longest_below_lem x n in
      ifso (is_longer h l x (list_at l (longest_below h l x n)) n) (λ t. rw (pick_on _ n (longest_below h l x n) t) (longer x n _ r t))
      (λ t. rw (pick_off _ n (longest_below h l x n) t) (shorter x n _ r t))

  -- ── comparing with the longest so far is comparing with all ──

  pub apart_longest : (i m : ℕ) → Longest (key_of h i) i m → some 1 i (is_apart h l (is_clean_list h l) i) ≡ not (in_line (l i) (list_at l m))
  unfolding is_apart
  apart_longest i m r = same_test _ _ (λ s. ap not (there s)) back
    where
      there : some 1 i (is_apart h l (is_clean_list h l) i) ≡ true → in_line (l i) (list_at l m) ≡ false
      there s =
          let q = some_at (is_apart h l (is_clean_list h l) i) i 1 s in
          let b = r.starts q.at q.from q.to (and_left _ _ q.passes) in
          is_false _
          (λ t.
          clash
          (⊎_elim (λ (p : begins (l i) (list_at l m) ≡ true). line-either _ _ _ p b) (λ (p : begins (list_at l m) (l i) ≡ true). line_right _ _
          (begins_on _ _ _ b p))
          (line_cases _ _ t))
          (not-true _ (and_right _ _ q.passes)))

      back : not (in_line (l i) (list_at l m)) ≡ true → some 1 i (is_apart h l (is_clean_list h l) i) ≡ true
      back t =
          ⊎_elim
          (λ z.
          some_of_lem (is_apart h l (is_clean_list h l) i) i 1 m (omega arith) (r.clean z).1
          (both _ _ (r.clean z).0 (rw (sym (at_list m z)) t)))
          (λ z. absurd (clash {b = in_line (l i) (list_at l m)} (rw (at_zero m (omega arith)) (line_right (l i) [] (begins-none (l i)))) (not-true _ t)))
          (split 0 m)

  -- so the kind is told by the longest clean list of the key so far
  pub kind-by_longest : (i : ℕ)
      → list_kind h l i ≡ list_kind_by h (op h i).tx (key_of h i) (l i) (not (in_line (l i) (list_at l (longest_below h l (key_of h i) i))))
  unfolding kind_with
  kind-by_longest i = kind-by_clean i ∙ ap (list_kind_by h _ _ _) (apart_longest i _ (longest_below_lem (key_of h i) i))
