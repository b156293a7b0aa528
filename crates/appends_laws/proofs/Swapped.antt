-- The call on lists looks at the lists of list reads alone: with others in place of what is held for the other operations it tells the same.
use Prim.Native.Nat.{ℕ, zero, suc, ◌+◌}
use mathlib.Core.Path.{◌≡◌, refl, ap, sym, ◌∙◌, fun_ext}
use mathlib.Core.Bool.{Bool, true, false}
use mathlib.Core.List.{List, []}
use lib.Dec.{eqb}
use borrow.Author.Tests.{eqb-true}
use Rattle.base.specs.Base.{◌and◌, pick, those}
use Rattle.base.proofs.Tests.{ifso, clash, and_left, and_no_left, and_when, pick_on, pick_off}
use Rattle.base.proofs.Searches.{some_same, listed_same, joined-those}
use Rattle.rules.specs.History.{History, op_count}
use Rattle.appends_rules.specs.Appends.{key_of, is_list, is_judged_list}
use Rattle.appends_rules.specs.ListKinds.{is_of, is_apart, kind_with, clean_with, clean_below, list_kind, is_clean_list, is_list_finding, list_at, is_longer, longest_below, longest_of, is_longest}
use Rattle.appends_rules.specs.Dependencies.{orders, is_write_dep, tells, is_read_dep, is_dep, dep_reasons, write_pairs, dep_pairs}
use Rattle.appends_rules.specs.ListOutcome.{fault_of, list_findings, list_finding_bytes, list_finding_list, write_dep_list, dep_list, both_lists, told_lists}
use Rattle.appends_rules.proofs.Longest.{clean_judged}

module _ (h : History) (l m : ℕ → List ℕ) (same : (i : ℕ) → is_list h i ≡ true → l i ≡ m i) where
  same-judged : (i : ℕ) → is_judged_list h i ≡ true → l i ≡ m i
  unfolding is_judged_list
  same-judged i t = same i (and_left _ _ t)

  -- ── kinds ──

  -- only list reads count as clean
  judged_below : (n i : ℕ) → clean_below h l n i ≡ true → is_judged_list h i ≡ true
  unfolding clean_below clean_with
  judged_below zero i t = absurd (clash t refl)
  judged_below (suc n) i t =
      ifso (eqb i n)
      (λ e. rw (eqb-true i n e) (and_left _ _ (sym (pick_on _ _ _ e) ∙ t)))
      (λ e. judged_below n i (sym (pick_off _ _ _ e) ∙ t))

  module _ (c : ℕ → Bool) (lists : (j : ℕ) → c j ≡ true → is_judged_list h j ≡ true) (i : ℕ) (t : is_judged_list h i ≡ true) where
    same-apart : (j : ℕ) → is_apart h l c i j ≡ is_apart h m c i j
    unfolding is_apart is_of
    same-apart j =
        and_when (is_of h c (key_of h i) j) (λ o. rw (same-judged i t, same-judged j (lists j (and_left (c j) _ o))))

    same-kind_with : kind_with h l c i ≡ kind_with h m c i
    unfolding kind_with
    same-kind_with = rw (same-judged i t, some_same (is_apart h l c i) (is_apart h m c i) i 1 (λ j _ _. same-apart j))

  same_clean_with : (c : ℕ → Bool) → ((j : ℕ) → c j ≡ true → is_judged_list h j ≡ true) → (i : ℕ) → clean_with h l c i ≡ clean_with h m c i
  unfolding clean_with
  same_clean_with c lists i = and_when (is_judged_list h i) (λ t. rw (same-kind_with c lists i t))

  same_below : (n : ℕ) → clean_below h l n ≡ clean_below h m n
  unfolding clean_below
  same_below zero = refl
  same_below (suc n) = fun_ext (λ i. rw (same_clean_with (clean_below h l n) (judged_below n) n, same_below n))

  same_clean : is_clean_list h l ≡ is_clean_list h m
  unfolding is_clean_list
  same_clean = fun_ext (λ i. rw (same_clean_with (clean_below h l i) (judged_below i) i, same_below i))

  same_kind : (i : ℕ) → is_judged_list h i ≡ true → list_kind h l i ≡ list_kind h m i
  unfolding list_kind
  same_kind i t = rw (same-kind_with (clean_below h l i) (judged_below i) i t, same_below i)

  -- ── findings ──

  same_finding : (i : ℕ) → is_list_finding h l i ≡ is_list_finding h m i
  unfolding is_list_finding
  same_finding i = and_when (is_judged_list h i) (λ t. rw (same_kind i t))

  same-findings : list_findings h l ≡ list_findings h m
  unfolding list_findings
  same-findings = ap (those 1 (op_count h + 1)) (fun_ext same_finding)

  same_bytes : (i : ℕ) → is_judged_list h i ≡ true → list_finding_bytes h l i ≡ list_finding_bytes h m i
  unfolding list_finding_bytes fault_of
  same_bytes i t = rw (same_kind i t, same-judged i t)

  finding_bytes : (i : ℕ) → pick (is_list_finding h l i) (list_finding_bytes h l i) [] ≡ pick (is_list_finding h m i) (list_finding_bytes h m i) []
  unfolding is_list_finding
  finding_bytes i =
      ap (λ (b : Bool). pick b (list_finding_bytes h l i) []) (same_finding i)
      ∙ ifso (is_list_finding h m i) (λ t. pick_on _ _ _ t ∙ same_bytes i (and_left _ _ t) ∙ sym (pick_on _ _ _ t)) (λ t. pick_off _ _ _ t ∙ sym (pick_off _ _ _ t))

  same_finding_list : list_finding_list h l ≡ list_finding_list h m
  unfolding list_finding_list list_findings
  same_finding_list =
      joined-those (list_finding_bytes h l) (is_list_finding h l) (op_count h + 1) 1 ∙ listed_same _ _ (op_count h + 1) 1 (λ i _ _. finding_bytes i)
      ∙ sym (joined-those (list_finding_bytes h m) (is_list_finding h m) (op_count h + 1) 1)

  -- ── the longest ──

  of_list : (x i : ℕ) → is_of h (is_clean_list h m) x i ≡ true → l i ≡ m i
  unfolding is_of
  of_list x i t = same-judged i (clean_judged h m i (and_left _ _ t))

  same_longer : (x : ℕ) (e : List ℕ) (n : ℕ) → is_longer h l x e n ≡ is_longer h m x e n
  unfolding is_longer
  same_longer x e n = rw same_clean (and_when (is_of h (is_clean_list h m) x n) (λ t. rw (of_list x n t)))

  -- the number, and its list
  same_at : (x n : ℕ) → is_of h (is_clean_list h m) x n ≡ true → list_at l n ≡ list_at m n
  unfolding list_at
  same_at x zero t = refl
  same_at x (suc n) t = of_list x (suc n) t

  same_longest : (x n : ℕ) → (longest_below h l x n ≡ longest_below h m x n) × (list_at l (longest_below h m x n) ≡ list_at m (longest_below h m x n))
  unfolding longest_below list_at is_longer
  same_longest x zero = (refl, refl)
  same_longest x (suc n) =
      let r = same_longest x n in
      let b = is_longer h m x (list_at m (longest_below h m x n)) n in (
        rw (r.0, r.1, same_longer x (list_at m (longest_below h m x n)) n),
        ifso b (λ t. rw (pick_on b n (longest_below h m x n) t) (same_at x n (and_left _ _ t))) (λ t. rw (pick_off b n (longest_below h m x n) t) r.1),
      )

  same-is_longest : (i : ℕ) → is_longest h l i ≡ is_longest h m i
  unfolding is_longest longest_of
  same-is_longest i = rw (same_clean, (same_longest (key_of h i) (op_count h + 1)).0)

  -- ── dependencies ──

  same-orders : (a b i : ℕ) → orders h l a b i ≡ orders h m a b i
  unfolding orders is_longest
  same-orders a b i = rw (same-is_longest i) (and_when (is_longest h m i) (λ t. rw (same-judged i (clean_judged h m i (and_left _ _ t)))))

  same-tells : (a b i : ℕ) → tells h l a b i ≡ tells h m a b i
  unfolding tells
  same-tells a b i =
      ifso (is_clean_list h m i) (λ t. rw (same_clean, same-judged i (clean_judged h m i t)))
      (λ t. rw (same_clean, t) (none-tells _ _ _ ∙ sym (none-tells _ _ _)))
    where
      none-tells : (p q r : Bool) → ((false and p) and q) and r ≡ false
      none-tells p q r = and_no_left _ _ (and_no_left _ _ (and_no_left _ _ refl))

  same_write_dep : is_write_dep h l ≡ is_write_dep h m
  unfolding is_write_dep
  same_write_dep =
      fun_ext (λ a. fun_ext (λ b. rw (some_same (orders h l a b) (orders h m a b) (op_count h + 1) 1 (λ i _ _. same-orders a b i))))

  same-read_dep : is_read_dep h l ≡ is_read_dep h m
  unfolding is_read_dep
  same-read_dep = fun_ext (λ a. fun_ext (λ b. rw (some_same (tells h l a b) (tells h m a b) (op_count h + 1) 1 (λ i _ _. same-tells a b i))))

  same_dep : is_dep h l ≡ is_dep h m
  unfolding is_dep
  same_dep = fun_ext (λ a. fun_ext (λ b. rw (same-read_dep, same_write_dep)))

  same-reasons : dep_reasons h l ≡ dep_reasons h m
  unfolding dep_reasons
  same-reasons = fun_ext (λ a. fun_ext (λ b. rw (same-read_dep, same_write_dep)))

  same_writes : write_pairs h l ≡ write_pairs h m
  unfolding write_pairs
  same_writes = rw same_write_dep

  same_deps : dep_pairs h l ≡ dep_pairs h m
  unfolding dep_pairs
  same_deps = rw same_dep

  same_both : both_lists h l ≡ both_lists h m
  unfolding both_lists write_dep_list dep_list
  same_both = rw (same_writes, same_deps, same-reasons)

  -- ── the answer ──

  pub same-told : (fs ps : List ℕ) → told_lists h l fs ps ≡ told_lists h m fs ps
  unfolding told_lists
  same-told fs ps = rw (same_finding_list, same_both, same-findings, same_writes, same_deps)
