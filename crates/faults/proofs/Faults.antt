-- What a list read's code says of its finding, and the finding's last field.
use Prim.Native.Nat.{ℕ, ◌+◌, ◌-◌, ◌*◌, ◌/◌, ◌%◌, ◌<◌, ◌≤◌}
use mathlib.Core.Path.{◌≡◌, refl, ap, sym, ◌∙◌}
use mathlib.Core.Bool.{Bool, true, false}
use mathlib.Core.List.{List, [], ◌∷◌}
use mathlib.Core.Logic.{◌⊎◌, ⊎_elim}
use native.Mathlib.Omega.{arith}
use lib.Dec.{leb}
use lib.ListN.{length}
use mir.Val.{bool_byte}
use Rattle.std.specs.Prelude.{Option, None, Some, MatchOption, unwrap_or}
use Rattle.std.specs.Bool.{MatchBool}
use Rattle.std.specs.List.{range_with_len, AllWithin, HoldsAt}
use Rattle.std.proofs.Common.{zero-add}
use Rattle.std.proofs.lemmas.List.FromFn.{length-range_with_len, get_or-range_with_len}
use borrow.Author.Tests.{eq-eqb, ne_eqb, lt-ltb, le-ltb, le-leb, lt-leb, ltb-true}
use Rattle.base.specs.Base.{◌and◌, pick, first, listed, first_fit}
use Rattle.base.proofs.Tests.{ifso, clash, is_false, both, and_left, and_right, and_no_left, pick_on, pick_off, split}
use Rattle.base.proofs.Searches.{first_cases, first-is, some_of_lem, some-none, some_end, joined-those, joined_length}
use Rattle.base.proofs.Fill.{Appended}
use Rattle.rules.specs.History.{History, tx, op, op_count}
use Rattle.rules.proofs.History.{op_0, status_0}
use Rattle.sifting.specs.Lists.{entry_at}
use Rattle.sifting.proofs.Listings.{those-listed, those_most, count_more, room_for, put_in}
use Rattle.appends_rules.specs.Appends.{is_list, key_of, append_of, appender_of, is_judged_list, value_at, values_at}
use Rattle.appends_rules.specs.ListKinds.{begins, element, is_lost, same_element, is_again, is_undone, is_half, list_kind_by, list_kind, is_clean_list, is_list_finding, list_at, longest_below}
use Rattle.appends_rules.specs.ListOutcome.{fault_by, fault_of, list_findings, list_finding_bytes, list_finding_list}
use Rattle.appends_rules.proofs.Lines.{begins-none, line_left}
use Rattle.appends_rules.proofs.Longest.{kind-by_longest, clean_kind, kind_clean}
use Rattle.elements.specs.Elements.{ListAt, is_aborted}
use Rattle.elements.proofs.Lists.{at-element}
use Rattle.grading.specs.Grades.{code_of}
use Rattle.grading.proofs.Codes.{kind-low, code_most}
use Rattle.faults.specs.Faults.{finding_in}

byte-pick : (b : Bool) → bool_byte b ≡ pick b 1 0
unfolding pick
byte-pick true = refl
byte-pick false = refl

begins-empty : (a b : List ℕ) → length a ≡ 0 → begins a b ≡ true
begins-empty [] b e = begins-none b
begins-empty (x ∷ a) b e = absurd (omega arith)

module _ (h : History) (l : ℕ → List ℕ) where
  -- ── codes from 7 on are the kinds of findings ──

  unclean-kind : (i : ℕ) → is_judged_list h i ≡ true → is_clean_list h l i ≡ false → 7 ≤ list_kind h l i
  unclean-kind i j c = kind-low h l i (λ z. clash (kind_clean h l i j z) c)

  unclean-code : (i : ℕ) → is_judged_list h i ≡ true → is_clean_list h l i ≡ false → code_of h l i ≡ list_kind h l i
  unfolding code_of
  unclean-code i j c = pick_on _ _ _ j ∙ pick_off _ _ _ c

  finding_unclean : (i : ℕ) → is_list_finding h l i ≡ true → (is_judged_list h i ≡ true) × (is_clean_list h l i ≡ false)
  unfolding is_list_finding
  finding_unclean i t =
      (and_left _ _ t, is_false _ (λ c. omega (arith, clean_kind h l i c, ltb-true 0 (list_kind h l i) (and_right _ _ t))))

  pub code_finding : (i : ℕ) → leb 7 (code_of h l i) ≡ is_list_finding h l i
  unfolding is_list_finding code_of
  code_finding i =
      ifso (is_judged_list h i)
      (λ (j : is_judged_list h i ≡ true).
      ifso (is_clean_list h l i)
      (λ (c : is_clean_list h l i ≡ true).
      let e : code_of h l i ≡ 1 = pick_on _ _ _ j ∙ pick_on _ _ _ c in
      lt-leb 7 (code_of h l i) (omega arith) ∙ sym (is_false _ (λ t. omega (arith, clean_kind h l i c, ltb-true 0 (list_kind h l i) (and_right _ _ t)))))
      (λ (c : is_clean_list h l i ≡ false).
      let m = unclean-kind i j c in
      le-leb 7 (code_of h l i) (omega (arith, unclean-code i j c)) ∙ sym (both _ _ j (lt-ltb 0 (list_kind h l i) (omega arith)))))
      (λ (j : is_judged_list h i ≡ false).
      let e : code_of h l i ≡ 0 = pick_off _ _ _ j in
      lt-leb 7 (code_of h l i) (omega arith) ∙ sym (and_no_left _ _ j))

  -- a finding's list has an element
  kind-empty : (i : ℕ) → length (l i) ≡ 0 → list_kind h l i ≡ 0
  unfolding list_kind_by first_fit is_half ◌and◌
  kind-empty i z =
      kind-by_longest h l i
      ∙ rw (
        some_end (is_lost h (key_of h i) (l i)) 0 (length (l i)) (omega arith),
        some_end (is_again (l i)) 0 (length (l i)) (omega arith),
        some_end (is_undone h (key_of h i) (l i)) 0 (length (l i)) (omega arith),
        le-ltb 0 (length (l i)) (omega arith),
        line_left (l i) (list_at l (longest_below h l (key_of h i) i)) (begins-empty (l i) _ z),
      )

  finding_some : (i : ℕ) → is_list_finding h l i ≡ true → 0 < length (l i)
  finding_some i t =
      let z = finding_unclean i t in
      let m = unclean-kind i z.0 z.1 in
      ⊎_elim (λ b. b) (λ b. absurd (omega (arith, kind-empty i (omega arith)))) (split 0 (length (l i)))

  -- ── the list ──

  pub faults_listed : list_findings h l ≡ listed 1 (op_count h + 1) (entry_at (is_list_finding h l))
  unfolding list_findings
  faults_listed = those-listed 1 (op_count h + 1) (is_list_finding h l)

  -- how many there are among the operations below i
  abbrev pub below : ℕ → ℕ
  below i = length (listed 1 i (entry_at (is_list_finding h l)))

  -- .. and with operation i, whose code is v
  pub below_more : (i : ℕ) {n v w : ℕ} → 1 ≤ i → n ≡ below i → v ≡ code_of h l i → w ≡ bool_byte (leb 7 v) → n + w ≡ below (i + 1)
  below_more i a en ev ew = rw (en, ew, ev, code_finding i, byte-pick (is_list_finding h l i)) (sym (count_more (is_list_finding h l) 1 i a))

  pub below_most : (i : ℕ) {n : ℕ} → n ≡ below i → n ≤ i - 1
  below_most i e = omega (arith, e, those_most (is_list_finding h l) 1 i)

  pub below_all : {i n : ℕ} → i ≡ op_count h + 1 → n ≡ below i → n ≡ length (list_findings h l)
  below_all e f = f ∙ rw e (ap length (sym faults_listed))

  pub fault_list : list_finding_list h l ≡ listed 1 (op_count h + 1) (finding_in h l)
  unfolding list_finding_list list_findings finding_in
  fault_list = joined-those (list_finding_bytes h l) (is_list_finding h l) (op_count h + 1) 1

  pub faults_long : length (list_finding_list h l) ≡ 6 * length (list_findings h l)
  unfolding list_finding_list list_finding_bytes
  faults_long = joined_length (list_finding_bytes h l) 6 (λ i. refl) (list_findings h l)

  pub faults_fit : (m : ℕ) → 6 * length (list_findings h l) ≤ m → 0 + length (listed 1 (op_count h + 1) (finding_in h l)) ≤ m
  faults_fit m b = rw (← fault_list) (omega (arith, faults_long))

  -- operation i's, whose code is v
  module _ (i : ℕ) {v : ℕ} (ev : v ≡ code_of h l i) where
    pub no_finding : (v < 7) ⊎ (11 < v) → is_list_finding h l i ≡ false
    no_finding b = sym (code_finding i) ∙ lt-leb 7 (code_of h l i) (⊎_elim (λ u. omega arith) (λ u. absurd (omega (arith, code_most h l i))) b)

    module _ (b : 7 ≤ v) where
      is_finding : is_list_finding h l i ≡ true
      is_finding = sym (code_finding i) ∙ le-leb 7 (code_of h l i) (omega arith)

      pub fault_listed : is_list h i ≡ true
      unfolding is_judged_list
      fault_listed = and_left _ _ (finding_unclean i is_finding).0

      pub fault_room : (at n : ℕ) → at + length (finding_in h l i) ≤ n → at + 6 ≤ n
      unfolding finding_in list_finding_bytes
      fault_room at n q = room_for (list_finding_bytes h l i) is_finding at n q

      -- .. whose list is e, of the key x
      module _ {x : ℕ} {e : List ℕ} (ex : x ≡ key_of h i) (ee : e ≡ l i) where
        pub some_elements : {n : ℕ} → length e ≡ n → 0 < n
        some_elements q = omega (arith, ap length ee, finding_some i is_finding)

        -- .. and whose last field is w
        pub fault_put : {t w : ℕ} → t ≡ (op h i).tx → w ≡ fault_by h x e v → {o u : List ℕ} {at to : ℕ}
            → Appended o at u to (t ∷ v ∷ i % 256 ∷ i / 256 ∷ w % 256 ∷ w / 256 ∷ []) → Appended o at u to (finding_in h l i)
        unfolding finding_in list_finding_bytes fault_of
        fault_put {t} {w} et ew p =
            let z = finding_unclean i is_finding in
            let k : v ≡ list_kind h l i = ev ∙ unclean-code i z.0 z.1 in
            let f : w ≡ fault_by h (key_of h i) (l i) (list_kind h l i) = ew ∙ rw (ex, ee, k) in
            put_in (list_finding_bytes h l i) is_finding (rw (← et, ← f, ← k) p)

-- ── the first element at fault ──

-- what a search of the numbers below n for one that passes p found, if any
pub first_found : (p : ℕ → Bool) (n : ℕ) (found : Option ℕ)
    → MatchOption found ((k : ℕ) → 0 ≤ k → k < n → p k ≡ false) (λ q. (0 ≤ q) × (q < n) × (p q ≡ true) × ((k : ℕ) → 0 ≤ k → k < q → p k ≡ false))
    → (unwrap_or found 0 ≡ first 0 0 n p) × (0 < n → unwrap_or found 0 < n)
first_found p n None none = (sym (⊎_elim (λ z. z.0) (λ z. absurd (clash z.passes (none _ z.from z.to))) (first_cases 0 p n 0)), λ l. l)
first_found p n (Some q) x = (sym (first-is 0 p n 0 q (record { from = x.0; to = x.1; passes = x.2; none = x.3 })), λ l. x.1)

-- element q of the list at p, v, among those before it
pub again_by : {s : List ℕ} {p n q v : ℕ} → ListAt s p n → q < n → v ≡ value_at s p q → (r : Bool)
    → MatchBool r ((k : ℕ) × (k < length (range_with_len 0 q)) × HoldsAt (λ j. value_at s p j ≡ v) (range_with_len 0 q) k)
    (AllWithin (λ j. value_at s p j ≡ v → ⊥) (range_with_len 0 q) 0 (length (range_with_len 0 q)))
    → r ≡ is_again (values_at s p) q
unfolding is_again same_element
again_by {s} {p} {n} {q} {v} x l e true t =
    let k = t.0 in
    let m : k < q = omega (arith, t.1, length-range_with_len 0 q) in
    let i = get_or-range_with_len 0 q k 0 m ∙ zero-add k in
    sym
    (some_of_lem (same_element (values_at s p) q) q 0 k (omega arith) m
    (eq-eqb _ _ (at-element x k (omega arith) ∙ (rw i at (t.2 0)) ∙ e ∙ sym (at-element x q l))))
again_by {s} {p} {n} {q} {v} x l e false t =
    sym
    (some-none (same_element (values_at s p) q) q 0
    (λ k a m.
    let i = get_or-range_with_len 0 q k 0 m ∙ zero-add k in
    ne_eqb (element (values_at s p) k) (element (values_at s p) q)
    (λ d. (rw i at (t k 0 (omega arith) (omega (arith, length-range_with_len 0 q)))) (sym (at-element x k (omega arith)) ∙ d ∙ at-element x q l ∙ sym e))))

-- ── the last field ──

module _ (h : History) (x : ℕ) (e : List ℕ) where
  -- w is the append of element r; n: how many elements e has
  module _ {n r w : ℕ} (z : w ≡ append_of h x (element e r)) where
    pub fault_8 : length e ≡ n → r ≡ first 0 0 n (is_again e) → w ≡ fault_by h x e 8
    unfolding fault_by pick
    fault_8 l a = rw l (z ∙ ap (λ (q : ℕ). append_of h x (element e q)) a)

    pub fault_9 : length e ≡ n → r ≡ first 0 0 n (is_undone h x e) → w ≡ fault_by h x e 9
    unfolding fault_by pick
    fault_9 l a = rw l (z ∙ ap (λ (q : ℕ). append_of h x (element e q)) a)

    pub fault_10 : length e ≡ n → r ≡ n - 1 → w ≡ fault_by h x e 10
    unfolding fault_by pick
    fault_10 l a = z ∙ ap (λ (q : ℕ). append_of h x (element e q)) (omega arith)

  -- no other kind names an append
  pub fault_none : (k : ℕ) → (k ≡ 8 → ⊥) → (k ≡ 9 → ⊥) → (k ≡ 10 → ⊥) → 0 ≡ fault_by h x e k
  unfolding fault_by pick
  fault_none k a b c = rw (ne_eqb k 8 a, ne_eqb k 9 b, ne_eqb k 10 c)

  pub fault_7 : 0 ≡ fault_by h x e 7
  unfolding fault_by pick
  fault_7 = refl

  pub fault_11 : 0 ≡ fault_by h x e 11
  unfolding fault_by pick
  fault_11 = refl

  -- w is element q's append
  module _ (q : ℕ) {w : ℕ} (z : w ≡ append_of h x (element e q)) where
    pub undone_none : w ≡ 0 → false ≡ is_undone h x e q
    unfolding is_undone appender_of
    undone_none y =
        sym
        (ne_eqb (tx h (appender_of h x (element e q))).status 0
        (λ d. omega (arith, d, ap (λ (u : ℕ). (tx h (op h u).tx).status) (sym z ∙ y) ∙ ap (λ (u : ℕ). (tx h u).status) (op_0 h) ∙ status_0 h)))

    pub undone_is : is_aborted h w ≡ is_undone h x e q
    unfolding is_undone is_aborted appender_of
    undone_is = ap (is_aborted h) z
