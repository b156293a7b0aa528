-- What the call on lists answers and writes is as the document says, and nothing else is.
use Prim.Native.Nat.{ℕ, ◌+◌, ◌*◌, ◌<◌, ◌≤◌}
use mathlib.Core.Path.{◌≡◌, refl, ap, sym, ◌∙◌}
use mathlib.Core.Bool.{Bool, true, false}
use mathlib.Core.List.{List}
use mathlib.Core.Logic.{⊎_elim}
use native.Mathlib.Omega.{arith}
use lib.Dec.{ltb}
use lib.ListN.{length, get_or, length-append}
use borrow.Author.Tests.{ltb-true, ltb-false, lt-ltb, le-ltb}
use Rattle.base.specs.Base.{pick, joined}
use Rattle.base.proofs.Tests.{ifso, pick_on, pick_off, split}
use Rattle.base.proofs.Searches.{joined_length}
use Rattle.theory.specs.Entries.{In}
use Rattle.theory.proofs.Entries.{all_of_one, entry_in}
use Rattle.rules.specs.History.{History}
use Rattle.rules.specs.Reading.{Reading, refused, read, reading}
use Rattle.rules.specs.Outcome.{Pair}
use Rattle.demand1.specs.Lawful.{LawfulHistory}
use Rattle.demand1.proofs.Lawful.{lawful_history}
use Rattle.demand1.proofs.Readings.{refuses_iff, has_read, read_has}
use Rattle.demand3.specs.Lists.{Spelt, no_pair}
use Rattle.demand3.proofs.Bytes.{Shorter, each_shorter, joined_below, six_at, four-at, six_one, four_one}
use Rattle.demand3.proofs.Forced.{adds_one}
use Rattle.appends_rules.specs.Appends.{lists_in}
use Rattle.appends_rules.specs.ListKinds.{list_kind}
use Rattle.appends_rules.specs.Dependencies.{is_write_dep, is_read_dep, dep_reasons, pair_with, write_pairs, dep_pairs}
use Rattle.appends_rules.specs.ListOutcome.{fault_of, list_findings, list_finding_bytes, list_finding_list, write_dep_list, dep_list, both_lists, ListOutcome, told_lists, lists_of_read, judged_lists}
use Rattle.appends_rules.proofs.Longest.{kind_clean}
use Rattle.appends_laws.specs.ListFits.{HasListKind, IsCleanness}
use Rattle.appends_laws.specs.ListPairs.{Depends, DepReasons}
use Rattle.appends_laws.specs.ListFindings.{ListFinding, FaultNumber, for_7, for_8, for_9, for_10, for_11}
use Rattle.appends_laws.specs.ListBytes.{DepPairAt, Sixteen, ListFindingAt, FindingsTold, WritesTold, DepsTold, ListsSay, short_12, short_13, says, ListsJudge, reading_refused, of_history}
use Rattle.appends_laws.proofs.ListFits.{fits_range, judged_list_iff, clean_list_iff, list_kind_iff, test-is_cleanness}
use Rattle.appends_laws.proofs.ListPairs.{dep_txs, dep_reasons_are, write_pairs_are, dep_pairs_are, pairs-over_one}
use Rattle.appends_laws.proofs.ListFindings.{list_findings_are, fault_is, fault_one}

-- ── pairs with any reasons ──

module _ (r : ℕ → ℕ → ℕ) (R : ℕ → ℕ → ℕ → Type 0) (are : (a b : ℕ) → R a b (r a b)) (ps : List Pair) where
  pub pair-bytes-long : length (joined (pair_with r) ps) ≡ 4 * length ps
  unfolding pair_with
  pair-bytes-long = joined_length (pair_with r) 4 (λ p. refl) ps

  spelt-pairs : ((p : Pair) → In p ps → (p.one < 256) × (p.two < 256) × (r p.one p.two < 256)) → Spelt 4 (DepPairAt R) no_pair ps (joined (pair_with r) ps)
  unfolding pair_with
  spelt-pairs small =
      record {
        long = pair-bytes-long;
        bytes = joined_below (pair_with r) ps (λ p i. let s = small p i in each_shorter (pair_with r p) (s.0, (s.1, (s.2, (omega arith, tt)))));
        each =
            λ j l.
            let p = get_or ps j no_pair in
            let b = four-at (pair_with r) no_pair ps l (λ q. refl) refl in
            record { first = b.one; second = b.two; reasons = rw b.three (are p.one p.two); zero = b.four };
      }

-- one list, where a pair's reasons are one number
spelt-pairs_one : {R : ℕ → ℕ → ℕ → Type 0} → ((a b n m : ℕ) → R a b n → R a b m → n ≡ m) → {ps : List Pair} {l k : List ℕ}
    → Spelt 4 (DepPairAt R) no_pair ps l → Spelt 4 (DepPairAt R) no_pair ps k → l ≡ k
spelt-pairs_one one x y =
    four_one x y
    (λ j b.
    let p = x.each j b in
    let q = y.each j b in
    record {
      one = p.first ∙ sym q.first;
      two = p.second ∙ sym q.second;
      three = one _ _ _ _ p.reasons q.reasons;
      four = p.zero ∙ sym q.zero;
    })

-- a sum of 4 and 16 is a byte
sum_small : (a b : Bool) → pick a 4 0 + pick b 16 0 < 256
unfolding pick
sum_small true true = omega arith
sum_small true false = omega arith
sum_small false true = omega arith
sum_small false false = omega arith

module _ {h : History} (ok : LawfulHistory h) (l : ℕ → List ℕ) {C : ℕ → Type 0} (are : IsCleanness h l C) where
  -- ── findings ──

  -- a finding's kind, and its last field
  unclean-kind : {i : ℕ} → ListFinding h l C i → list_kind h l i ≡ 0 → ⊥
  unclean-kind {i} x z =
      x.unclean ((clean_list_iff ok l are i).0 (kind_clean h l i ((judged_list_iff ok x.judged.list_read.is_op).1 x.judged) z))

  pub finding_kind : {i : ℕ} → ListFinding h l C i → HasListKind h l C i (list_kind h l i)
  finding_kind {i} x = (list_kind_iff ok l are x.judged (list_kind h l i) (unclean-kind x)).0 refl

  pub finding_fault : {i : ℕ} → ListFinding h l C i → FaultNumber h l i (list_kind h l i) (fault_of h l i)
  finding_fault {i} x = fault_is ok l are i x.judged (unclean-kind x) refl

  fault_most : {i m w : ℕ} → FaultNumber h l i m w → w ≤ 1024
  fault_most for_7 = omega arith
  fault_most (for_8 f a) = omega (arith, a.is_op.to, ok.few_ops)
  fault_most (for_9 f a) = omega (arith, a.is_op.to, ok.few_ops)
  fault_most (for_10 a) = omega (arith, a.is_op.to, ok.few_ops)
  fault_most for_11 = omega arith

  finding_small : (i : ℕ) → ListFinding h l C i → Shorter (list_finding_bytes h l i)
  unfolding list_finding_bytes
  finding_small i x =
      let o = x.judged.list_read.is_op in
      each_shorter (list_finding_bytes h l i) (
        omega (arith, (ok.in_tx i o).to, ok.few_txs),
        (omega (arith, (fits_range (finding_kind x).fits).1), (omega arith, (omega (arith, o.to, ok.few_ops), (omega arith, (omega (arith, fault_most (finding_fault x)), tt))))),
      )

  pub findings-told : FindingsTold h l C (list_findings h l) (list_finding_list h l)
  unfolding list_finding_list list_finding_bytes
  findings-told =
      record {
        are = list_findings_are ok l are;
        spell =
            record {
              long = joined_length (list_finding_bytes h l) 6 (λ i. refl) (list_findings h l);
              bytes = joined_below (list_finding_bytes h l) (list_findings h l) (λ i m. finding_small i (((list_findings_are ok l are).entries i).0 m));
              each =
                  λ j b.
                  let i = get_or (list_findings h l) j 0 in
                  let x = ((list_findings_are ok l are).entries i).0 (entry_in (list_findings h l) j 0 b) in
                  let s = six_at (list_finding_bytes h l) 0 (list_findings h l) b (λ i. refl) refl in
                  record {
                    transaction = s.one;
                    kind = rw s.two (finding_kind x);
                    number = s.three;
                    append = rw (s.two, s.five) (finding_fault x);
                  };
            };
      }

  -- a list read has one kind at most
  pub list_kind_one : {i k m : ℕ} → HasListKind h l C i k → HasListKind h l C i m → k ≡ m
  list_kind_one {k = k} {m} x y =
      ⊎_elim (λ b. absurd (y.none_earlier k b x.fits)) (λ g. ⊎_elim (λ b. absurd (x.none_earlier m b y.fits)) (λ b. omega arith) (split m k))
      (split k m)

  spelt-findings_one : {is b c : List ℕ} → Spelt 6 (ListFindingAt h l C) 0 is b → Spelt 6 (ListFindingAt h l C) 0 is c → b ≡ c
  spelt-findings_one x y =
      six_one x y
      (λ j b.
      let p = x.each j b in
      let q = y.each j b in
      let e = list_kind_one p.kind q.kind in
      record {
        one = p.transaction ∙ sym q.transaction;
        two = e;
        three = p.number ∙ sym q.number;
        five = fault_one ok l are _ (rw e at p.append) q.append;
      })

  -- ── pairs ──

  small : {a b r : ℕ} → Depends h l C a b r → (a < 256) × (b < 256)
  small d = let m = dep_txs ok l are d in (omega (arith, m.0, ok.few_txs), omega (arith, m.1, ok.few_txs))

  pub writes_told : WritesTold h l C (write_pairs h l) (write_dep_list h l)
  unfolding write_dep_list
  writes_told =
      record {
        are = write_pairs_are ok l are;
        spell =
            spelt-pairs (λ a b. 16) Sixteen (λ a b. refl) (write_pairs h l)
            (λ p i. let s = small (((write_pairs_are ok l are).entries p).0 i).is in (s.0, s.1, omega arith));
      }

  pub deps_told : DepsTold h l C (dep_pairs h l) (dep_list h l)
  unfolding dep_list dep_reasons
  deps_told =
      record {
        are = dep_pairs_are ok l are;
        spell =
            spelt-pairs (dep_reasons h l) (DepReasons h l C) (dep_reasons_are ok l are) (dep_pairs h l)
            (λ p i. let s = small (((dep_pairs_are ok l are).entries p).0 i).is.1 in (s.0, s.1, sum_small (is_read_dep h l p.one p.two) (is_write_dep h l p.one p.two)));
      }

  pub dep_reasons_one : (a b n m : ℕ) → DepReasons h l C a b n → DepReasons h l C a b m → n ≡ m
  dep_reasons_one a b n m x y = omega (arith, x.sum, y.sum, adds_one x.adds_4 y.adds_4, adds_one x.adds_16 y.adds_16)

  -- ── the answer ──

  module _ (fs ps : List ℕ) where
    found-long : length (list_finding_list h l) ≡ 6 * length (list_findings h l)
    found-long = findings-told.spell.long

    lists_long : length (both_lists h l) ≡ 4 * (length (write_pairs h l) + length (dep_pairs h l))
    unfolding both_lists
    lists_long = length-append (write_dep_list h l) (dep_list h l) ∙ omega (arith, writes_told.spell.long, deps_told.spell.long)

    pub lists_say : ListsSay h l C fs ps (told_lists h l fs ps)
    unfolding told_lists both_lists
    lists_say =
        ifso (ltb (length fs) (length (list_finding_list h l)))
        (λ t.
        let b = ltb-true (length fs) (length (list_finding_list h l)) t in
        rw (pick_on _ _ _ t, found-long) (short_12 findings-told (omega (arith, found-long))))
        (λ t.
        let b = ltb-false (length fs) (length (list_finding_list h l)) t in
        rw (pick_off _ _ _ t)
        (ifso (ltb (length ps) (length (both_lists h l)))
        (λ u.
        let c = ltb-true (length ps) (length (both_lists h l)) u in
        rw (pick_on _ _ _ u, lists_long) (short_13 findings-told writes_told deps_told (omega (arith, found-long)) (omega (arith, lists_long))))
        (λ u.
        let c = ltb-false (length ps) (length (both_lists h l)) u in
        rw (pick_off _ _ _ u) (says findings-told writes_told deps_told (omega (arith, found-long)) (omega (arith, lists_long))))))

    -- and nothing else is said
    findings_are_those : {is f : List ℕ} → FindingsTold h l C is f → (is ≡ list_findings h l) × (f ≡ list_finding_list h l)
    findings_are_those x =
        let e = all_of_one ◌<◌ (λ i j a b. omega arith) x.are (list_findings_are ok l are) in
        (e, spelt-findings_one x.spell (rw e findings-told.spell))

    writes_are_those : {ws : List Pair} {w : List ℕ} → WritesTold h l C ws w → (ws ≡ write_pairs h l) × (w ≡ write_dep_list h l)
    writes_are_those x =
        let e = pairs-over_one x.are (write_pairs_are ok l are) in
        (e, spelt-pairs_one (λ a b n m p q. p ∙ sym q) x.spell (rw e writes_told.spell))

    deps_are_those : {bs : List Pair} {b : List ℕ} → DepsTold h l C bs b → (bs ≡ dep_pairs h l) × (b ≡ dep_list h l)
    deps_are_those x =
        let e = pairs-over_one x.are (dep_pairs_are ok l are) in
        (e, spelt-pairs_one dep_reasons_one x.spell (rw e deps_told.spell))

    pub lists_say_one : {o : ListOutcome} → ListsSay h l C fs ps o → o ≡ told_lists h l fs ps
    unfolding told_lists both_lists
    lists_say_one (short_12 x b) =
        let e = ap length (findings_are_those x).0 in
        rw e (sym (pick_on _ _ _ (lt-ltb (length fs) (length (list_finding_list h l)) (omega (arith, found-long))) ∙ rw found-long))
    lists_say_one (short_13 x y z b c) =
        let e = ap length (findings_are_those x).0 in
        let f = ap length (writes_are_those y).0 in
        let g = ap length (deps_are_those z).0 in
        rw (f, g)
        (sym
        (pick_off _ _ _ (le-ltb (length fs) (length (list_finding_list h l)) (omega (arith, found-long)))
        ∙ pick_on _ _ _ (lt-ltb (length ps) (length (both_lists h l)) (omega (arith, lists_long))) ∙ rw lists_long))
    lists_say_one (says x y z b c) =
        let u = findings_are_those x in
        let v = writes_are_those y in
        let w = deps_are_those z in
        let e = ap length u.0 in
        let f = ap length v.0 in
        let g = ap length w.0 in
        rw (u.1, v.1, w.1, e, f, g)
        (sym
        (pick_off _ _ _ (le-ltb (length fs) (length (list_finding_list h l)) (omega (arith, found-long)))
        ∙ pick_off _ _ _ (le-ltb (length ps) (length (both_lists h l)) (omega (arith, lists_long)))))

-- ── of a trace ──

module _ (s fs ps : List ℕ) where
  judge_of : (r : Reading) → reading s ≡ r → ListsJudge s fs ps (lists_of_read s r fs ps)
  unfolding lists_of_read
  judge_of (refused n p) e = reading_refused ((refuses_iff s n p).0 e)
  judge_of (read h n) e =
      let ok = lawful_history (has_read e) in
      let c = test-is_cleanness ok (lists_in s h) in
      of_history (has_read e) c (lists_say ok (lists_in s h) c fs ps)

  pub lists_judge : ListsJudge s fs ps (judged_lists s fs ps)
  unfolding judged_lists
  lists_judge = judge_of (reading s) refl

  pub lists_judge_one : {o : ListOutcome} → ListsJudge s fs ps o → o ≡ judged_lists s fs ps
  unfolding judged_lists lists_of_read
  lists_judge_one (reading_refused {n = n} {p = p} r) = sym (ap (λ (x : Reading). lists_of_read s x fs ps) ((refuses_iff s n p).1 r))
  lists_judge_one (of_history {h = h} r c x) =
      lists_say_one (lawful_history r) (lists_in s h) c fs ps x ∙ sym (ap (λ (x : Reading). lists_of_read s x fs ps) (read_has r))
