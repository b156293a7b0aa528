-- The tests for dependencies are the document's conditions, and the pairs that are listed over them are as it says.
use Prim.Native.Nat.{ℕ, ◌+◌, ◌-◌, ◌<◌}
use mathlib.Core.Path.{◌≡◌, refl, ap, sym, ◌∙◌}
use mathlib.Core.Bool.{Bool, true, not}
use mathlib.Core.Logic.{◌⊎◌, inl, inr, ⊎_elim, ◌↔◌}
use mathlib.Core.List.{List}
use native.Mathlib.Omega.{arith}
use lib.ListN.{length}
use borrow.Author.Tests.{eqb-true, eqb-false, eq-eqb, ne_eqb, ltb-true, lt-ltb}
use Rattle.base.specs.Base.{pick}
use Rattle.base.proofs.Tests.{ifso, clash, not-true, both, and_left, and_right, or_cases, or_left, or_right, pick_on, pick_off, split}
use Rattle.base.proofs.Searches.{some_at, some_of_lem}
use Rattle.theory.specs.Leads.{is_listed}
use Rattle.theory.proofs.Entries.{all_of_one}
use Rattle.theory.proofs.Leads.{via-leads, leads-via}
use Rattle.rules.specs.History.{History, op_count, size}
use Rattle.rules.specs.Levels.{forced}
use Rattle.rules.specs.Outcome.{Pair, pairs_of, pairs}
use Rattle.demand1.specs.Lawful.{LawfulHistory}
use Rattle.demand3.specs.Forced.{Adds, holds, fails}
use Rattle.demand3.specs.Lists.{PairBefore}
use Rattle.demand3.proofs.Forced.{leads_way, way_leads}
use Rattle.demand3.proofs.Pairs.{before_never, passing-pairs}
use Rattle.appends_rules.specs.Appends.{key_of, append_of, appender_of}
use Rattle.appends_rules.specs.ListKinds.{begins, element, is_of, is_clean_list, list_at, longest_of, is_longest}
use Rattle.appends_rules.specs.Dependencies.{joins, orders, is_write_dep, tells, is_read_dep, is_dep, dep_reasons, pairs_by, pairs_over, write_pairs, dep_pairs}
use Rattle.appends_rules.proofs.Lines.{begins_short, begins_equal, begins_iff, line_cases, line_shorter}
use Rattle.appends_rules.proofs.Longest.{clean_chain, longest_below_lem, at_list, at_zero}
use Rattle.appends_laws.specs.ListFits.{AppendOf, StartsWith, never, IsCleanness}
use Rattle.appends_laws.specs.ListPairs.{LongestClean, AppendedBy, Depends, write, read, WriteDep, AnyDep, DepReasons, ListedOver, PairsOver}
use Rattle.appends_laws.proofs.ListFits.{append_there, append_known, appender_is, clean_list_iff}

-- ── "by demand 3's rule": over any relation of numbers below n that a test decides ──

module _ (n : ℕ) {f : ℕ → ℕ → Bool} {R : ℕ → ℕ → Type 0} (d : (a b : ℕ) → (f a b ≡ true) ↔ R a b) (under : (a b : ℕ) → R a b → (a < n) × (b < n)) where
  -- the test for a listed pair is right
  pub listed-over_iff : (a b : ℕ) → (is_listed n f a b ≡ true) ↔ ListedOver R a b
  unfolding is_listed
  listed-over_iff a b = (
    λ e. record { is = (d a b).0 (and_left _ _ e); back = leads_way d (via-leads f n b a (and_right _ _ e)) },
    λ x. both _ _ ((d a b).1 x.is) (leads-via f n (λ y z e. (under y z ((d y z).0 e)).1) (way_leads d x.back)),
  )

  -- each listed pair, by first and then second
  pub pairs-over : PairsOver R (pairs_over n f)
  unfolding pairs_over pairs_by
  pairs-over = passing-pairs n listed-over_iff (λ a b l. under a b l.is)

-- no other list is that
pub pairs-over_one : {R : ℕ → ℕ → Type 0} {l k : List Pair} → PairsOver R l → PairsOver R k → l ≡ k
pairs-over_one = all_of_one PairBefore before_never

-- demand 3's own pairs are those over its forced pairs
pub forced-pairs : (h : History) (level : ℕ) → pairs h level ≡ pairs_over (size h) (forced h level)
unfolding pairs pairs_of pairs_over pairs_by
forced-pairs h level = refl

module _ {h : History} (ok : LawfulHistory h) (l : ℕ → List ℕ) {C : ℕ → Type 0} (are : IsCleanness h l C) where
  -- ── appenders of a clean list ──

  -- each of its elements was appended
  appended-at : {i k : ℕ} → C i → k < length (l i) → AppendOf h (key_of h i) (element (l i) k) (append_of h (key_of h i) (element (l i) k))
  appended-at {i} {k} c b = append_there h _ _ (λ z. ((are i).0 c).none_fits 7 (never b (λ w a. append_known h _ _ a z)))

  by_iff : {i k a : ℕ} → C i → k < length (l i) → (appender_of h (key_of h i) (element (l i) k) ≡ a) ↔ AppendedBy h l C i k a
  unfolding appender_of
  by_iff {i} {k} c b = (
    λ e. record { append = append_of h (key_of h i) (element (l i) k); is = appended-at c b; in_tx = e },
    λ r. appender_is h (key_of h i) (element (l i) k) ok r.is ∙ r.in_tx,
  )

  -- ── the longest ──

  of_is : {x j : ℕ} → C j → key_of h j ≡ x → is_of h (is_clean_list h l) x j ≡ true
  unfolding is_of
  of_is {x} {j} c e = both _ _ ((clean_list_iff ok l are j).1 c) (eq-eqb _ _ e)

  -- a clean list begins the list that is found
  begins-found : {x j : ℕ} → C j → key_of h j ≡ x → begins (l j) (list_at l (longest_of h l x)) ≡ true
  unfolding longest_of
  begins-found {x} {j} c e =
      let o = ((are j).0 c).judged.list_read.is_op in
      (longest_below_lem h l x (op_count h + 1)).starts j o.from (omega (arith, o.to)) (of_is c e)

  -- the test says which is the longest
  longest_at : {i : ℕ} → is_longest h l i ≡ true → LongestClean h l C i
  unfolding is_longest
  longest_at {i} t =
      let c = (clean_list_iff ok l are i).0 (and_left _ _ t) in
      let e = eqb-true (longest_of h l (key_of h i)) i (and_right _ _ t) in
      record {
        clean = c;
        longest =
            λ j d k.
            let b = ap (list_at l) e ∙ at_list h l i ((are i).0 c).judged.list_read.is_op.from in
            begins_short _ _ (rw b at (begins-found d k));
      }

  -- and one that is longest has the list of the one that is found
  record Found-as (i : ℕ) : Type 0 where
    m : ℕ
    longest : is_longest h l m ≡ true
    of_key : key_of h m ≡ key_of h i
    same : l m ≡ l i

  longest_found : {i : ℕ} → LongestClean h l C i → 0 < length (l i) → Found-as i
  unfolding is_longest is_of longest_of
  longest_found {i} r b =
      let m = longest_of h l (key_of h i) in
      let s = begins-found r.clean refl in
      let z : 0 < m = ⊎_elim (λ z. z) (λ z. absurd (omega (arith, begins_short _ _ s, ap length (at_zero h l m (omega arith))))) (split 0 m) in
      let p = ((longest_below_lem h l (key_of h i) (op_count h + 1)).clean z).0 in
      let k = eqb-true (key_of h m) (key_of h i) (and_right _ _ p) in
      let c = and_left _ _ p in
      record {
        m = m;
        longest = both _ _ c (eq-eqb _ _ (ap (longest_of h l) k));
        of_key = k;
        same = sym (begins_equal _ _ (rw (at_list h l m z) at s) (r.longest m ((clean_list_iff ok l are m).0 c) k));
      }

  module _ (a b : ℕ) where
    -- ── write dependencies ──

    pub write_dep_iff : (is_write_dep h l a b ≡ true) ↔ Depends h l C a b 16
    unfolding is_write_dep orders joins
    write_dep_iff = (
      λ e.
          let q = some_at (orders h l a b) (op_count h + 1) 1 (and_right _ _ e) in
          let r = longest_at (and_left _ _ q.passes) in
          let s = some_at (joins h (key_of h q.at) (l q.at) a b) (length (l q.at) - 1) 0 (and_right _ _ q.passes) in
          let m : s.at + 1 < length (l q.at) = omega (arith, s.to) in
          write r m ((by_iff {k = s.at} {a = a} r.clean (omega arith)).0 (eqb-true _ _ (and_left _ _ s.passes)))
          ((by_iff r.clean m).0 (eqb-true _ _ (and_right _ _ s.passes)))
          (eqb-false _ _ (not-true _ (and_left _ _ e))),
      is,
    )
      where
        is : Depends h l C a b 16 → is_write_dep h l a b ≡ true
        is (write {i = i} {k = k} r m p q d) =
            let f = longest_found r (omega arith) in
            let o = ((are _).0 (longest_at f.longest).clean).judged.list_read.is_op in
            let j : joins h (key_of h i) (l i) a b k ≡ true = both _ _ (eq-eqb _ _ ((by_iff {k = k} r.clean (omega arith)).1 p))
            (eq-eqb _ _ ((by_iff r.clean m).1 q)) in
            both _ _ (ap not (ne_eqb _ _ d))
            (some_of_lem (orders h l a b) (op_count h + 1) 1 f.m o.from (omega (arith, o.to))
            (both _ _ f.longest
            (rw (f.of_key, f.same) (some_of_lem (joins h (key_of h i) (l i) a b) (length (l i) - 1) 0 k (omega arith) (omega arith) j))))

    -- ── read dependencies ──

    pub read_dep_iff : (is_read_dep h l a b ≡ true) ↔ Depends h l C a b 4
    unfolding is_read_dep tells
    read_dep_iff = (
      λ e.
          let q = some_at (tells h l a b) (op_count h + 1) 1 (and_right _ _ e) in
          let u = and_left _ _ q.passes in
          let v = and_left _ _ u in
          let c = (clean_list_iff ok l are q.at).0 (and_left _ _ v) in
          let n = ltb-true 0 (length (l q.at)) (and_right _ _ v) in
          read c n ((by_iff {k = length (l q.at) - 1} {a = a} c (omega arith)).0 (eqb-true _ _ (and_right _ _ u)))
          (eqb-true _ _ (and_right _ _ q.passes)) (eqb-false _ _ (not-true _ (and_left _ _ e))),
      is,
    )
      where
        is : Depends h l C a b 4 → is_read_dep h l a b ≡ true
        is (read {i = i} c n p q d) =
            let o = ((are i).0 c).judged.list_read.is_op in
            both _ _ (ap not (ne_eqb _ _ d))
            (some_of_lem (tells h l a b) (op_count h + 1) 1 i o.from (omega (arith, o.to))
            (both _ _ (both _ _ (both _ _ ((clean_list_iff ok l are i).1 c) (lt-ltb 0 (length (l i)) n))
            (eq-eqb _ _ ((by_iff {k = length (l i) - 1} c (omega arith)).1 p))) (eq-eqb _ _ q)))

    -- ── both ──

    pub dep_iff : (is_dep h l a b ≡ true) ↔ AnyDep h l C a b
    unfolding is_dep
    dep_iff = (
      λ e. ⊎_elim (λ s. (4, read_dep_iff.0 s)) (λ s. (16, write_dep_iff.0 s)) (or_cases _ _ e),
      λ x. is x.1,
    )
      where
        is : {r : ℕ} → Depends h l C a b r → is_dep h l a b ≡ true
        is (write r m p q d) = or_right _ _ (write_dep_iff.1 (write r m p q d))
        is (read c n p q d) = or_left _ _ (read_dep_iff.1 (read c n p q d))

    pub dep_reasons_are : DepReasons h l C a b (dep_reasons h l a b)
    unfolding dep_reasons
    dep_reasons_are =
        record {
          read = pick (is_read_dep h l a b) 4 0;
          write = pick (is_write_dep h l a b) 16 0;
          adds_4 = adds (is_read_dep h l a b) 4 read_dep_iff;
          adds_16 = adds (is_write_dep h l a b) 16 write_dep_iff;
          sum = refl;
        }
      where
        adds : (t : Bool) {P : Type 0} (r : ℕ) → (t ≡ true) ↔ P → Adds P r (pick t r 0)
        adds t r d = ifso t (λ e. rw (pick_on t r 0 e) (holds (d.0 e))) (λ e. rw (pick_off t r 0 e) (fails (λ x. clash (d.1 x) e)))

  -- dependencies are of transactions
  by-tx : {i k a : ℕ} → AppendedBy h l C i k a → a < size h
  by-tx r = omega (arith, (ok.in_tx _ r.is.is_op).to, r.in_tx)

  pub dep_txs : {a b r : ℕ} → Depends h l C a b r → (a < size h) × (b < size h)
  dep_txs (write r m p q d) = (by-tx p, by-tx q)
  dep_txs (read {i = i} c n p q d) = (by-tx p, omega (arith, (ok.in_tx i ((are i).0 c).judged.list_read.is_op).to, q))

  -- ── the two lists ──

  pub write_pairs_are : PairsOver (WriteDep h l C) (write_pairs h l)
  unfolding write_pairs
  write_pairs_are = pairs-over (size h) write_dep_iff (λ a b r. dep_txs r)

  pub dep_pairs_are : PairsOver (AnyDep h l C) (dep_pairs h l)
  unfolding dep_pairs
  dep_pairs_are = pairs-over (size h) dep_iff (λ a b r. dep_txs r.1)

  -- ── the longest list is one ──

  -- any two clean lists of a key: one starts with the other
  pub clean_lists_chain : {i j : ℕ} → C i → C j → key_of h i ≡ key_of h j → StartsWith (l i) (l j) ⊎ StartsWith (l j) (l i)
  clean_lists_chain {i} {j} c d e =
      ⊎_elim (λ p. inr ((begins_iff (l i) (l j)).0 p)) (λ p. inl ((begins_iff (l j) (l i)).0 p))
      (line_cases (l i) (l j)
      (clean_chain h l (key_of h j) i j ((are i).0 c).judged.list_read.is_op.from ((are j).0 d).judged.list_read.is_op.from (of_is c e) (of_is d refl)))

  -- two longest ones of a key are the same list
  pub longest_one : {i j : ℕ} → LongestClean h l C i → LongestClean h l C j → key_of h i ≡ key_of h j → l i ≡ l j
  longest_one {i} {j} p q e =
      let a = p.longest j q.clean (sym e) in
      let b = q.longest i p.clean e in
      begins_equal (l i) (l j)
      (line_shorter (l i) (l j) (clean_chain h l (key_of h j) i j ((are i).0 p.clean).judged.list_read.is_op.from
      ((are j).0 q.clean).judged.list_read.is_op.from (of_is p.clean e) (of_is q.clean refl)) b)
      a
