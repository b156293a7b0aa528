-- What the tables and the lists give is what the definition says.
use Prim.Native.Nat.{ℕ, ◌+◌, ◌*◌, ◌<◌, ◌≤◌}
use mathlib.Core.Path.{◌≡◌, refl, sym, ◌∙◌}
use mathlib.Core.Bool.{Bool, true, false}
use mathlib.Core.List.{List}
use mathlib.Core.Logic.{⊎_elim}
use native.Mathlib.Omega.{arith}
use lib.ListN.{length, get_or, replicate, length-replicate, get_or-replicate, get_or-eq_default, length-append}
use borrow.Author.Tests.{lt-ltb, le-ltb}
use Rattle.base.specs.Base.{pick}
use Rattle.base.proofs.Tests.{split, pick_on, pick_off}
use Rattle.base.proofs.Fill.{Appended, appended-before}
use Rattle.rules.specs.History.{History, tx_count, size}
use Rattle.rules.proofs.Numbers.{appended-over}
use Rattle.table.specs.Table.{history_of, Held}
use Rattle.bits.specs.Bits.{bit_of, Holds, Under}
use Rattle.pairs.specs.Pairs.{before}
use Rattle.sifting.specs.Lists.{pair_count, all_for}
use Rattle.appends_rules.specs.Dependencies.{is_write_dep, is_dep, dep_reasons, write_pairs, dep_pairs}
use Rattle.appends_rules.specs.ListOutcome.{list_outcome, lists_refused, lists_told, list_findings, list_finding_list, write_dep_list, dep_list, both_lists, told_lists}
use Rattle.grading.specs.Grades.{Ungraded}
use Rattle.listings.specs.Listings.{ListsOver, dep_reasons_in, Sheets}
use Rattle.listings.proofs.Listings.{told_over, told-number, pair-width}
use Rattle.faults.proofs.Faults.{faults_long}
use Rattle.ties.specs.Ties.{deps_of}
use Rattle.appends.specs.Answering.{BothListed, PutLists}
use Rattle.appends.proofs.Below.{read_ties}

-- ── the pairs over both ──

module _ {h : List ℕ} (p : Held h) (l : ℕ → List ℕ) {n : ℕ} (e : n ≡ tx_count (history_of h)) where
  abbrev H : History
  H = history_of h

  -- u: both sorts; c: the listed pairs of u; r: the read dependencies
  pub both_listed : {u c r : List ℕ} → Holds u (before (is_dep H l)) → ListsOver u (n + 1) c → Holds r (before (deps_of true H l)) → BothListed H l r c
  both_listed k x q = record { reads = read_ties H l q; under = rw e at x.under; lists = rw e at (x.lists (is_dep H l) k) }

  -- ── counted ──

  pub writes_count : {w c : List ℕ} → Holds w (before (is_write_dep H l)) → ListsOver w (n + 1) c → pair_count c (n + 1) ≡ length (write_pairs H l)
  unfolding write_pairs
  writes_count k x = rw e (told-number (rw e at x.under) (is_write_dep H l) (rw e at (x.lists (is_write_dep H l) k)))

  pub both_count : {r c : List ℕ} → BothListed H l r c → pair_count c (n + 1) ≡ length (dep_pairs H l)
  unfolding dep_pairs
  both_count x = rw e (told-number x.under (is_dep H l) x.lists)

  -- ── put ──

  pub both_under-at : {r c : List ℕ} → BothListed H l r c → Under (n + 1) c
  both_under-at x = rw e x.under

  pub both_sheets : {w r c : List ℕ} → length w ≡ 256 → BothListed H l r c → Sheets c w r (n + 1) 4
  both_sheets d x = record { pairs = both_under-at x; writes_room = d; reads_room = x.reads.room; light = omega arith }

  few : {a : ℕ} → a < size H → a < 128
  few m = omega (arith, p.few)

  module _ {w : List ℕ} (k : Holds w (before (is_write_dep H l))) where
    -- no read dependency weighs
    weightless : (b : Bool) → ◌≡◌ {A = ℕ} (pick b 0 0) 0
    unfolding pick
    weightless true = refl
    weightless false = refl

    pub writes_put : (r : List ℕ) {c : List ℕ} → ListsOver w (n + 1) c → {o b : List ℕ} {at u : ℕ}
        → Appended o at b u (all_for (bit_of c) (dep_reasons_in w r 0) (n + 1))
        → Appended o at b u (write_dep_list H l)
    unfolding write_dep_list write_pairs dep_reasons_in before
    writes_put r {c} x y =
        let is =
        told_over (rw e at x.under) (is_write_dep H l) (rw e at (x.lists (is_write_dep H l) k)) (dep_reasons_in w r 0) (λ a b. 16)
        (λ a b i j d. rw (weightless (bit_of r b a), pick_on {X = ℕ} (bit_of w b a) 16 0 (k.is b a (few j) (few i) ∙ d))) in
        rw (← is) (rw e at y)

    pub both_put : {r c : List ℕ} → BothListed H l r c → {o b : List ℕ} {at u : ℕ} → Appended o at b u (all_for (bit_of c) (dep_reasons_in w r 4) (n + 1))
        → Appended o at b u (dep_list H l)
    unfolding dep_list dep_pairs dep_reasons_in before dep_reasons
    both_put {r} {c} x y =
        let is =
        told_over x.under (is_dep H l) x.lists (dep_reasons_in w r 4) (dep_reasons H l)
        (λ a b i j d. rw (k.is b a (few j) (few i), x.reads.is b a (few j) (few i))) in
        rw (← is) (rw e at y)

-- ── lengths ──

module _ (h : History) (l : ℕ → List ℕ) where
  writes_long : length (write_dep_list h l) ≡ 4 * length (write_pairs h l)
  unfolding write_dep_list
  writes_long = pair-width (λ a b. 16) (write_pairs h l)

  both_long : length (dep_list h l) ≡ 4 * length (dep_pairs h l)
  unfolding dep_list
  both_long = pair-width (dep_reasons h l) (dep_pairs h l)

  -- both lists of pairs: the second was put behind the room for the first
  pub lists_put : {fs ps ft pt qt : List ℕ} {m u v x : ℕ} → m ≡ length (write_pairs h l) → Appended fs 0 ft u (list_finding_list h l)
      → Appended ps (4 * m) pt v (dep_list h l) → Appended pt 0 qt x (write_dep_list h l) → PutLists h l fs ps ft qt
  unfolding both_lists
  lists_put {m = m} {x = x} e p q r =
      let at : x ≡ 4 * m = omega (arith, r.end, writes_long) in
      record { findings = appended-over p; pairs = appended-over (appended-before q (rw at at r)) }

  -- ── the outcome ──

  module _ (fs ps : List ℕ) {a b c : ℕ} (ea : a ≡ length (list_findings h l)) (eb : b ≡ length (write_pairs h l)) (ec : c ≡ length (dep_pairs h l)) where
    found-long : length (list_finding_list h l) ≡ 6 * a
    found-long = omega (arith, faults_long h l)

    lists_long : length (both_lists h l) ≡ 4 * (b + c)
    unfolding both_lists
    lists_long = length-append (write_dep_list h l) (dep_list h l) ∙ omega (arith, writes_long, both_long)

    pub told_12 : length fs < 6 * a → list_outcome (lists_refused 12 (6 * a)) fs ps ≡ told_lists h l fs ps
    unfolding told_lists
    told_12 m = sym (pick_on _ _ _ (lt-ltb (length fs) (length (list_finding_list h l)) (omega (arith, found-long))) ∙ rw found-long)

    module _ (m : 6 * a ≤ length fs) where
      pub told_13 : length ps < 4 * (b + c) → list_outcome (lists_refused 13 (4 * (b + c))) fs ps ≡ told_lists h l fs ps
      unfolding told_lists
      told_13 n =
          sym
          (pick_off _ _ _ (le-ltb (length fs) (length (list_finding_list h l)) (omega (arith, found-long)))
          ∙ pick_on _ _ _ (lt-ltb (length ps) (length (both_lists h l)) (omega (arith, lists_long))) ∙ rw lists_long)

      pub told_both : {ft pt : List ℕ} → 4 * (b + c) ≤ length ps → PutLists h l fs ps ft pt → list_outcome (lists_told a b c) ft pt ≡ told_lists h l fs ps
      unfolding told_lists
      told_both n q =
          rw (q.findings, q.pairs, ea, eb, ec)
          (sym
          (pick_off _ _ _ (le-ltb (length fs) (length (list_finding_list h l)) (omega (arith, found-long)))
          ∙ pick_off _ _ _ (le-ltb (length ps) (length (both_lists h l)) (omega (arith, lists_long)))))

-- ── a new array ──

noughts : (z n w : ℕ) → z ≡ 0 → get_or (replicate n z) w 0 ≡ 0
noughts z n w e =
    ⊎_elim (λ l. get_or-replicate n w z 0 l ∙ e) (λ g. get_or-eq_default (replicate n z) 0 {n = w} (omega (arith, length-replicate n z))) (split w n)

pub ungraded : Ungraded (replicate {A = ℕ} 1025 0)
ungraded = record { room = length-replicate {A = ℕ} 1025 0; is = λ w. noughts 0 1025 w refl }
