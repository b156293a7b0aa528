-- A history with single values only has no list read, so that the call on lists finds nothing in it, lists no pair, and writes nothing.
use Prim.Native.Nat.{ℕ, zero, suc, ◌+◌, ◌<◌}
use mathlib.Core.Path.{◌≡◌, ◌∙◌}
use mathlib.Core.Bool.{Bool, false}
use mathlib.Core.List.{List, []}
use mathlib.Core.Logic.{⊎_elim}
use native.Mathlib.Omega.{arith}
use lib.ListN.{length}
use borrow.Author.Tests.{lt-leb, le-ltb}
use Rattle.base.specs.Base.{◌or◌, joined}
use Rattle.base.proofs.Tests.{and_no_left, and_no_right, pick_off, split}
use Rattle.base.proofs.Searches.{some-none, joined-none}
use Rattle.base.proofs.Empty.{parts_none, those-none, joined-empty}
use Rattle.theory.specs.Leads.{is_listed}
use Rattle.rules.specs.Numbers.{over}
use Rattle.rules.specs.History.{History, op, op_count, size}
use Rattle.rules.proofs.Singles.{Singles}
use Rattle.demand1.specs.Rows.{HasHistory}
use Rattle.demand1.proofs.Readings.{read_has}
use Rattle.appends_rules.specs.Appends.{is_list, is_judged_list, lists_in}
use Rattle.appends_rules.specs.ListKinds.{clean_with, is_clean_list, is_list_finding, is_longest}
use Rattle.appends_rules.specs.Dependencies.{orders, is_write_dep, tells, is_read_dep, is_dep, pairs_by, pairs_over, write_pairs, dep_pairs}
use Rattle.appends_rules.specs.ListOutcome.{list_findings, list_finding_list, write_dep_list, dep_list, both_lists, list_outcome, lists_told, told_lists, lists_of_read, judged_lists}
use Rattle.appends_laws.proofs.Singles.{past}

-- no pair of a relation is listed where it has none
pairs-none : (n : ℕ) (f : ℕ → ℕ → Bool) → ((a b : ℕ) → f a b ≡ false) → pairs_over n f ≡ []
unfolding pairs_over pairs_by is_listed
pairs-none n f none =
    (parts_none (pairs_by n f) 0 n).1
    (λ a _ _. (joined-empty (λ b. record { one = a; two = b }) _).1 ((those-none (is_listed n f a) 0 n).1 (λ b _ _. and_no_left _ _ (none a b))))

-- ── a history with single values ──

module _ (h : History) (s : Singles h) (l : ℕ → List ℕ) where
  -- each key is one of single values, whether there is such an operation or not
  small_key : (i : ℕ) → (op h i).key < 8589934592
  unfolding op
  small_key zero = omega arith
  small_key (suc i) =
      ⊎_elim (λ g. rw (past h (suc i) g) (omega arith)) (λ m. omega (arith, s (suc i) (omega arith) m)) (split (op_count h) (suc i))

  not_list : (i : ℕ) → is_list h i ≡ false
  unfolding is_list
  not_list i = and_no_right _ _ (lt-leb 8589934592 (op h i).key (small_key i))

  not-judged : (i : ℕ) → is_judged_list h i ≡ false
  unfolding is_judged_list
  not-judged i = and_no_left _ _ (not_list i)

  not_clean : (i : ℕ) → is_clean_list h l i ≡ false
  unfolding is_clean_list clean_with
  not_clean i = and_no_left _ _ (not-judged i)

  no_findings : list_findings h l ≡ []
  unfolding list_findings is_list_finding
  no_findings = (those-none (is_list_finding h l) 1 (op_count h + 1)).1 (λ i _ _. and_no_left _ _ (not-judged i))

  -- ── pairs ──

  no_write : (a b : ℕ) → is_write_dep h l a b ≡ false
  unfolding is_write_dep orders is_longest
  no_write a b =
      and_no_right _ _ (some-none (orders h l a b) (op_count h + 1) 1 (λ i _ _. and_no_left _ _ (and_no_left _ _ (not_clean i))))

  no_read : (a b : ℕ) → is_read_dep h l a b ≡ false
  unfolding is_read_dep tells
  no_read a b =
      and_no_right _ _
      (some-none (tells h l a b) (op_count h + 1) 1 (λ i _ _. and_no_left _ _ (and_no_left _ _ (and_no_left _ _ (not_clean i)))))

  no_dep : (a b : ℕ) → is_dep h l a b ≡ false
  unfolding is_dep ◌or◌
  no_dep a b = rw (no_read a b, no_write a b)

  no_writes : write_pairs h l ≡ []
  unfolding write_pairs
  no_writes = pairs-none (size h) (is_write_dep h l) no_write

  no_deps : dep_pairs h l ≡ []
  unfolding dep_pairs
  no_deps = pairs-none (size h) (is_dep h l) no_dep

  -- ── the answer ──

  none_found : list_finding_list h l ≡ []
  unfolding list_finding_list
  none_found = rw no_findings (joined-none _)

  none-listed : both_lists h l ≡ []
  unfolding both_lists write_dep_list dep_list joined
  none-listed = rw (no_writes, no_deps)

  -- all three counts are 0, and every buffer has room
  pub singles_told : (fs ps : List ℕ) → told_lists h l fs ps ≡ list_outcome (lists_told 0 0 0) fs ps
  unfolding told_lists over
  singles_told fs ps =
      rw (none_found, none-listed, no_findings, no_writes, no_deps)
      (pick_off _ _ _ (le-ltb (length fs) 0 (omega arith)) ∙ pick_off _ _ _ (le-ltb (length ps) 0 (omega arith)))

-- .. of a trace that is read into such a history
pub singles_judged : {s : List ℕ} {h : History} → HasHistory s h → Singles h → (fs ps : List ℕ) → judged_lists s fs ps ≡ list_outcome (lists_told 0 0 0) fs ps
unfolding judged_lists lists_of_read
singles_judged {s} {h} r x fs ps = rw (read_has r) (singles_told h x (lists_in s h) fs ps)
