-- List reads of a table, and the lists that they have in the trace.
use Prim.Native.Nat.{ℕ, ◌+◌, ◌%◌, ◌<◌, ◌≤◌}
use mathlib.Core.Path.{◌≡◌, refl, ap, sym, ◌∙◌}
use mathlib.Core.Bool.{true, false, not}
use mathlib.Core.List.{List, []}
use mathlib.Core.Logic.{◌⊎◌}
use native.Mathlib.Omega.{arith}
use lib.ListN.{length}
use borrow.Author.Tests.{leb-true, le-leb}
use Rattle.base.specs.Base.{pick}
use Rattle.base.proofs.Tests.{both, and_left, and_right}
use Rattle.rules.specs.History.{History, op}
use Rattle.rules.specs.Records.{number_at}
use Rattle.table.specs.Table.{history_of, HasOp, HasList}
use Rattle.appends_rules.specs.Appends.{is_list, key_of, is_judged_list, values_at, lists_in, ListsWithin}
use Rattle.appends_rules.specs.ListKinds.{in_line, is_half, is_of, list_kind_by, list_kind, list_at, longest_below}
use Rattle.appends_rules.proofs.Lines.{line_right, begins-none}
use Rattle.appends_rules.proofs.Longest.{kind-by_longest, clean_judged, at_list, at_zero, longest_below_lem}
use Rattle.std.specs.Prelude.{Option, None, Some, MatchOption}
use Rattle.elements.specs.declared.ListKind.{ListKind}
use Rattle.elements.specs.Elements.{number_of, number_or_0, fault_kind}
use Rattle.elements.proofs.Lists.{at_length}
use Rattle.elements.proofs.Scanning.{number-low}
use Rattle.grading.specs.declared.Spot.{Spot}
use Rattle.grading.specs.Grades.{IsSpot}
use Rattle.grading.proofs.Codes.{kind_fault, fault-none, kind_late}

-- ── list reads ──

pub has_list : {h : List ℕ} {i : ℕ} → HasList h i → is_list (history_of h) i ≡ true
unfolding is_list
has_list p = both _ _ p.there.writes (le-leb _ _ p.of_list)

pub list_found : {h : List ℕ} {i : ℕ} → HasOp h i → is_list (history_of h) i ≡ true → HasList h i
unfolding is_list
list_found o t = record { there = record { there = o; writes = and_left _ _ t }; of_list = leb-true _ _ (and_right _ _ t) }

module _ (s h : List ℕ) where
  abbrev H : History
  H = history_of h

  abbrev L : ℕ → List ℕ
  L = lists_in s (history_of h)

  -- ── where a list stands ──

  module _ (q : ListsWithin s H) {i : ℕ} (is : HasList h i) where
    pub spot_room : {p : ℕ} → p ≡ (op H i).value → p + 16 ≤ length s
    spot_room e = omega (arith, q.within i (has_list is))

    pub spot_is : {p n x : ℕ} → p ≡ (op H i).value → n ≡ number_at s p → x ≡ (op H i).key → IsSpot s h i (record { at = p; number = n; key = x % 4294967296 })
    unfolding key_of lists_in
    spot_is {p} {n} {x} e f g =
        record {
          keyed =
              record {
                held = is.there.there.held;
                small = omega arith;
                at = record { room = omega (arith, f, ap (number_at s) e, q.within i (has_list is)); number = f };
              };
          key = ap (λ (n : ℕ). n % 4294967296) g;
          list = ap (values_at s) e;
        }

  -- the list of list read m, if there is one
  module _ {m : ℕ} where
    pub none-long : m ≡ 0 → 0 ≡ length (list_at L m)
    none-long e = sym (ap length (at_zero H L m e))

    pub spot_long : {e : Spot} → 0 < m → IsSpot s h m e → e.number ≡ length (list_at L m)
    spot_long z x = sym (at_length x.keyed.at) ∙ ap length (x.list ∙ sym (at_list H L m z))

    pub apart_none : (e : List ℕ) → m ≡ 0 → false ≡ not (in_line e (list_at L m))
    apart_none e z = let y : in_line e (list_at L m) ≡ true = rw (at_zero H L m z) (line_right e [] (begins-none e)) in sym (ap not y)

    pub spot_list : {e : Spot} → 0 < m → IsSpot s h m e → values_at s e.at ≡ list_at L m
    spot_list z x = x.list ∙ sym (at_list H L m z)

  -- the longest so far is a list read
  pub longest_has : {i m : ℕ} (x : ℕ) → HasOp h i → m ≡ longest_below H L x i → 0 < m → HasList h m
  unfolding is_of is_judged_list
  longest_has {i} {m} x o e z =
      let r = (longest_below_lem H L x i).clean (omega (arith, e)) in
      let t = and_left _ _ (clean_judged H L _ (and_left _ _ r.0)) in
      list_found (record { held = o.held; from = z; to = omega (arith, r.1, e, o.to) }) (rw (← e) at t)

  -- ── the kind, by what was found out ──

  module _ (i : ℕ) {m : ℕ} {e : Spot} (x : IsSpot s h i e) (em : m ≡ longest_below H L (key_of H i) i) where
    kind_parts : {t : ℕ} → t ≡ (op H i).tx
        → list_kind H L i ≡ list_kind_by H t e.key (values_at s e.at) (not (in_line (values_at s e.at) (list_at L m)))
    kind_parts et = kind-by_longest H L i ∙ rw (← x.list, ← em, ← x.key, ← et)

    -- r: the kind that the elements show; q: what was found, by r and, where that is no kind, by the list as a whole
    pub told_kind : (f q : Option ListKind) {r : ℕ} → r ≡ fault_kind H e.key (values_at s e.at) → MatchOption f ((r < 7) ⊎ (11 < r)) (λ k. number_of k ≡ r)
        → MatchOption f
        (◌≡◌ {A = ℕ} (number_or_0 q) (pick (is_half H (op H i).tx e.key (values_at s e.at)) 10 (pick (not (in_line (values_at s e.at) (list_at L m))) 11 0)))
        (λ k. q ≡ Some k)
        → number_or_0 q ≡ list_kind H L i
    told_kind None q er n late = late ∙ kind_late H _ _ _ _ (sym er ∙ fault-none H _ _ er n) ∙ sym (kind_parts refl)
    told_kind (Some k) q er n is =
        ap number_or_0 is ∙ n ∙ er ∙ kind_fault H _ _ _ _ (λ z. omega (arith, number-low k, n, er, z)) ∙ sym (kind_parts refl)
