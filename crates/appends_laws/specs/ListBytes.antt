-- Document 02: what the call on lists answers and writes, in its own terms, with no mention of how any of it is computed. Over a history h, the list l i of
-- each list read i, and the notion C of clean.
use Rattle.std.specs.Prelude.{ℕ, ◌+◌, ◌*◌, ◌<◌, ◌≤◌, ◌≡◌, List, ◌++◌, length, get_or}
use Rattle.theory.specs.Entries.{AllOf}
use Rattle.rules.specs.Numbers.{le, over}
use Rattle.rules.specs.History.{History, op}
use Rattle.rules.specs.Outcome.{Pair}
use Rattle.demand1.specs.Rows.{Refuses, HasHistory}
use Rattle.demand3.specs.Lists.{Spelt, no_pair}
use Rattle.appends_rules.specs.Appends.{lists_in}
use Rattle.appends_rules.specs.ListOutcome.{ListOutcome, list_outcome, lists_refused, lists_told}
use Rattle.appends_laws.specs.ListFits.{HasListKind, IsCleanness}
use Rattle.appends_laws.specs.ListPairs.{WriteDep, AnyDep, DepReasons, PairsOver}
use Rattle.appends_laws.specs.ListFindings.{ListFinding, FaultNumber}

-- ── bytes ──

-- "Pair, 4 bytes: first, second, reasons, 0.": the j-th of b is of p, and R says which reasons a pair has
pub record DepPairAt (R : ℕ → ℕ → ℕ → Type 0) (b : List ℕ) (j : ℕ) (p : Pair) : Type 0 where
  pub first : get_or b (4 * j) 0 ≡ p.one
  pub second : get_or b (4 * j + 1) 0 ≡ p.two
  pub reasons : R p.one p.two (get_or b (4 * j + 2) 0)
  pub zero : get_or b (4 * j + 3) 0 ≡ 0

-- "reason 16"
abbrev pub Sixteen : ℕ → ℕ → ℕ → Type 0
Sixteen a b n = n ≡ 16

module _ (h : History) (l : ℕ → List ℕ) (C : ℕ → Type 0) where
  -- "Findings are as in request Three, the last field being the append ..": the j-th of b is of list read i
  pub record ListFindingAt (b : List ℕ) (j i : ℕ) : Type 0 where
    pub transaction : get_or b (6 * j) 0 ≡ (op h i).tx
    pub kind : HasListKind h l C i (get_or b (6 * j + 1) 0)
    pub number : le 2 b (6 * j + 2) ≡ i
    pub append : FaultNumber h l i (get_or b (6 * j + 1) 0) (le 2 b (6 * j + 4))

  -- ── the three lists ──

  -- the findings, by operation number, and their bytes
  pub record FindingsTold (is b : List ℕ) : Type 0 where
    pub are : AllOf ◌<◌ (ListFinding h l C) is
    pub spell : Spelt 6 ListFindingAt 0 is b

  -- the pairs "over write dependencies", and their bytes
  pub record WritesTold (ps : List Pair) (b : List ℕ) : Type 0 where
    pub are : PairsOver (WriteDep h l C) ps
    pub spell : Spelt 4 (DepPairAt Sixteen) no_pair ps b

  -- ".. then over both"
  pub record DepsTold (ps : List Pair) (b : List ℕ) : Type 0 where
    pub are : PairsOver (AnyDep h l C) ps
    pub spell : Spelt 4 (DepPairAt (DepReasons h l C)) no_pair ps b

  -- ── the answer, with buffers that hold fs and ps ──

  pub data ListsSay (fs ps : List ℕ) : ListOutcome → Type 0 where
    -- "12 .. asks for 6 bytes a finding", and nothing is written
    short_12 : {is f : List ℕ} → FindingsTold is f → length fs < 6 * length is → ListsSay fs ps (list_outcome (lists_refused 12 (6 * length is)) fs ps)
    -- ".. then 12, 13": both lists of pairs go into one buffer
    short_13 : {is f w b : List ℕ} {ws bs : List Pair} → FindingsTold is f → WritesTold ws w → DepsTold bs b → 6 * length is ≤ length fs
        → length ps < 4 * (length ws + length bs) → ListsSay fs ps (list_outcome (lists_refused 13 (4 * (length ws + length bs))) fs ps)
    -- "all three counts are answered"; "Two pair lists .. follow in one buffer: over write dependencies, then over both"
    says : {is f w b : List ℕ} {ws bs : List Pair} → FindingsTold is f → WritesTold ws w → DepsTold bs b → 6 * length is ≤ length fs
        → 4 * (length ws + length bs) ≤ length ps
        → ListsSay fs ps (list_outcome (lists_told (length is) (length ws) (length bs)) (over f fs) (over (w ++ b) ps))

-- of a trace s: "this call has 2 to 11 with 17 among them, then 12, 13"
pub data ListsJudge (s fs ps : List ℕ) : ListOutcome → Type 1 where
  reading_refused : {n p : ℕ} → Refuses s n p → ListsJudge s fs ps (list_outcome (lists_refused n p) fs ps)
  of_history : {h : History} {C : ℕ → Type 0} {x : ListOutcome} → HasHistory s h → IsCleanness h (lists_in s h) C → ListsSay h (lists_in s h) C fs ps x
      → ListsJudge s fs ps x
