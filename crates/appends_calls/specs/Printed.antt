-- What the program `lists` prints of any bytes, in the request's own terms: "`lists FINDINGS PAIRS PAIRS`, then `read T OP KIND WRITE` lines, then `write A B
-- REASONS` lines (over write dependencies) and `both A B REASONS` lines". How a line is spelt is `text/specs/Lines.antt`.
use Rattle.std.specs.Prelude.{ℕ, ◌<◌, Bool, List, [], ◌∷◌, ◌++◌, length}
use Rattle.theory.specs.Entries.{AllOf}
use Rattle.rules.specs.History.{History, op}
use Rattle.rules.specs.Outcome.{Pair}
use Rattle.text.specs.Lines.{text, line, refused_line, read_line}
use Rattle.demand1.specs.Rows.{Refuses, HasHistory}
use Rattle.appends_rules.specs.Appends.{lists_in}
use Rattle.appends_laws.specs.ListFits.{HasListKind, IsCleanness}
use Rattle.appends_laws.specs.ListPairs.{WriteDep, AnyDep, DepReasons, PairsOver}
use Rattle.appends_laws.specs.ListFindings.{ListFinding, FaultNumber}
use Rattle.appends_laws.specs.ListBytes.{Sixteen}
use Rattle.appends_calls.specs.Calls.{Tells}

-- "`read T OP KIND WRITE` lines": one for each of these list reads, with its kind and its last field
pub data FaultsPrinted (h : History) (l : ℕ → List ℕ) (C : ℕ → Type 0) : List ℕ → List ℕ → Type 0 where
  no_fault : FaultsPrinted h l C [] []
  one_fault : {i k w : ℕ} {is xs : List ℕ} → HasListKind h l C i k → FaultNumber h l i k w → FaultsPrinted h l C is xs
      → FaultsPrinted h l C (i ∷ is) (read_line (op h i).tx i k w ++ xs)

-- lines that begin with a word: one for each of these pairs, with its reasons, where R says which a pair has
pub data DepsPrinted (word : List ℕ) (R : ℕ → ℕ → ℕ → Type 0) : List Pair → List ℕ → Type 0 where
  no_dep : DepsPrinted word R [] []
  one_dep : {p : Pair} {n : ℕ} {ps : List Pair} {xs : List ℕ} → R p.one p.two n → DepsPrinted word R ps xs
      → DepsPrinted word R (p ∷ ps) (line word (p.one ∷ p.two ∷ n ∷ []) ++ xs)

-- "a refused trace prints `refused NO PLACE`"
pub data ListsPrinted (s : List ℕ) : List ℕ → Type 0 where
  on_refusal : {n p : ℕ} → Refuses s n p → ListsPrinted s (refused_line n p)
  on_reading : {h : History} {c : ℕ → Bool} {is xs ys zs : List ℕ} {ws bs : List Pair} → HasHistory s h → IsCleanness h (lists_in s h) (Tells c)
      → AllOf ◌<◌ (ListFinding h (lists_in s h) (Tells c)) is → PairsOver (WriteDep h (lists_in s h) (Tells c)) ws
      → PairsOver (AnyDep h (lists_in s h) (Tells c)) bs → FaultsPrinted h (lists_in s h) (Tells c) is xs → DepsPrinted (text "write") Sixteen ws ys
      → DepsPrinted (text "both") (DepReasons h (lists_in s h) (Tells c)) bs zs
      → ListsPrinted s (line (text "lists") (length is ∷ length ws ∷ length bs ∷ []) ++ (xs ++ (ys ++ zs)))
