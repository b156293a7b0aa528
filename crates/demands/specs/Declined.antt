-- Document 01's table of refusals whole, rows 1 to 14, each in its own terms.
use Rattle.std.specs.Prelude.{ℕ, ◌*◌, ◌<◌, ◌≤◌, List}
use Rattle.rules.specs.History.{History}
use Rattle.demand1.specs.Rows.{Refuses, HasHistory}
use Rattle.demand2.specs.Kinds.{AllClean}
use Rattle.demand2.specs.Axiom.{HasOrder}
use Rattle.demand2.specs.Accepted.{CommittedCount}
use Rattle.demand3.specs.Rejected.{Fault, FindingCount, PairCount}

-- judging the trace s, with buffers of f, p and o bytes, is refused with this number and place
pub data Declines (s : List ℕ) (level f p o : ℕ) : ℕ → ℕ → Type 0 where
  -- "the level is not 1, 2 or 3"
  no_level : ((1 ≤ level) × (level ≤ 3) → ⊥) → Declines s level f p o 1 0
  -- rows 2 to 11
  reading_refused : {n at : ℕ} → 1 ≤ level → level ≤ 3 → Refuses s n at → Declines s level f p o n at
  -- "on rejection only, 12 and 13": an unclean read or a listed pair exists, and there are n unclean reads; "12 now asks for 6 bytes a finding"
  findings_short : {h : History} {n : ℕ} → 1 ≤ level → level ≤ 3 → HasHistory s h → Fault h level → FindingCount h n → f < 6 * n
      → Declines s level f p o 12 (6 * n)
  -- .. and m listed pairs, which need 4 m
  pairs_short : {h : History} {n m : ℕ} → 1 ≤ level → level ≤ 3 → HasHistory s h → Fault h level → FindingCount h n → 6 * n ≤ f
      → PairCount h level m → p < 4 * m → Declines s level f p o 13 (4 * m)
  -- "on acceptance only, 14": all reads are clean and a commit order exists, and there are n committed transactions, which need n bytes
  order_short : {h : History} {n : ℕ} → 1 ≤ level → level ≤ 3 → HasHistory s h → AllClean h → HasOrder h level → CommittedCount h n
      → o < n → Declines s level f p o 14 n
