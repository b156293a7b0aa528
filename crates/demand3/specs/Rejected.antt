-- When a trace is rejected, with which counts, and what is then written, with no mention of how any of it is computed.
use Rattle.std.specs.Prelude.{ℕ, ◌*◌, ◌<◌, ◌≤◌, ◌≡◌, List, length}
use Rattle.theory.specs.Entries.{Number}
use Rattle.rules.specs.Numbers.{over}
use Rattle.rules.specs.History.{History}
use Rattle.rules.specs.Outcome.{Pair, Outcome}
use Rattle.demand1.specs.Rows.{HasHistory}
use Rattle.demand3.specs.Forced.{ListedPair}
use Rattle.demand3.specs.Lists.{Finding, Findings, PairBefore, PairListed, Pairs, FindingBytes, PairBytes}

-- what keeps a history from being accepted: "Accepted: no finding and no listed pair"
pub data Fault (h : History) (level : ℕ) : Type 0 where
  finding : {i : ℕ} → Finding h i → Fault h level
  pair : {a b : ℕ} → ListedPair h level a b → Fault h level

-- f is the number of unclean reads, and p that of listed pairs
abbrev pub FindingCount : History → ℕ → Type 0
FindingCount h = Number ◌<◌ (Finding h)

abbrev pub PairCount : History → ℕ → ℕ → Type 0
PairCount h level = Number PairBefore (PairListed h level)

-- a history is rejected with f findings and p pairs, which fit, at 6 bytes a finding and 4 a pair, into buffers of n and m bytes
pub record Rejects (h : History) (level f p n m : ℕ) : Type 0 where
  pub fault : Fault h level
  pub findings : FindingCount h f
  pub pairs : PairCount h level p
  pub findings_fit : 6 * f ≤ n
  pub pairs_fit : 4 * p ≤ m

-- the trace s is read, and its history rejected at the level
pub record RejectsTrace (s : List ℕ) (level f p n m : ℕ) : Type 0 where
  pub low : 1 ≤ level
  pub high : level ≤ 3
  pub history : History
  pub reads : HasHistory s history
  pub rejects : Rejects history level f p n m

-- "only the two lists are written", and f and p, which are answered, are their lengths; fs, ps and os are what the buffers held before
pub record ListsWritten (h : History) (level f p : ℕ) (fs ps os : List ℕ) (x : Outcome) : Type 0 where
  pub reads : List ℕ
  pub are_findings : Findings h reads
  pub reads_long : f ≡ length reads
  pub finding_bytes : List ℕ
  pub spell_findings : FindingBytes h reads finding_bytes
  pub listed : List Pair
  pub are_pairs : Pairs h level listed
  pub listed_long : p ≡ length listed
  pub pair_bytes : List ℕ
  pub spell_pairs : PairBytes h level listed pair_bytes
  pub findings : x.findings ≡ over finding_bytes fs
  pub pairs : x.pairs ≡ over pair_bytes ps
  pub order : x.order ≡ os
