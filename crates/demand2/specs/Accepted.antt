-- When a trace that was read is accepted, and what is then written, with no mention of how either is computed.
use Rattle.std.specs.Prelude.{ℕ, ◌<◌, ◌≤◌, ◌≡◌, List, length}
use Rattle.theory.specs.Entries.{Number}
use Rattle.rules.specs.Numbers.{over}
use Rattle.rules.specs.History.{History}
use Rattle.rules.specs.Outcome.{Outcome}
use Rattle.demand1.specs.Rows.{HasHistory}
use Rattle.demand2.specs.Kinds.{AllClean}
use Rattle.demand2.specs.Axiom.{Member, HasOrder, FirstShown}

-- n is the number of committed transactions, 0 among them
abbrev pub CommittedCount : History → ℕ → Type 0
CommittedCount h = Number ◌<◌ (Member h)

-- every read is clean, a commit order of the level exists, and there is room for one byte a committed transaction, of which there are n
pub record Accepts (h : History) (level n room : ℕ) : Type 0 where
  pub clean : AllClean h
  pub ordered : HasOrder h level
  pub each : CommittedCount h n
  pub fits : n ≤ room

-- the trace s is read, and its history accepted at the level
pub record AcceptsTrace (s : List ℕ) (level n room : ℕ) : Type 0 where
  pub low : 1 ≤ level
  pub high : level ≤ 3
  pub history : History
  pub reads : HasHistory s history
  pub accepts : Accepts history level n room

-- "only the order is written": it is the first commit order, and n, which is answered, its length; fs, ps and os are what the buffers held before
pub record OrderWritten (h : History) (level n : ℕ) (fs ps os : List ℕ) (x : Outcome) : Type 0 where
  pub shown : List ℕ
  pub first : FirstShown h level shown
  pub long : n ≡ length shown
  pub order : x.order ≡ over shown os
  pub findings : x.findings ≡ fs
  pub pairs : x.pairs ≡ ps
