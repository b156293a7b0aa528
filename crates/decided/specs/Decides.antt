-- Request Seven's first call in the document's own words: of the trace s, the level and what the four buffers held before (fs, ps, os, and cs for the counts),
-- of the number r that is answered, and of what they hold then (F, P, O and C).
use Rattle.std.specs.Prelude.{ℕ, ◌+◌, ◌*◌, ◌<◌, ◌≤◌, ◌≡◌, List, ◌↔◌, ◌⊎◌, length, get_or, take}
use Rattle.rules.specs.Numbers.{le, over}
use Rattle.rules.specs.History.{History}
use Rattle.rules.specs.Outcome.{rejecting, accepting, outcome}
use Rattle.demand1.specs.Rows.{Refuses, HasHistory}
use Rattle.demand2.specs.Accepted.{AcceptsTrace, OrderWritten}
use Rattle.demand3.specs.Rejected.{Fault, RejectsTrace, ListsWritten}
use Rattle.demands.specs.Declined.{Declines}
use Rattle.deciding.specs.Deciding.{decision_no}
use Rattle.deciding.specs.declared.Decision.TheVariants.{Promote, Hold, NoTrace}
use Rattle.decided.specs.Strongest.{LevelAccepts}

-- ── the counts ──

-- the slice that held cs holds C: five numbers in four bytes each, little-endian; as many as fit whole, and behind them nothing changes
pub record FiveTold (cs C : List ℕ) (a b c d e : ℕ) : Type 0 where
  -- all five, one behind the other
  pub five : List ℕ
  pub long : length five ≡ 20
  pub each_byte : (i : ℕ) → get_or five i 0 < 256
  pub first : le 4 five 0 ≡ a
  pub second : le 4 five 4 ≡ b
  pub third : le 4 five 8 ≡ c
  pub fourth : le 4 five 12 ≡ d
  pub fifth : le 4 five 16 ≡ e
  -- how many fit: one more would not, or there is none
  pub whole : ℕ
  pub fit : 4 * whole ≤ length cs
  pub most : ((whole ≡ 5) ⊎ (length cs < 4 * (whole + 1))) × (whole ≤ 5)
  pub is : C ≡ over (take (4 * whole) five) cs

-- findings, pairs, the order's length, the refusal's number and its place
abbrev pub CountsTold : List ℕ → List ℕ → ℕ → ℕ → ℕ → ℕ → ℕ → Type 0
CountsTold cs C f p o n at = FiveTold cs C f p o n at

-- ── the call ──

pub record Decides (s : List ℕ) (level : ℕ) (fs ps os cs : List ℕ) (r : ℕ) (F P O C : List ℕ) : Type 0 where
  -- "promote exactly on acceptance": demand 2's right side holds
  pub promoted : (r ≡ decision_no Promote) ↔ ((n : ℕ) × AcceptsTrace s level n (length os))
  -- "hold on rejection": demand 3's fault exists
  pub held : (r ≡ decision_no Hold) ↔ ((f : ℕ) × (p : ℕ) × RejectsTrace s level f p (length fs) (length ps))
  -- "no trace on refusal": "Refusals: 01's"
  pub no_trace : (r ≡ decision_no NoTrace) ↔ ((n : ℕ) × (p : ℕ) × Declines s level (length fs) (length ps) (length os) n p)
  -- "with the counts", and each buffer as the judge leaves it
  pub on_promote : {n : ℕ} (a : AcceptsTrace s level n (length os))
      → OrderWritten a.history level n fs ps os (outcome (accepting n) F P O) × CountsTold cs C 0 0 n 0 0
  pub on_hold : {f p : ℕ} (a : RejectsTrace s level f p (length fs) (length ps))
      → ListsWritten a.history level f p fs ps os (outcome (rejecting f p) F P O) × CountsTold cs C f p 0 0 0
  pub on_refusal : {n p : ℕ} → Declines s level (length fs) (length ps) (length os) n p → (F ≡ fs) × (P ≡ ps) × (O ≡ os) × CountsTold cs C 0 0 0 n p

-- ── with buffers that are sized once ──

-- a level finds a fault in the trace s
pub record LevelRejects (s : List ℕ) (level : ℕ) : Type 0 where
  pub low : 1 ≤ level
  pub high : level ≤ 3
  pub history : History
  pub reads : HasHistory s history
  pub fault : Fault history level

-- 6,144, 65,024 and 128 bytes are enough for every trace, no pair being of one transaction with itself: what is answered then hangs on the trace and the
-- level alone
pub record DecidesOutright (s : List ℕ) (level r : ℕ) : Type 0 where
  pub promoted : (r ≡ decision_no Promote) ↔ LevelAccepts s level
  pub held : (r ≡ decision_no Hold) ↔ LevelRejects s level
  pub no_trace : (r ≡ decision_no NoTrace) ↔ (((1 ≤ level) × (level ≤ 3) → ⊥) ⊎ ((n : ℕ) × (p : ℕ) × Refuses s n p))
