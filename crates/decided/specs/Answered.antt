-- Request Seven's "Both rely on the judge's promises alone": answers that meet the three demands, whoever gave them, and what is made of them.
use Rattle.std.specs.Prelude.{ℕ, ◌≤◌, Bool, true, false, List, length}
use Rattle.base.specs.Base.{pick}
use Rattle.rules.specs.Outcome.{Verdict, declines, rejects, accepts}
use Rattle.rules.specs.Outcome.{Answer}
use Rattle.demands.specs.Demands.{Demands}

-- r is answered of the trace s at a level and meets the demands, with room for every order and whatever room for lists, it may be none
pub record AnsweredAt (s : List ℕ) (level : ℕ) (r : Answer) : Type 0 where
  -- what the buffers held before, and what they hold then
  pub fs : List ℕ
  pub ps : List ℕ
  pub os : List ℕ
  pub F : List ℕ
  pub P : List ℕ
  pub O : List ℕ
  pub room : 128 ≤ length os
  pub demands : Demands s level fs ps os r F P O

-- a verdict tells that the level accepts
unfoldable pub is_accepting : Verdict → Bool
is_accepting accepts = true
is_accepting rejects = false
is_accepting declines = false

-- the number by the verdicts at levels 3, 2 and 1: the strongest of them that accepts, 0 if none does
unfoldable pub by_verdicts : Verdict → Verdict → Verdict → ℕ
by_verdicts third second first = pick (is_accepting third) 3 (pick (is_accepting second) 2 (pick (is_accepting first) 1 0))
