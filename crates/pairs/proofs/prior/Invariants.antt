use Prim.Native.Nat.{◌+◌, ◌-◌}
use mathlib.Core.Path.{◌≡◌}
use Rattle.base.specs.Base.{last}
use Rattle.rules.specs.Levels.{is_session}
use Rattle.table.specs.Table.{history_of}
use Rattle.pairs.specs.Pairs.{before}
use Rattle.pairs.proofs.prior.Given as goal

-- the search below b is the one up to b - k
abbrev pub invariant-loop-k : goal.invariant-loop-k
invariant-loop-k l =
    last (before (is_session (history_of l.h)) l.b) l.b ≡ last (before (is_session (history_of l.h)) l.b) (l.b - l.k + 1)
