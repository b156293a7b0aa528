use mathlib.Core.Path.{◌≡◌}
use Rattle.base.specs.Base.{last}
use Rattle.columns.specs.Columns.{says_column}
use Rattle.columns.proofs.width.Given as goal

-- the search below n is the one below s
abbrev pub invariant-loop-s : goal.invariant-loop-s
invariant-loop-s l = last (says_column l.c) l.n ≡ last (says_column l.c) l.s
