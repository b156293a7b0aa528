use lib.ListN.{length-take, length-drop, length-set}
use native.Mathlib.Omega.{arith}
use Rattle.table.proofs.Stores.{cleared_becomes}
use Rattle.table.proofs.clear.Goals as goal

pub returns : goal.returns
returns c = cleared_becomes c.args.h.now _ _ c.requires (simp (length-take, length-drop, length-set) (omega (arith, c.requires))) (c.fill.ensures.after (λ y e. e))
