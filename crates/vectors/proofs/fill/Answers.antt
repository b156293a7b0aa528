use native.Mathlib.Omega.{arith}
use Rattle.vectors.proofs.Filling.{filled_turn}
use Rattle.vectors.proofs.fill.Goals as goal

pub take_row-requires : goal.take_row-requires
take_row-requires c = filled_turn c.requires.2 c.loop-t.t-index (omega arith) c.requires.1 c.loop-t.invariant
