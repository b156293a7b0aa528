use Prim.Native.Nat.{◌*◌}
use Rattle.vectors.proofs.Merging.{Merging}
use Rattle.vectors.proofs.merge_row.Given as goal

abbrev pub invariant-loop-j : goal.invariant-loop-j
invariant-loop-j l = Merging l.initial.v l.t l.p 0 (16 * l.j) l.v
