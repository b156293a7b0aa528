use Prim.Native.Nat.{◌+◌, ◌*◌}
use Rattle.vectors.proofs.Merging.{Merging}
use Rattle.vectors.proofs.merge_block.Given as goal

abbrev pub invariant-loop-s : goal.invariant-loop-s
invariant-loop-s l = Merging l.initial.v l.t l.p (16 * l.j) (16 * l.j + l.s) l.v
