use mathlib.Core.Path.{◌≡◌}
use lib.ListN.{take}
use Rattle.std.specs.List.{count_by}
use Rattle.sifting.specs.Lists.{is_kind}
use Rattle.sifting.proofs.count_findings.Given as goal

abbrev pub invariant-loop-v : goal.invariant-loop-v
invariant-loop-v l = l.found ≡ count_by is_kind (take l.v-index l.v-items)
