use native.Mathlib.Omega.{arith}
use Rattle.std.proofs.lemmas.Grind.{common_steps}
use Rattle.std.proofs.lemmas.Bool.Decides.{nat_tests}
use Rattle.base.specs.Base.{◌and◌}
use Rattle.rules.specs.Levels.{is_start}
use Rattle.pairs.proofs.is_start.Goals as goal

pub returns-then-b-gt0 : goal.returns-then-b-gt0
unfolding is_start ◌and◌
returns-then-b-gt0 c = grind (arith, common_steps, nat_tests)

pub returns-else-b-gt0 : goal.returns-else-b-gt0
unfolding is_start ◌and◌
returns-else-b-gt0 c = grind (arith, common_steps, nat_tests)
