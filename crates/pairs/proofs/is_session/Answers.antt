use native.Mathlib.Omega.{arith}
use Rattle.std.proofs.lemmas.Grind.{common_steps}
use Rattle.std.proofs.lemmas.Bool.Decides.{nat_tests}
use Rattle.base.specs.Base.{◌and◌}
use Rattle.rules.specs.Levels.{is_session}
use Rattle.pairs.proofs.Pairs.{committed_has}
use Rattle.pairs.proofs.is_session.Goals as goal

pub session_of-requires : goal.session_of-requires
session_of-requires c = grind (arith, common_steps, committed_has)

pub session_of-requires-then-is_committed-2 : goal.session_of-requires-then-is_committed-2
session_of-requires-then-is_committed-2 c = grind (arith, common_steps, committed_has)

pub returns-then-is_committed-2 : goal.returns-then-is_committed-2
unfolding is_session ◌and◌
returns-then-is_committed-2 c = grind (arith, common_steps, nat_tests)

pub returns-else-is_committed-2 : goal.returns-else-is_committed-2
unfolding is_session ◌and◌
returns-else-is_committed-2 c = grind (arith, common_steps, nat_tests)
