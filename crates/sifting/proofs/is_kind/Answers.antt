use borrow.Author.Tests.{lt-ltb, le-ltb}
use Rattle.base.specs.Base.{◌and◌}
use Rattle.sifting.specs.Lists.{is_kind}
use Rattle.sifting.proofs.is_kind.Goals as goal

pub returns-then-v-gt0 : goal.returns-then-v-gt0
unfolding is_kind ◌and◌
returns-then-v-gt0 c = rw (lt-ltb 0 c.args.v c.if-v-gt0.true)

pub returns-else-v-gt0 : goal.returns-else-v-gt0
unfolding is_kind ◌and◌
returns-else-v-gt0 c = rw (le-ltb 0 c.args.v c.if-v-gt0.false)
