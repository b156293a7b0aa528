use Rattle.writing.proofs.Steps.{step-rest, step-whole}
use Rattle.std.proofs.Common.{arith}
use Rattle.rules.specs.Records.{written_key}
use Rattle.maker.proofs.step_at.Goals as goal

pub returns-then-s-at-lt16 : goal.returns-then-s-at-lt16
unfolding written_key
returns-then-s-at-lt16 c = (step-rest _ _ c.requires c.if-s-at-lt16.true, omega arith)

pub returns : goal.returns
returns c = (step-whole _ _ c.requires c.if-s-at-lt16.false c.step_of.ensures.0, c.step_of.ensures.1)
