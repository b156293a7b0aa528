use Rattle.base.specs.Base.{pick}
use Rattle.table.proofs.Stores.{put_becomes}
use Rattle.table.specs.Table.{put_read, put_op}
use native.Mathlib.Omega.{arith}
use Rattle.table.proofs.put_read.Goals as goal

pub returns : goal.returns
unfolding put_op put_read pick
returns c = put_becomes _ _ _ c.requires.0 (omega arith) c.requires.1 c.put_op.ensures
