use native.Mathlib.Omega.{arith}
use Rattle.rewriting.proofs.Whole.{gives_whole}
use Rattle.rewriting.proofs.rewrite_whole.Goals as goal

pub returns : goal.returns
returns c = gives_whole _ _ _ _ _ (omega arith) c.rewrite_trace.ensures
