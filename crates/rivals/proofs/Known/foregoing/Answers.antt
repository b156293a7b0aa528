use native.Mathlib.Omega.{arith}
use Rattle.rivals.proofs.Seen.{told-by-row, told-by_vector}
use Rattle.rivals.proofs.Known.foregoing.Goals as goal

pub returns-then-self-eq0 : goal.returns-then-self-eq0
returns-then-self-eq0 c = λ h k level p o. told-by-row p o c.if-self-eq0.true

pub returns : goal.returns
returns c = λ h k level p o. told-by_vector p o (omega (arith, c.if-self-eq0.false)) c.known.ensures
