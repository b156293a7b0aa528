use native.Mathlib.Omega.{arith}
use Rattle.writing.proofs.Forms.{first-length, second-length}
use Rattle.putting.proofs.event_length.Goals as goal

pub returns-in-First : goal.returns-in-First
returns-in-First c = rw c.in-First.is (omega (arith, c.payload_length.ensures.0, first-length c.args.event))

pub returns-in-Second : goal.returns-in-Second
returns-in-Second c = rw c.in-Second.is (omega (arith, c.payload_length-in-Second.ensures.0, second-length c.args.event))
