use native.Mathlib.Omega.{arith}
use Rattle.text.proofs.Lines.{refused_length}
use Rattle.rules.specs.Refusals.{cause_no}
use Rattle.rules.proofs.Refusals.{cause_few}
use Rattle.claims_text.proofs.Replies.{short, refused_replied}
use Rattle.claims_text.proofs.put_reply.Goals as goal

pub put_refusal-requires : goal.put_refusal-requires
put_refusal-requires c =
    let r = c.in-Err.refusal in
    short (refused_length (cause_no r.cause) r.place (omega (arith, cause_few r.cause)) (omega arith))

pub returns-in-Ok : goal.returns-in-Ok
returns-in-Ok c = rw c.in-Ok.is c.put_ruling.ensures

pub returns-in-Err : goal.returns-in-Err
returns-in-Err c =
    let r = c.in-Err.refusal in
    refused_replied (omega arith) c.in-Err.is (omega (arith, cause_few r.cause)) (omega arith) c.put_refusal.ensures
