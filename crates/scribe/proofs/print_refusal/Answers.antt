use Rattle.std.proofs.Common.{arith}
use Rattle.text.proofs.Lines.{refused_length}
use Rattle.rules.specs.Refusals.{cause_no}
use Rattle.rules.proofs.Refusals.{cause_few}
use Rattle.scribe.proofs.print_refusal.Goals as goal

pub put_refusal-end-requires : goal.put_refusal-end-requires
put_refusal-end-requires g c =
    let r = c.args.refusal in
    record { bound = omega (arith, refused_length (cause_no r.cause) r.place (omega (arith, cause_few r.cause)) (omega arith)) }

pub print_front-requires : goal.print_front-requires
print_front-requires g c =
    let r = c.args.refusal in
    omega (arith, c.put_refusal-end.ensures.end, c.put_refusal-end.auto, refused_length (cause_no r.cause) r.place (omega (arith, cause_few r.cause)) (omega arith))
