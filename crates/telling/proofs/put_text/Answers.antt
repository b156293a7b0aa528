use Rattle.std.proofs.Common.{refl}
use native.Mathlib.Omega.{arith}
use Rattle.text.proofs.Lines.{refused_length}
use Rattle.rules.specs.Refusals.{cause_no}
use Rattle.rules.proofs.Refusals.{cause_few}
use Rattle.telling.proofs.Fronts.{refused_fronts, length_fronts}
use Rattle.telling.proofs.put_text.Goals as goal

pub put_refusal-requires : goal.put_refusal-requires
put_refusal-requires c =
    let r = c.in-Err.refusal in
    record { bound = omega (arith, refused_length (cause_no r.cause) r.place (omega (arith, cause_few r.cause)) (omega arith)) }

pub returns-in-Err : goal.returns-in-Err
returns-in-Err c =
    refused_fronts c.in-Err.is refl (omega (arith, cause_few c.in-Err.refusal.cause)) (omega arith) c.requires.1 c.put_refusal.ensures

pub returns-in-Ok : goal.returns-in-Ok
returns-in-Ok c = length_fronts c.in-Ok.is c.requires.0
