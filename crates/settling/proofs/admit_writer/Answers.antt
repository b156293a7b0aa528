use native.Mathlib.Omega.{arith}
use Rattle.settling.proofs.Marks.{marks_few, further_one, taken_one}
use Rattle.settling.proofs.admit_writer.Goals as goal

pub admit-requires : goal.admit-requires
admit-requires c = (c.in-Some.ensures.there, omega (arith, marks_few c.requires.1))

pub returns-in-Some : goal.returns-in-Some
returns-in-Some c =
    let p = c.requires in
    let a = c.admit.ensures in
    (further_one p.1 p.0 p.2 c.in-Some.ensures a.0, taken_one p.1 p.0 p.2 c.in-Some.ensures a.0, a.1)
