use native.Mathlib.Omega.{arith}
use Rattle.text.proofs.Lines.{decimal_one, decimal_more}
use Rattle.show.proofs.Laws.{first_short, then_short, put_then}
use Rattle.show.proofs.+put_number.Goals as goal

pub put_digit-requires : goal.put_digit-requires
put_digit-requires t c = (omega arith, rw (decimal_one c.args.n (omega arith)) at c.requires)

pub returns-then-n-lt10 : goal.returns-then-n-lt10
returns-then-n-lt10 t c = rw (decimal_one c.args.n (omega arith)) c.put_digit.ensures

pub put_number-to-requires : goal.put_number-to-requires
put_number-to-requires t c = (omega arith, first_short _ _ (rw (decimal_more c.args.n (omega arith)) at c.requires))

pub put_digit-requires-2 : goal.put_digit-requires-2
put_digit-requires-2 t c = (omega arith, then_short c.put_number-to.ensures (rw (decimal_more c.args.n (omega arith)) at c.requires))

pub returns : goal.returns
returns t c = rw (decimal_more c.args.n (omega arith)) (put_then c.put_number-to.ensures c.put_digit-2.ensures)
