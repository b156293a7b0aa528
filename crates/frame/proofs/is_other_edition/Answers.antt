use native.Mathlib.Omega.{arith}
use Rattle.base.specs.Base.{◌and◌}
use Rattle.rules.specs.Records.{is_other_edition}
use Rattle.rules.proofs.Records.{payload_begins}
use Rattle.frame.proofs.Frames.{payload_length}
use borrow.Author.Tests.{eq-eqb, ne_eqb}
use Rattle.frame.proofs.is_other_edition.Goals as goal

pub returns-then-kind-ne16 : goal.returns-then-kind-ne16
unfolding is_other_edition ◌and◌
returns-then-kind-ne16 c = rw (ne_eqb _ _ c.if-kind-ne16.true)

pub payload_at-requires : goal.payload_at-requires
payload_at-requires c = let p = c.requires in (omega (arith, p.0 c.if-kind-ne16.false), p.1)

pub read_edition-requires : goal.read_edition-requires
read_edition-requires c =
    let l = c.requires.0 c.if-kind-ne16.false in
    rw c.payload_at.ensures (omega (arith, l, payload_length c.args.s.now c.args.at (omega (arith, l)) c.requires.1))

pub returns : goal.returns
unfolding is_other_edition ◌and◌
returns c =
    let e = c.if-kind-ne16.false in
    rw (c.read_edition.ensures, c.payload_at.ensures, payload_begins c.args.s.now c.args.at (omega (arith, c.requires.0 e)), eq-eqb _ _ e)
