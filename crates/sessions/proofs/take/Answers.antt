use Rattle.base.proofs.Tests.{clash}
use Rattle.sessions.proofs.Taken.{meets_open, kept-after, as_many, never_fewer}
use native.Mathlib.Omega.{arith}
use mathlib.Core.Path.{refl, sym, ◌∙◌}
use Rattle.sessions.proofs.take.Goals as goal

pub place-p-requires : goal.place-p-requires
place-p-requires c =
    let p = c.requires in
    (p.0, p.1, c.met-t.ensures.below, λ s l. meets_open _ _ _ c.met-t.ensures.is s l)

pub keep-requires : goal.keep-requires
keep-requires c =
    let p = c.requires in
    let more = never_fewer c.take_in-next.ensures in
    (c.take_in-next.ensures.held, p.1.room, omega (arith, c.txs-n.ensures, more), omega (arith, c.met-t.ensures.below, more), c.place-p.ensures.within, λ l. as_many c.take_in-next.ensures l ∙ sym c.txs-n.ensures)

pub returns-then-second : goal.returns-then-second
returns-then-second c =
    let p = c.requires in
    let s = c.if-second.true in
    let kept =
    kept-after _ c.take_in-next.ensures (p.1.kept s) p.0.few (omega (arith, c.met-t.ensures.below)) (meets_open _ _ _ c.met-t.ensures.is s)
    (rw s at c.place-p.ensures) in
    record {
      took = rw (← c.met-t.ensures.is) c.take_in-next.ensures;
      beside = rw (c.keep.ensures, c.txs-n.ensures) (record { room = kept.room; kept = λ t. kept });
      alone = λ t. absurd (clash s t);
    }

pub returns-else-second : goal.returns-else-second
returns-else-second c =
    record {
      took = rw (← c.met-t.ensures.is) c.take_in-next.ensures;
      beside = record { room = c.requires.1.room; kept = λ t. absurd (clash t c.if-second.false) };
      alone = λ t. refl;
    }
