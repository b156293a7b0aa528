use native.Mathlib.Omega.{arith}
use Rattle.bits.proofs.Tables.{rewritten-step}
use Rattle.pairs.proofs.Priors.{priors_start, priors_end}
use Rattle.pairs.proofs.fill_priors.Goals as goal

pub loop-b-init : goal.loop-b-init
loop-b-init c = priors_start _ c.requires.1

pub returns : goal.returns
returns c =
    priors_end _ c.requires.1 (omega (arith, c.txs-b-end.ensures)) c.loop-b.invariant

pub returns-2 : goal.returns-2
returns-2 c =
    let l = c.loop-b in
    priors_end _ c.requires.1 (omega (arith, c.txs-b-end.ensures)) (rewritten-step _ l.b _ l.invariant (omega (arith, c.txs-b-end.ensures, l.invariant.room, c.requires.1.room, c.requires.0.held.few)) c.prior_of.ensures.is)
