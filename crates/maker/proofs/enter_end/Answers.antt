use Rattle.std.proofs.Common.{ap, sym, arith}
use Rattle.std.proofs.lemmas.Result.{err_from_is_err_and}
use Rattle.rules.specs.Refusals.{no_of}
use Rattle.rules.specs.Records.{written_key}
use Rattle.maker.proofs.Following.{single_takable, ended_step}
use Rattle.maker.proofs.enter_end.Goals as goal

pub take-requires : goal.take-requires
unfolding written_key
take-requires c = (c.requires, single_takable _ (omega arith))

pub returns-in_err-take : goal.returns-in_err-take
returns-in_err-take c =
    let r = err_from_is_err_and c.from_residual.result c.from_residual.ensures.1 in
    rw (r.1, r.2) (ended_step (ap no_of (sym c.in_err-take.was)) c.txs-txs.ensures c.take.ensures)

pub returns : goal.returns
returns c = ended_step (ap no_of (sym c.in_ok-take.was)) c.txs-txs.ensures c.take.ensures
