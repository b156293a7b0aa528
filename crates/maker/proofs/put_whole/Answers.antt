use Rattle.maker.proofs.Call.{written_short, written-fits, written-put}
use Rattle.maker.proofs.put_whole.Goals as goal

pub returns-then-out-needed : goal.returns-then-out-needed
returns-then-out-needed c =
    rw c.at.ensures (written_short _ _ _ c.requires.is c.trace_length-needed.ensures c.if-out-needed.true)

pub put_trace-requires : goal.put_trace-requires
put_trace-requires c =
    (c.requires, written-fits _ _ c.args.out.now c.requires.is c.trace_length-needed.ensures c.if-out-needed.false)

pub returns : goal.returns
returns c =
    written-put _ _ _ c.requires.is c.put_trace.ensures
