use Rattle.std.proofs.lemmas.Result.{err_from_is_err_and}
use Rattle.maker.proofs.Call.{followed_bad, followed_good, written_bad}
use Rattle.maker.proofs.write_trace.Goals as goal

pub returns-in_err-follow_steps : goal.returns-in_err-follow_steps
returns-in_err-follow_steps c =
    let r = err_from_is_err_and c.from_residual.result c.from_residual.ensures.1 in
    rw (r.1, r.2) (written_bad _ _ _ _ (followed_bad c.follow_steps.ensures c.in_err-follow_steps.was))

pub put_whole-requires : goal.put_whole-requires
put_whole-requires c = followed_good c.follow_steps.ensures c.in_ok-follow_steps.was
