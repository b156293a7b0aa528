use Rattle.appends_text.proofs.Told.{told_refused, told-told, text-fits, text-put}
use Rattle.appends_text.proofs.put_text.Goals as goal

pub put_refusal-requires : goal.put_refusal-requires
put_refusal-requires c = text-fits _ (told_refused _ c.judge_lists.ensures c.in-Err.is)

pub put_told-requires : goal.put_told-requires
put_told-requires c =
    let x = told-told _ c.judge_lists.ensures c.in-Ok.is in
    (x.findings_there, x.pairs_there, text-fits _ x.text)

pub returns-in-Err : goal.returns-in-Err
returns-in-Err c = text-put _ (told_refused _ c.judge_lists.ensures c.in-Err.is) c.put_refusal.ensures

pub returns-in-Ok : goal.returns-in-Ok
returns-in-Ok c =
    let x = told-told _ c.judge_lists.ensures c.in-Ok.is in
    text-put _ x.text c.put_told.ensures
