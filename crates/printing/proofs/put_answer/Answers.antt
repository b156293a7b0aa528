use Rattle.forcing.proofs.Prepared.{prepared_bad, prepared_good}
use Rattle.printing.proofs.Blocks.{refused_text, read-text, text-fits, text-written}
use borrow.Author.Rules.{rules}
use Rattle.printing.proofs.put_answer.Goals as goal

pub put_refusal-requires : goal.put_refusal-requires
put_refusal-requires c =
    text-fits _ (refused_text _ (prepared_bad c.prepare.ensures c.in-Err.is))

pub put_blocks-requires : goal.put_blocks-requires
put_blocks-requires c =
    let x = prepared_good c.prepare.ensures c.in-Ok.is in
    (record { s = _; from = x }, text-fits _ (read-text _ x))

pub returns-in-Err : goal.returns-in-Err
returns-in-Err c =
    let x = prepared_bad c.prepare.ensures c.in-Err.is in
    text-written _ (refused_text _ x) c.put_refusal.ensures

pub returns-in-Ok : goal.returns-in-Ok
returns-in-Ok c =
    let x = prepared_good c.prepare.ensures c.in-Ok.is in
    text-written _ (read-text _ x) c.put_blocks.ensures
