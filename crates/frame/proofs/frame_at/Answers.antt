use Rattle.std.proofs.Common.{rules, sym, ◌∙◌}
use Rattle.std.proofs.lemmas.Result.{err_from_is_err_and}
use Rattle.rules.proofs.Refusals.{cause-some}
use Rattle.frame.proofs.Frames.{fit, framing_bad, framing_good}
use Rattle.frame.proofs.frame_at.Goals as goal

pub returns-in_err-check_frame : goal.returns-in_err-check_frame
returns-in_err-check_frame c =
    let p = err_from_is_err_and c.from_residual.result c.from_residual.ensures.1 in
    rw (p.1, p.2) (framing_bad _ _ _ _ c.in_err-check_frame.ensures (cause-some _), tt)

pub stated_at-requires : goal.stated_at-requires
stated_at-requires c = fit _ _ _ c.args.expected (sym c.in_ok-check_frame.ensures)

pub returns : goal.returns
returns c = (
  rw c.stated_at.ensures.is (framing_good _ _ _ c.args.expected (sym c.in_ok-check_frame.ensures)),
  c.stated_at.ensures.sound,
)
