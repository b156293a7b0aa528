use Rattle.rules.proofs.Singles.{singles_none}
use Rattle.trace.proofs.Going.{beside_first, standing_first, too_long, whole-ends, whole-first, whole_lists}
use Rattle.std.proofs.Common.{ap, ◌∙◌, rules}
use Rattle.std.specs.Prelude.{Ok}
use Rattle.std.proofs.lemmas.Result.{err_from_is_err_and}
use Rattle.trace.proofs.read_trace.Goals as goal

pub returns-then-s-gt32768 : goal.returns-then-s-gt32768
returns-then-s-gt32768 c = rw c.at.ensures (too_long _ _ _ c.clear.ensures c.if-s-gt32768.true)

pub read_records-requires : goal.read_records-requires
read_records-requires c =
    let h = c.clear.ensures.holds in
    (standing_first _ _ h, c.is_second-second.ensures, beside_first _ h, λ e. rw h.is singles_none)

pub read_lists-requires : goal.read_lists-requires
read_lists-requires c =
    (whole-first (rw (c.in_ok-way.was ∙ ap Ok c.in-Behind.is) at c.read_records.ensures.0), c.is_second-second.ensures, c.read_records.ensures.1)

pub returns-in-Over : goal.returns-in-Over
returns-in-Over c =
    whole-ends _ _ _ c.clear.ensures c.if-s-gt32768.false (rw (c.in_ok-way.was ∙ ap Ok c.in-Over.is) at c.read_records.ensures.0)

pub returns-in-Behind : goal.returns-in-Behind
returns-in-Behind c =
    whole-ends _ _ _ c.clear.ensures c.if-s-gt32768.false
    (whole_lists (rw (c.in_ok-way.was ∙ ap Ok c.in-Behind.is) at c.read_records.ensures.0) c.read_lists.ensures)

pub returns-in_err-way : goal.returns-in_err-way
returns-in_err-way c =
    let r = err_from_is_err_and c.from_residual.result c.from_residual.ensures.1 in
    rw (r.1, r.2) (whole-ends _ _ _ c.clear.ensures c.if-s-gt32768.false (rw c.in_err-way.was at c.read_records.ensures.0))
