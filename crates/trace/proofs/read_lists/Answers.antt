use Rattle.std.proofs.Common.{◌+◌, ◌-◌, length, sym, refl, ap, ◌∙◌, true≢false, rules}
use Rattle.std.specs.Prelude.{Ok}
use Rattle.std.proofs.lemmas.Result.{err_from_is_err_and}
use Rattle.rules.specs.History.{op_count}
use Rattle.table.specs.Table.{history_of}
use Rattle.sessions.specs.Open.{Beside}
use Rattle.mixing.specs.Mixing.{Indexed}
use Rattle.trace.proofs.Going.{Listing, lists_mixed, listing-first, listing-over, listing_more, listing_less, listing_held, listing_mixed, listing_on}
use Rattle.trace.proofs.read_lists.Goals as goal

pub enter_all-requires : goal.enter_all-requires
enter_all-requires c = (c.requires.0.passed.standing.held, refl)

pub returns-then-enter_all : goal.returns-then-enter_all
returns-then-enter_all c = rw c.at.ensures (lists_mixed c.enter_all.ensures.is c.if-enter_all.true)

pub loop-way-init : goal.loop-way-init
loop-way-init c =
    let e = c.enter_all.ensures in
    let p = c.requires in
    (listing-first e.is c.if-enter_all.false p.0, p.2, e.indexed c.if-enter_all.false)

pub ops-n-requires : goal.ops-n-requires
ops-n-requires c = c.loop-way.invariant.0.standing.held

pub read_records-requires : goal.read_records-requires
read_records-requires c =
    (c.loop-way.invariant.0.standing, c.requires.1, c.loop-way.invariant.1, λ e. absurd (true≢false e))

pub returns-in-Over : goal.returns-in-Over
returns-in-Over c =
    listing-over c.loop-way.invariant.0 (rw (c.in_ok-way.was ∙ ap Ok c.in-Over.is) at c.read_records.ensures.0)

pub returns-in_err-way : goal.returns-in_err-way
returns-in_err-way c =
    let r = err_from_is_err_and c.from_residual.result c.from_residual.ensures.1 in
    rw (r.1, r.2) (listing-over c.loop-way.invariant.0 (rw c.in_err-way.was at c.read_records.ensures.0))

pub mixes-requires : goal.mixes-requires
mixes-requires c =
    let z = rw (c.in_ok-way.was ∙ ap Ok c.in-Behind.is) at c.read_records.ensures.0 in
    (listing_held c.loop-way.invariant.0 z, listing_more c.loop-way.invariant.0 z c.loop-way.invariant.2 c.ops-n.ensures)

pub shape_of-h-then-mixes : goal.shape_of-h-then-mixes
shape_of-h-then-mixes c =
    let z = rw (c.in_ok-way.was ∙ ap Ok c.in-Behind.is) at c.read_records.ensures.0 in
    (listing_held c.loop-way.invariant.0 z).room ∙ sym c.requires.0.passed.standing.held.room

pub shape_of-o-then-mixes : goal.shape_of-o-then-mixes
shape_of-o-then-mixes c =
    c.read_records.ensures.1.room ∙ sym c.requires.2.room

pub returns-then-mixes : goal.returns-then-mixes
returns-then-mixes c =
    let z = rw (c.in_ok-way.was ∙ ap Ok c.in-Behind.is) at c.read_records.ensures.0 in
    rw c.at-then-mixes.ensures (listing_mixed c.loop-way.invariant.0 z c.ops-n.ensures c.mixes.ensures c.if-mixes.true)

pub loop-way-smaller : goal.loop-way-smaller
loop-way-smaller c =
    listing_less c.loop-way.invariant.0 (rw (c.in_ok-way.was ∙ ap Ok c.in-Behind.is) at c.read_records.ensures.0)

pub loop-way-preserved : goal.loop-way-preserved
loop-way-preserved c =
    let z = rw (c.in_ok-way.was ∙ ap Ok c.in-Behind.is) at c.read_records.ensures.0 in
    let m = c.mixes.ensures in
    (listing_on c.loop-way.invariant.0 z c.ops-n.ensures m c.if-mixes.false, c.read_records.ensures.1, m.indexed c.if-mixes.false)
