use mathlib.Core.Path.{sym, ap, ◌∙◌}
use mathlib.Core.Bool.{Bool}
use Rattle.base.specs.Base.{pick}
use Rattle.pairs.proofs.Pairs.{byte_from, reads_of}
use Rattle.rivals.specs.Rivals.{first_from}
use Rattle.rivals.proofs.Seen.{firsts_start, firsts_next, firsts_end}
use Rattle.rivals.proofs.Sight.first_from.Goals as goal

pub loop-i-init : goal.loop-i-init
loop-i-init c = firsts_start _ _ _ (reads_of _ _ _) c.ops-r.ensures c.last_op-i.ensures

pub loop-i-preserved : goal.loop-i-preserved
loop-i-preserved c =
    let w = c.loop-i in
    let l = c.loop-i-test.true in
    let e = ap (λ (b : Bool). pick b w.i w.r) (byte_from c.args.self.now.ready w.invariant.on l _) in
    firsts_next _ _ _ (reads_of _ _ _) w.invariant l (c.earlier-r.ensures ∙ sym e) c.prev_op-i.ensures

pub returns : goal.returns
unfolding first_from
returns c = firsts_end _ _ _ (reads_of _ _ _) c.loop-i.invariant c.loop-i-test.false
