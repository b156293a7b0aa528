use mathlib.Core.Path.{refl, sym, ◌∙◌}
use borrow.Author.Rules.{rules}
use Rattle.rules.proofs.Forced.{placed_iff}
use Rattle.causal.proofs.Given.{fresh}
use Rattle.sifting.proofs.Sifted.{listed-under}
use Rattle.sifting.proofs.Levels.{told-listing}
use Rattle.forcing.proofs.Forced.{forced_below}
use Rattle.judging.proofs.Forced.{forced-under, judging}
use Rattle.judging.proofs.Lists.{listed_rejects}
use Rattle.judging.proofs.judge_history.Goals as goal

pub fill_priors-requires : goal.fill_priors-requires
fill_priors-requires c = (c.requires.ready.settled, fresh)

pub force-requires : goal.force-requires
force-requires c =
    let p = c.requires in (
      p,
      record { settled = p.ready.settled; priors = c.fill_priors.ensures; members = c.members-m.ensures; many = c.count_members-all.ensures },
      refl,
      refl,
      refl,
    )

pub arrange-n-requires : goal.arrange-n-requires
arrange-n-requires c =
    (c.requires.ready.settled, forced_below c.force.ensures.0, refl, c.members-m.ensures)

pub decide_placed-requires : goal.decide_placed-requires
decide_placed-requires c =
    (c.requires.ready, (c.arrange-n.ensures _ c.force.ensures.0.forces).room)

pub returns-then-n-all : goal.returns-then-n-all
returns-then-n-all c =
    let placed = c.arrange-n.ensures _ c.force.ensures.0.forces in
    c.decide_placed.ensures _ _ ((placed_iff _ _).0 (sym placed.long ∙ c.if-n-all.true ∙ c.count_members-all.ensures)) placed

pub lead-requires : goal.lead-requires
lead-requires c = forced-under c.force.ensures.0 c.txs.ensures

pub list-requires : goal.list-requires
list-requires c =
    (c.requires.ready, forced_below c.force.ensures.0, c.lead.ensures.room)

pub reject_listed-requires : goal.reject_listed-requires
reject_listed-requires c =
    let w = c.force.ensures.0 in
    (w.ready, told-listing (judging w c.txs.ensures c.lead.ensures c.list.ensures), listed-under _ _ (forced_below w) c.list.ensures.0)

pub returns : goal.returns
returns c =
    let w = c.force.ensures.0 in
    listed_rejects _ _
    (λ n. c.if-n-all.false ((c.arrange-n.ensures _ w.forces).long ∙ (placed_iff _ _).1 n ∙ sym c.count_members-all.ensures))
    (c.reject_listed.ensures _ (judging w c.txs.ensures c.lead.ensures c.list.ensures))
