use Rattle.table.proofs.Walks.{list_start, list_hit, list_miss, list_end, list_has}
use Rattle.table.specs.Table.{prev_list}
use native.Mathlib.Omega.{arith}
use mathlib.Core.Path.{refl, sym, ◌∙◌}
use Rattle.table.proofs.prev_list.Goals as goal

pub key_of-x-requires : goal.key_of-x-requires
key_of-x-requires c = c.requires.there.there

pub link_of-j-requires : goal.link_of-j-requires
link_of-j-requires c = c.requires.there

pub loop-j-init : goal.loop-j-init
loop-j-init c =
    let p = c.requires in
    list_start _ _ p.of_list _ _ p.there.there.from refl c.link_of-j.ensures.is

pub key_of-requires : goal.key_of-requires
key_of-requires c = (list_has _ _ _ _ c.requires.there.there c.loop-j.invariant (omega arith)).there

pub returns-then-key_of-x : goal.returns-then-key_of-x
unfolding prev_list
returns-then-key_of-x c =
    let l = c.loop-j in
    record {
      is = sym (list_hit _ _ c.requires.of_list _ l.invariant (omega arith) (sym c.key_of.ensures ∙ c.if-key_of-x.true ∙ c.key_of-x.ensures));
      below = l.invariant.within;
    }

pub link_of-j-requires-in-loop-j : goal.link_of-j-requires-in-loop-j
link_of-j-requires-in-loop-j c = list_has _ _ _ _ c.requires.there.there c.loop-j.invariant (omega arith)

pub loop-j-smaller : goal.loop-j-smaller
loop-j-smaller c = c.link_of-j-in-loop-j.ensures.below

pub loop-j-preserved : goal.loop-j-preserved
loop-j-preserved c =
    let l = c.loop-j in
    list_miss _ _ c.requires.of_list _ l.invariant _ (omega arith)
    (λ e. c.if-key_of-x.false (c.key_of.ensures ∙ e ∙ sym c.key_of-x.ensures)) c.link_of-j-in-loop-j.ensures.is

pub returns : goal.returns
unfolding prev_list
returns c =
    record { is = sym (list_end _ _ c.requires.of_list _ c.loop-j.invariant c.loop-j-test.false); below = omega (arith, c.requires.there.there.from) }
