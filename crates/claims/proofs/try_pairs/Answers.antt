use Rattle.claims_rules.specs.Claims.{reply}
use Rattle.claims.proofs.TurnedFirsts.{first_seat, says_pair, says_yes}
use Rattle.claims.proofs.try_pairs.Goals as goal

pub turned_firsts-w-requires : goal.turned_firsts-w-requires
turned_firsts-w-requires c = c.requires.0

pub up_to-requires : goal.up_to-requires
up_to-requires c = c.requires.0

pub second-b-requires : goal.second-b-requires
second-b-requires c = (c.requires.1, c.if-a-lt128.true)

pub returns-then-a-lt128 : goal.returns-then-a-lt128
unfolding reply
returns-then-a-lt128 c =
    let l = c.least_of-a.ensures in
    let t = c.turned_firsts-w.ensures in
    let k = c.if-a-lt128.true in
    let few = c.requires.1 in
    λ h level n m w.
    let few : _ = rw n at few in
    rw n (says_pair h level _ _ few m w t l k (c.up_to.ensures (first_seat h level _ _ few m w t l k)) (rw n at c.second-b.ensures))

pub returns : goal.returns
unfolding reply
returns c =
    let few = c.requires.1 in
    λ h level n m w. rw n (says_yes h level _ _ (rw n at few) m w c.turned_firsts-w.ensures c.least_of-a.ensures c.if-a-lt128.false)
