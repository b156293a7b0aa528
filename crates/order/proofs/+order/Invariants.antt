use lib.ListN.{take}
use Rattle.theory.specs.Order.{unplaced}
use Rattle.order.specs.Sets.{words, in_words}
use Rattle.order.proofs.+order.Given as goal

-- At each call one transaction less is unplaced.
abbrev pub decreases-order : goal.decreases-order
decreases-order l = unplaced l.n (in_words (words l.mlo l.mhi)) (take l.at l.out.now)
