use Rattle.deciding.proofs.Deciding.{five-long}
use Rattle.ferozhak.proofs.Counts.{whole-put}
use Rattle.ferozhak.proofs.put_five.Goals as goal

pub returns : goal.returns
returns c =
    let n = c.whole_counts.ensures in
    whole-put (five-long _ _ _ _ _) c.spell.ensures n.0 n.1 c.copy.ensures
