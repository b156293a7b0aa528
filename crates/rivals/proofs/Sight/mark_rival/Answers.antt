use Rattle.rivals.proofs.Seen.{pairs_first, pairs_below}
use Rattle.rivals.proofs.Rivals.{rival_hits}
use Rattle.rivals.proofs.Sight.mark_rival.Goals as goal

pub seen_from-requires : goal.seen_from-requires
seen_from-requires c =
    (c.requires.3, pairs_below _ _ _ _ c.requires.2, c.requires.2)

pub mark_hits-requires : goal.mark_hits-requires
mark_hits-requires c =
    (c.requires.0, c.requires.4, pairs_below _ _ _ _ c.requires.2)

pub returns : goal.returns
returns c =
    rival_hits _ _ _ _ _ c.requires.4.to c.args.self.now.levels.0 c.args.self.now.levels.1 c.requires.1 (pairs_first _ _ _ _ c.requires.2) c.seen_from.ensures c.mark_hits.ensures
