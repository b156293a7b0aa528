use Rattle.listings.proofs.Listings.{closed-under, lists_over}
use Rattle.listings.proofs.list_over.Goals as goal

pub sift-requires : goal.sift-requires
sift-requires c =
    let p = c.requires in
    (closed-under (rw c.copy.ensures p.0) c.close.ensures, p.0.room)

pub returns : goal.returns
returns c =
    let p = c.requires in
    lists_over p.0 (rw c.copy.ensures at c.close.ensures) c.sift.ensures
