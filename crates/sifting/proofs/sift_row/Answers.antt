use Rattle.sifting.proofs.Sifted.{row_sifted}
use Rattle.sifting.proofs.sift_row.Goals as goal

pub returns : goal.returns
returns c =
    let p = c.requires in
    λ o k. row_sifted _ c.led_to-lo.ensures c.led_to-hi.ensures o p.0 p.2 k
