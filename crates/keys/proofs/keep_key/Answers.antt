use Rattle.pairs.proofs.Pairs.{byte_clean, byte_other}
use Rattle.keys.proofs.Keys.{keys_on, keys_off}
use Rattle.keys.proofs.keep_key.Goals as goal

pub returns-then-k-i-ge8 : goal.returns-then-k-i-ge8
returns-then-k-i-ge8 c =
    let p = c.requires in
    let b = c.bucket_of.ensures in
    λ o w. keys_on _ _ w (byte_clean p.0 p.1 c.if-k-i-ge8.true) b.0 b.1 p.2 c.key_of.ensures

pub returns-else-k-i-ge8 : goal.returns-else-k-i-ge8
returns-else-k-i-ge8 c =
    let p = c.requires in
    λ o w. keys_off _ _ w (byte_other p.0 p.1 c.if-k-i-ge8.false)
