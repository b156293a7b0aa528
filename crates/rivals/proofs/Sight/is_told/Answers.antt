use mathlib.Core.Path.{sym}
use Rattle.pairs.proofs.Pairs.{byte_clean, byte_other}
use Rattle.rivals.proofs.Hits.{bucket_shared}
use Rattle.rivals.proofs.Rivals.{one_untold, other_untold, told-by}
use Rattle.rivals.proofs.Sight.is_told.Goals as goal

pub returns-then-self-eq1 : goal.returns-then-self-eq1
returns-then-self-eq1 c = sym (one_untold _ _ _ c.if-self-eq1.true)

pub returns-then-self-i-lt8 : goal.returns-then-self-i-lt8
returns-then-self-i-lt8 c =
    sym (other_untold _ _ _ (byte_other c.args.self.now.ready c.requires c.if-self-i-lt8.true))

pub returns : goal.returns
returns c =
    let b = c.bucket_of.ensures in
    told-by _ _ _ c.if-self-eq1.false (byte_clean c.args.self.now.ready c.requires c.if-self-i-lt8.false)
    (bucket_shared _ _ c.args.self.now.writers b.0 b.1 c.bit.ensures)
