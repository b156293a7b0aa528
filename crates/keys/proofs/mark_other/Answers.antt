use mathlib.Core.Path.{ap, refl, ◌∙◌}
use Rattle.bits.proofs.Tables.{holds_self}
use Rattle.pairs.proofs.Marking.{cell_on, cell_off}
use Rattle.pairs.proofs.Pairs.{byte_clean, byte_other}
use Rattle.keys.specs.Keys.{key_read, shared_bit}
use Rattle.keys.proofs.Keys.{other_key, same_key, no_read}
use Rattle.keys.proofs.mark_other.Goals as goal

pub returns-then-k-i-lt8 : goal.returns-then-k-i-lt8
unfolding shared_bit
returns-then-k-i-lt8 c =
    let p = c.requires in
    cell_off _ _ _ (no_read _ _ (byte_other p.0 p.1 c.if-k-i-lt8.true)) (holds_self _ p.3)

pub returns-then-r-b : goal.returns-then-r-b
unfolding shared_bit
returns-then-r-b c =
    let p = c.requires in
    let b = c.bucket_of-b.ensures in
    let t = byte_clean p.0 p.1 c.if-k-i-lt8.false in
    let o = other_key _ _ t (p.2.is _ b.1 ∙ ap (key_read _) b.0) c.key_of.ensures c.if-r-b.true in
    cell_on _ _ _ _ _ o b.0 refl c.set_bit.ensures

pub returns-else-r-b : goal.returns-else-r-b
unfolding shared_bit
returns-else-r-b c =
    let p = c.requires in
    let b = c.bucket_of-b.ensures in
    cell_off _ _ _ (same_key _ _ (p.2.is _ b.1 ∙ ap (key_read _) b.0) c.key_of.ensures c.if-r-b.false) (holds_self _ p.3)
