use mathlib.Core.Path.{sym, ap, ◌∙◌}
use borrow.Author.Tests.{eq-eqb}
use Rattle.base.proofs.Tests.{denied, granted}
use Rattle.keys.specs.Keys.{key_read, is_shared}
use Rattle.keys.proofs.Keys.{no_write, key-read, by_bucket}
use mathlib.Core.Bool.{not}
use Rattle.keys.proofs.is_entered.Goals as goal

pub returns-then-not-is_write : goal.returns-then-not-is_write
returns-then-not-is_write c = sym (no_write _ _ (denied c.is_write.ensures (ap not c.if-not-is_write.true)))

pub returns-then-r-b : goal.returns-then-r-b
returns-then-r-b c =
    let b = c.bucket_of-b.ensures in
    let p = c.requires in
    let w = granted c.is_write.ensures (ap not c.if-not-is_write.false) in
    eq-eqb _ _ c.if-r-b.true ∙ sym (key-read _ _ w (p.1.is _ b.1 ∙ ap (key_read _) b.0) c.key_of.ensures c.if-r-b.true)

pub returns-else-r-b : goal.returns-else-r-b
returns-else-r-b c =
    let b = c.bucket_of-b.ensures in
    let p = c.requires in
    let w = granted c.is_write.ensures (ap not c.if-not-is_write.false) in
    c.bit.ensures ∙ p.2.is _ b.1 ∙ ap (is_shared _) b.0
    ∙ sym (by_bucket _ _ w (p.1.is _ b.1 ∙ ap (key_read _) b.0) c.key_of.ensures c.if-r-b.false)
