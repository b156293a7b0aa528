use mathlib.Core.Path.{sym, ◌∙◌}
use native.Mathlib.Omega.{arith}
use Rattle.base.proofs.Tests.{denied, granted}
use Rattle.pairs.proofs.Pairs.{byte_clean, byte_row}
use Rattle.rivals.proofs.Hits.{other_untried, source_untried, settled_untried, tried, not_tried, not_writer, candidate, bucket_bit, wrote-zero, from_none, from_read, from_last}
use mathlib.Core.Path.{ap}
use mathlib.Core.Bool.{not}
use Rattle.rivals.proofs.Sight.writes_to_try.Goals as goal

pub returns-then-s-lt8 : goal.returns-then-s-lt8
returns-then-s-lt8 c =
    sym (from_none _ _ _ _ (not_tried _ _ _ _ (other_untried c.args.self.now.ready c.requires.1 _ _ c.if-s-lt8.true)))

pub returns-then-s-t2 : goal.returns-then-s-t2
returns-then-s-t2 c =
    sym (from_none _ _ _ _ (not_tried _ _ _ _ (source_untried c.args.self.now.ready c.requires.1 _ _ c.if-s-lt8.false c.if-s-t2.true)))

pub bit-requires : goal.bit-requires
bit-requires c =
    let few = c.args.self.now.ready.settled.held.few in
    let row = byte_row c.args.self.now.ready c.requires.1 (byte_clean c.args.self.now.ready c.requires.1 c.if-s-lt8.false) in
    (c.requires.0, omega (arith, c.requires.2), omega (arith, c.requires.2))

pub returns-then-bit : goal.returns-then-bit
returns-then-bit c =
    let s = sym c.bit.ensures ∙ c.if-bit.true in
    sym (from_none _ _ _ _ (not_tried _ _ _ _ (settled_untried c.args.self.now.ready c.requires.1 _ _ c.if-s-lt8.false s)))

pub returns-then-t2-eq0 : goal.returns-then-t2-eq0
returns-then-t2-eq0 c =
    let s = sym c.bit.ensures ∙ c.if-bit.false in
    let t = tried c.args.self.now.ready c.requires.1 _ _ c.if-s-lt8.false c.if-s-t2.false s in
    sym (from_read _ _ _ _ (candidate _ _ _ _ t (wrote-zero _ _ _ c.if-t2-eq0.true)) c.if-t2-eq0.true)

pub returns-then-not-bit : goal.returns-then-not-bit
returns-then-not-bit c =
    let b = c.bucket_of.ensures in
    let w = bucket_bit _ _ c.args.self.now.writers b.0 b.1 _ c.if-t2-eq0.false (omega (arith, c.requires.2, c.args.self.now.ready.settled.held.few)) c.bit-2.ensures in
    sym (from_none _ _ _ _ (not_writer _ _ _ _ (denied w (ap not c.if-not-bit.true))))

pub returns : goal.returns
returns c =
    let b = c.bucket_of.ensures in
    let n = c.if-t2-eq0.false in
    let w = bucket_bit _ _ c.args.self.now.writers b.0 b.1 _ n (omega (arith, c.requires.2, c.args.self.now.ready.settled.held.few)) c.bit-2.ensures in
    let s = sym c.bit.ensures ∙ c.if-bit.false in
    let t = tried c.args.self.now.ready c.requires.1 _ _ c.if-s-lt8.false c.if-s-t2.false s in
    let g = candidate _ _ _ _ t (granted w (ap not c.if-not-bit.false)) in
    c.last_op.ensures.is ∙ sym (from_last _ _ _ _ g n)
