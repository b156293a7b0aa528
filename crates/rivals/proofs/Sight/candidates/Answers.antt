use native.Mathlib.Omega.{arith}
use Rattle.pairs.proofs.Pairs.{byte_clean, byte_row}
use Rattle.rivals.proofs.Sifting.{candidates_none, candidates_are}
use Rattle.rivals.proofs.Sight.candidates.Goals as goal

pub returns-then-s-lt8 : goal.returns-then-s-lt8
returns-then-s-lt8 c = candidates_none c.args.self.now.ready c.requires.1 _ _ _ c.if-s-lt8.true

pub bounds-v-t1 : goal.bounds-v-t1
bounds-v-t1 c =
    omega (arith, c.requires.0, c.requires.2, byte_row c.args.self.now.ready c.requires.1 (byte_clean c.args.self.now.ready c.requires.1 c.if-s-lt8.false))

pub returns : goal.returns
returns c =
    let b = c.bucket_of.ensures in
    candidates_are c.args.self.now.ready c.requires.1 _ _ _ c.args.self.now.writers c.requires.2 c.if-s-lt8.false b.0 b.1 c.own_bit.ensures
    c.own_bit-2.ensures c.without.ensures
