use borrow.Author.Rules.{rules}
use native.Mathlib.Omega.{arith}
use Rattle.bits.proofs.Words.{minus_not}
use Rattle.bits.proofs.Tables.{bit_dropped}
use Rattle.bits.proofs.drop_bit.Goals as goal

pub returns : goal.returns
returns c =
    let s = c.args in
    bit_dropped s.t.now s.a s.b c.requires.0 c.requires.1 c.requires.2 (minus_not _ _ (search rules) (omega arith))
