use native.Mathlib.Omega.{arith}
use Rattle.bits.proofs.Tables.{holds_self}
use Rattle.pairs.specs.Pairs.{read_bit}
use Rattle.pairs.proofs.Marking.{cell_on, cell_off}
use Rattle.pairs.proofs.Pairs.{byte_source, byte_row, byte_clean, byte_other}
use Rattle.pairs.proofs.mark_read.Goals as goal

pub set_bit-requires : goal.set_bit-requires
set_bit-requires c =
    let p = c.requires in
    (p.2, omega (arith, c.tx_of.ensures.below, p.0.settled.held.few), byte_row p.0 p.1 (byte_clean p.0 p.1 c.if-v-ge8.true))

pub returns-then-v-ge8 : goal.returns-then-v-ge8
unfolding read_bit
returns-then-v-ge8 c =
    let p = c.requires in
    let e = byte_clean p.0 p.1 c.if-v-ge8.true in
    cell_on _ _ _ _ _ e c.tx_of.ensures.is (omega (arith, byte_source p.0 p.1 e)) c.set_bit.ensures

pub returns-else-v-ge8 : goal.returns-else-v-ge8
unfolding read_bit
returns-else-v-ge8 c =
    let p = c.requires in
    cell_off _ _ _ (byte_other p.0 p.1 c.if-v-ge8.false) (holds_self _ p.2)
