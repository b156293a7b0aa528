use mathlib.Core.Path.{sym, ◌∙◌}
use Rattle.bits.proofs.Tables.{holds_self}
use Rattle.pairs.proofs.Marking.{cell_on, cell_off}
use Rattle.keys.specs.Keys.{write_bit}
use Rattle.keys.proofs.enter_write.Goals as goal

pub returns-then-is_entered : goal.returns-then-is_entered
unfolding write_bit
returns-then-is_entered c =
    let e = sym c.is_entered.ensures ∙ c.if-is_entered.true in
    cell_on _ _ _ _ _ e c.bucket_of.ensures.0 c.tx_of.ensures.is c.set_bit.ensures

pub returns-else-is_entered : goal.returns-else-is_entered
unfolding write_bit
returns-else-is_entered c =
    cell_off _ _ _ (sym c.is_entered.ensures ∙ c.if-is_entered.false) (holds_self _ c.requires.2.room)
