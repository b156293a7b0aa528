use Rattle.std.proofs.Common.{sym, ◌∙◌}
use Rattle.blocks.proofs.Blocks.{op_write, op-read}
use Rattle.blocks.proofs.op_step.Goals as goal

pub returns-then-is_write : goal.returns-then-is_write
returns-then-is_write c =
    rw (c.value_of-value.ensures, c.key_of-key.ensures) (sym (op_write _ (sym c.is_write.ensures ∙ c.if-is_write.true)))

pub returns : goal.returns
returns c =
    rw (c.value_of-value.ensures, c.key_of-key.ensures) (sym (op-read _ (sym c.is_write.ensures ∙ c.if-is_write.false)))
