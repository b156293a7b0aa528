use mathlib.Core.Path.{sym, ◌∙◌}
use native.Mathlib.Omega.{arith}
use Rattle.names.proofs.Halving.{has_key, has_none}
use Rattle.names.proofs.Indexed.record_of.Goals as goal
use Rattle.names.proofs.Indexed.record_of.Goals.{else-i-self-via-then-i-self+else-key_of-key, else-i-self-via-else-i-self}

pub returns-then-key_of-key : goal.returns-then-key_of-key
returns-then-key_of-key c = c.from.ensures ∙ has_key c.args.self.now.lawful c.less_before-i.ensures c.if-i-self.true (sym c.key_of.ensures ∙ c.if-key_of-key.true)

pub returns : goal.returns
returns c =
    has_none c.args.self.now.lawful c.less_before-i.ensures
    (elim c.else-i-self.branch [
      | else-i-self-via-then-i-self+else-key_of-key w ↦ λ l q. w.if-key_of-key.false (w.key_of.ensures ∙ q)
      | else-i-self-via-else-i-self w ↦ λ l q. omega (arith, w.if-i-self.false)
    ])
