use Rattle.table.proofs.Words.{op_has_tx}
use Rattle.reads.proofs.Fitting.{origin_has, origin_value, kind_is}
use Rattle.rules.proofs.Origin.{source_none, source_is}
use mathlib.Core.Path.{refl, sym, ◌∙◌}
use Rattle.reads.proofs.kind_of.Goals as goal

pub returns-then-w-eq0 : goal.returns-then-w-eq0
returns-then-w-eq0 c =
    c.unwritten_kind.ensures
    ∙ kind_is _ _ _ _ _ _ c.key_of.ensures c.value_of.ensures (sym c.if-w-eq0.true ∙ c.requires.2)
    (sym (source_none _ _ (sym c.requires.2 ∙ c.if-w-eq0.true)))

pub tx_of-u-requires : goal.tx_of-u-requires
tx_of-u-requires c =
    origin_has _ _ c.requires.1.held _ c.requires.2 c.if-w-eq0.false

pub own_kind-requires : goal.own_kind-requires
own_kind-requires c = (
  origin_has _ _ c.requires.1.held _ c.requires.2 c.if-w-eq0.false,
  λ e. origin_value _ _ (λ q. c.if-w-eq0.false (c.requires.2 ∙ q)) e,
)

pub returns-then-u-tx_of : goal.returns-then-u-tx_of
returns-then-u-tx_of c =
    c.own_kind.ensures
    ∙ kind_is _ _ _ _ _ _ c.key_of.ensures refl
    c.requires.2
    (sym c.tx_of.ensures.is ∙ sym c.if-u-tx_of.true ∙ c.tx_of-u.ensures.is ∙ source_is _ _ _ c.requires.2)

pub other_kind-requires : goal.other_kind-requires
other_kind-requires c =
    let w = origin_has _ _ c.requires.1.held _ c.requires.2 c.if-w-eq0.false in (
      c.requires.0,
      w,
      (λ e. origin_value _ _ (λ q. c.if-w-eq0.false (c.requires.2 ∙ q)) e),
      rw c.tx_of-u.ensures.is (op_has_tx _ _ w),
      λ e. c.if-u-tx_of.false (e ∙ sym c.tx_of.ensures.is),
    )

pub returns : goal.returns
returns c =
    c.other_kind.ensures
    ∙ kind_is _ _ _ _ _ _ c.key_of.ensures refl
    c.requires.2 (c.tx_of-u.ensures.is ∙ source_is _ _ _ c.requires.2)
