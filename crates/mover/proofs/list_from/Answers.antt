use Prim.Native.Nat.{ℕ, ◌+◌}
use mathlib.Core.Path.{◌≡◌, sym, ◌∙◌}
use native.Mathlib.Omega.{arith}
use Rattle.moving.proofs.Lists.{seek_start, seek_hit, seek_on, seek_end}
use Rattle.mover.proofs.list_from.Goals as goal

-- the next record's offset, as the code adds it up
next_at : (at n m : ℕ) → n ≡ m → at + (2 + n) ≡ at + 2 + m
next_at at n m e = omega arith

pub loop-at-init : goal.loop-at-init
loop-at-init c = (seek_start _, omega arith)

pub returns-then-is_list_kind : goal.returns-then-is_list_kind
returns-then-is_list_kind c =
    sym (seek_hit _ c.loop-at.invariant.0 c.loop-at-test.true (rw (← c.u16_at.ensures) (sym c.is_list_kind.ensures ∙ c.if-is_list_kind.true)))

pub loop-at-preserved : goal.loop-at-preserved
loop-at-preserved c = (
  rw (next_at c.loop-at.at _ _ (c.from.ensures ∙ c.u16_at-in-loop-at.ensures)) (seek_on _ c.loop-at.invariant.0 c.loop-at-test.true (rw (← c.u16_at.ensures) (sym c.is_list_kind.ensures ∙ c.if-is_list_kind.false))),
  omega (arith, c.loop-at-test.true),
)

pub returns : goal.returns
returns c = sym (seek_end _ c.loop-at.invariant.0 (omega (arith, c.loop-at-test.false)))
