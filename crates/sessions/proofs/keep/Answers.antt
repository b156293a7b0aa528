use Rattle.sessions.specs.Open.{session_bucket}
use Rattle.sessions.proofs.Taken.{kept_same, kept_more, kept_less}
use native.Mathlib.Omega.{arith}
use mathlib.Core.Path.{sym, ◌∙◌}
use Rattle.table.specs.Table.{history_of}
use Rattle.sessions.proofs.keep.Goals as goal

pub returns-then-is_open : goal.returns-then-is_open
returns-then-is_open c =
    sym (kept_same _ _ _ _ _ (c.requires.5 c.if-t-gt0.true) (λ l. sym c.is_open.ensures ∙ c.if-is_open.true))

pub returns-then-t-gt0 : goal.returns-then-t-gt0
returns-then-t-gt0 c =
    let t = c.if-t-gt0.true in
    c.leave.ensures
    ∙ sym (kept_less _ _ _ _ _ (c.requires.5 t) (λ z. omega (arith, t, z)) (sym c.is_open.ensures ∙ c.if-is_open.false))

pub returns-then-m-n : goal.returns-then-m-n
returns-then-m-n c =
    let z = c.if-t-gt0.false in
    sym (kept_same _ _ _ _ _ (sym c.txs-m.ensures ∙ c.if-m-n.true) (λ l. absurd (omega arith)))

pub returns : goal.returns
unfolding session_bucket
returns c =
    let a = c.args in
    let n = c.txs-m.ensures in
    rw (kept_more a.o.now a.n a.t a.p (history_of a.h.now) (λ e. c.if-m-n.false (n ∙ e)), ← n, ← c.session_of.ensures, ← c.bucket.ensures.is) c.enter.ensures
