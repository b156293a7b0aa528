use Rattle.sessions.proofs.Walks.{walk_start, walk_hit, walk_miss, walk_less, walk_end}
use native.Mathlib.Omega.{arith}
use mathlib.Core.Path.{sym, ◌∙◌}
use Rattle.sessions.proofs.open_of.Goals as goal

pub loop-t-init : goal.loop-t-init
loop-t-init c = rw c.bucket.ensures.is (walk_start _ _ c.requires.1)

pub returns-then-session_of-session : goal.returns-then-session_of-session
returns-then-session_of-session c =
    record {
      is = sym (walk_hit _ _ c.loop-t.invariant c.loop-t-test.true (sym c.session_of.ensures ∙ c.if-session_of-session.true));
      below = omega (arith, c.loop-t.invariant.within);
    }

-- a byte's place lies within the 256
pub loop-t-smaller : goal.loop-t-smaller
loop-t-smaller c =
    let p = c.requires in
    walk_less _ _ c.loop-t.invariant p.1 p.0.few c.loop-t-test.true

pub loop-t-preserved : goal.loop-t-preserved
loop-t-preserved c =
    let p = c.requires in
    walk_miss _ _ c.loop-t.invariant p.1 p.0.few c.loop-t-test.true (λ e. c.if-session_of-session.false (c.session_of.ensures ∙ e))

pub returns : goal.returns
returns c = record { is = sym (walk_end _ _ c.loop-t.invariant c.loop-t-test.false); below = omega arith }
