use Rattle.mixing.proofs.Walks.{walk_start, walk_hit, walk_miss, walk_less, walk_end}
use mathlib.Core.Path.{sym}
use Rattle.mixing.proofs.find.Goals as goal

pub loop-j-init : goal.loop-j-init
loop-j-init c =
    let p = c.requires in
    rw (c.bucket.ensures.is, c.key_of-x.ensures) (walk_start _ _ p.1 p.0.from)

pub returns-then-key_of-x : goal.returns-then-key_of-x
returns-then-key_of-x c =
    record {
      is =
          sym
          (walk_hit _ _ c.loop-j.invariant c.loop-j-test.true
          (rw (← c.key_of.ensures, ← c.key_of-x.ensures) c.if-key_of-x.true));
      below = c.loop-j.invariant.within;
    }

-- a link's place lies within the 1,153
pub loop-j-smaller : goal.loop-j-smaller
loop-j-smaller c =
    walk_less _ _ c.requires.1 c.loop-j.invariant c.loop-j-test.true

pub loop-j-preserved : goal.loop-j-preserved
loop-j-preserved c =
    walk_miss _ _ c.requires.1 c.loop-j.invariant c.loop-j-test.true
    (λ e. c.if-key_of-x.false (rw (c.key_of.ensures, c.key_of-x.ensures) e))

pub returns : goal.returns
returns c =
    record { is = sym (walk_end _ _ c.loop-j.invariant c.loop-j-test.false); below = c.requires.0.from }
