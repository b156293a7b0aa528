use Rattle.writing.specs.Forms.{preamble}
use Rattle.blocks.proofs.Blocks.{put-none}
use borrow.Author.Rules.{rules}
use Rattle.mover.proofs.put_preamble.Goals as goal

pub put_before-requires : goal.put_before-requires
unfolding preamble
put_before-requires c = rw c.if-second.true at c.requires

pub shape_of-out-then-second : goal.shape_of-out-then-second
unfolding preamble
shape_of-out-then-second c = search rules

pub returns-then-second : goal.returns-then-second
unfolding preamble
returns-then-second c = rw c.if-second.true c.put_before.ensures

pub returns : goal.returns
unfolding preamble
returns c = rw c.if-second.false (put-none c.requires.within)
