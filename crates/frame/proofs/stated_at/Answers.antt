use Rattle.frame.proofs.Frames.{payload_length}
use borrow.Author.Rules.{rules}
use Rattle.frame.proofs.stated_at.Goals as goal

pub payload_at-requires : goal.payload_at-requires
payload_at-requires c = let p = c.requires in (p.six, p.room)

pub stated_of-requires : goal.stated_of-requires
stated_of-requires c =
    rw (c.u16_at.ensures, c.payload_at.ensures, payload_length c.args.s.now c.args.at c.requires.six c.requires.room) c.requires.long

pub returns : goal.returns
returns c = rw (← c.payload_at.ensures, ← c.u16_at.ensures) c.stated_of.ensures
