use Rattle.blocks.proofs.Blocks.{event-fits, event-room, event-put}
use Rattle.std.proofs.Common.{refl}
use Rattle.blocks.proofs.put_before.Goals as goal

pub overflow_sub-at : goal.overflow_sub-at
overflow_sub-at c = event-fits c.requires c.event_length.ensures

pub put_event-requires : goal.put_event-requires
put_event-requires c =
    event-room c.requires c.event_length.ensures _

pub returns : goal.returns
returns c =
    event-put c.requires c.event_length.ensures refl c.put_event.ensures
