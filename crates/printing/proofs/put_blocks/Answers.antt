use Rattle.show.proofs.Laws.{put_then}
use Rattle.printing.proofs.put_blocks.Goals as goal

pub returns : goal.returns
returns c =
    put_then c.put_block-first.ensures (put_then c.put_block-second.ensures c.put_block.ensures)
