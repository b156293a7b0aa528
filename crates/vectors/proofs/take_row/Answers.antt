use native.Mathlib.Omega.{arith}
use Rattle.vectors.specs.Vectors.{column_of}
use Rattle.vectors.proofs.Taking.{sources, taken_row}
use Rattle.vectors.proofs.take_row.Goals as goal

pub gather-requires : goal.gather-requires
gather-requires c = sources c.requires

-- t's column

pub note-requires : goal.note-requires
unfolding column_of
note-requires c =
    let l = c.requires.columns.few c.args.t c.requires.here in
    (c.gather.ensures.room, c.requires.here, omega (arith, l, c.requires.columns.wide), c.requires.here)

pub returns : goal.returns
unfolding column_of
returns c =
    taken_row c.requires c.gather.ensures c.note.ensures
