use Rattle.text.specs.Lines.{field}
use Rattle.show.proofs.Laws.{put_then}
use Rattle.show.proofs.put_field.Goals as goal

pub returns : goal.returns
unfolding field
returns c = put_then c.put_byte-to.ensures c.put_number.ensures
