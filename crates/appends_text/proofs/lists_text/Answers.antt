use mathlib.Core.Path.{◌∙◌}
use native.Mathlib.Omega.{arith}
use Rattle.show.proofs.Laws.{front-is}
use Rattle.appends_text.proofs.Told.{text-room}
use Rattle.appends_text.proofs.lists_text.Goals as goal

pub front-requires : goal.front-requires
front-requires c = let put = c.put_text-end.ensures in (omega arith, omega (arith, text-room _ put (omega arith)))

pub returns : goal.returns
returns c =
    let put = c.put_text-end.ensures in
    let front = c.front.ensures in
    (front.0 ∙ front-is put (text-room _ put (omega arith)), front.1)
