use mathlib.Core.Path.{ap, ◌∙◌}
use Rattle.names_rules.specs.Names.{files_told}
use Rattle.names_rules.proofs.Places.{nowhere, in_lawful}
use Rattle.names.proofs.place_of.Goals as goal

pub returns-in-Err : goal.returns-in-Err
returns-in-Err c = nowhere _ _ _ c.check_both.ensures (ap files_told c.in-Err.is)

pub returns-in-Ok : goal.returns-in-Ok
returns-in-Ok c = c.place_indexed.ensures ∙ in_lawful _ _ _ c.check_both.ensures (ap files_told c.in-Ok.is)
