use mathlib.Core.Path.{sym, subst}
use Rattle.names_rules.specs.Names.{PlaceWithin}
use Rattle.names_rules.proofs.Places.{any_within}
use Rattle.names.proofs.Parts.{handed_as}
use Rattle.names.proofs.name.Goals as goal

pub part_at-requires : goal.part_at-requires
part_at-requires c = subst (PlaceWithin _ _) (sym c.place_of.ensures) (any_within _ _ _)

pub returns : goal.returns
returns c = handed_as _ _ _ _ c.place_of.ensures c.part_at.ensures
