use mathlib.Core.Path.{sym, subst}
use Rattle.names_rules.specs.Names.{PlaceWithin}
use Rattle.names_rules.proofs.Places.{place_within}
use Rattle.names.proofs.name_in.Goals as goal

pub part_at-requires : goal.part_at-requires
part_at-requires c =
    let p = c.requires in
    subst (PlaceWithin _ _) (sym c.place_in.ensures) (place_within _ _ _ p.0.lawful p.1.lawful)
