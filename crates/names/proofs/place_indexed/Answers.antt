use Rattle.names_rules.proofs.Loops.{index_of}
use Rattle.names_rules.proofs.Places.{both_lawful}
use Rattle.names.proofs.place_indexed.Goals as goal

pub index-n-requires : goal.index-n-requires
index-n-requires c = (both_lawful _ _ c.requires).0

pub index-m-requires : goal.index-m-requires
index-m-requires c = (both_lawful _ _ c.requires).1

pub invariant_of-place_in : goal.invariant_of-place_in
invariant_of-place_in c = record { lawful = index_of c.index-n.ensures (both_lawful _ _ c.requires).0 }

pub invariant_of-place_in-2 : goal.invariant_of-place_in-2
invariant_of-place_in-2 c = record { lawful = index_of c.index-m.ensures (both_lawful _ _ c.requires).1 }
