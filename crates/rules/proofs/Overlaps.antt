-- The cases of specs/Overlaps.antt are read as its tables say.
use Rattle.std.specs.Prelude.{◌≡◌, refl, map}
use Rattle.rules.proofs.Edges.{as_they_should}
use Rattle.rules.specs.Overlaps.{overlap_table, overlap_read, second_limits, second_tested}

pub overlaps_as_they_should : map overlap_read overlap_table ≡ overlap_table
unfolding as_they_should
overlaps_as_they_should = refl

pub second-limits_as_they_should : map second_tested second_limits ≡ second_limits
unfolding as_they_should
second-limits_as_they_should = refl
