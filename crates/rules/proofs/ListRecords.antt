-- The cases of specs/ListRecords.antt are read as its tables say.
use Rattle.std.specs.Prelude.{◌≡◌, refl, map}
use Rattle.base.specs.Base.{joined}
use Rattle.rules.proofs.Edges.{as_they_should}
use Rattle.rules.specs.Overlaps.{overlap_read, second_tested}
use Rattle.rules.specs.ListRecords.{list_record_table, list_limits}

pub list_records_as_they_should : map overlap_read list_record_table ≡ list_record_table
unfolding as_they_should joined
list_records_as_they_should = refl

pub list_limits_as_they_should : map second_tested list_limits ≡ list_limits
unfolding as_they_should joined
list_limits_as_they_should = refl
