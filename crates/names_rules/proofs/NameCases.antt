-- The files and look-ups of specs/NameCases.antt come out as its tables say.
use Rattle.std.specs.Prelude.{◌≡◌, refl, [], ◌∷◌, map, replicate, Err}
use Rattle.base.specs.Base.{◌or◌, pick, some_of, some, first_fit}
use Rattle.rules.specs.Numbers.{le, bytes}
use Rattle.rules.specs.Traces.{raw}
use Rattle.names_rules.specs.Names.{is_odd, name_rows, name_no, check_from, checked, offsets_from, offsets, with_key, record_with, refusal_of, place_in, unless_refused, bytes_at}
use Rattle.rules.specs.Refusals.{declined}
use Rattle.names_rules.specs.NameCases.{files, file_found, three, lookups, look_found}

-- The line names all that is computed with here
unfoldable pub files_as_they_should : map file_found files ≡ files
unfolding le bytes raw is_odd name_rows name_no check_from checked offsets_from offsets with_key record_with refusal_of place_in unless_refused bytes_at ◌or◌ pick some_of some first_fit
files_as_they_should = refl

-- row 2: one byte too many, whatever they are; at the limit the first record decides
pub too_long_as_it_should : checked (replicate 32769 0) ≡ Err (declined 2 32768)
unfolding files_as_they_should
too_long_as_it_should = refl

pub at_the_limit_as_it_should : checked (replicate 32768 0) ≡ Err (declined 4 0)
unfolding files_as_they_should
at_the_limit_as_it_should = refl

pub lookups_as_they_should : map look_found lookups ≡ lookups
unfolding files_as_they_should
lookups_as_they_should = refl

pub offsets_as_they_should : offsets three ≡ 0 ∷ 9 ∷ 19 ∷ []
unfolding files_as_they_should
offsets_as_they_should = refl
