-- The test that the reading makes for each check: together the rows of `refusal_no`.
use Rattle.std.specs.Prelude.{ℕ, ◌+◌, Bool, List, length, ltb}
use Rattle.rules.specs.Records.{is_second, breaks, is_unknown, is_misfit, is_late, is_other_edition}
use Rattle.rules.specs.Reading.{State, event_in, met, misplaced, unlawful, excess, repeats, mixes}
use Rattle.demand1.specs.Rows.{len, kind, number, edition, behind, Check, lengthField, lengthLow, bytesThere, serialFollows, kindKnown, lengthFits, editionFirst, editionIs2, inPlace, valueLawful, withinLimit, newWrite, oneSort}

abbrev pub test : List ℕ → State → Check → Bool
test s st lengthField = ltb (length s) (st.at + 2)
test s st lengthLow = ltb (len s st.at) 6
test s st bytesThere = ltb (length s) (behind s st.at)
test s st serialFollows = breaks s st.at st.serial
test s st kindKnown = is_unknown (is_second s) (kind s st.at)
test s st lengthFits = is_misfit (is_second s) (kind s st.at) (len s st.at) (number s st.at)
test s st editionFirst = is_late (kind s st.at) st.at
test s st editionIs2 = is_other_edition (kind s st.at) (edition s st.at)
test s st inPlace = misplaced (met s st) (event_in s st)
test s st valueLawful = unlawful st.history (event_in s st)
test s st withinLimit = excess st.history (event_in s st)
test s st newWrite = repeats st.history (event_in s st)
test s st oneSort = mixes st.history (event_in s st)
