-- The cases of specs/Cases.antt are decided as its tables say.
use Rattle.std.specs.Prelude.{◌≡◌, refl, map}
use Rattle.rules.proofs.Edges.{as_they_should}
use Rattle.deciding.specs.Deciding.{decision_no, decision_of, five_bytes, count_bytes, whole_counts, whole_put, counts_put, decided_by, decided, strongest_no, accepted_read, is_accepted_at, strongest}
use Rattle.deciding.specs.Cases.{decide_table, now_decided, strongest_table, now_strongest}

-- this statement carries along what it unfolds
unfoldable pub as_decided : map now_decided decide_table ≡ decide_table
unfolding as_they_should decision_no decision_of five_bytes count_bytes whole_counts whole_put counts_put decided_by decided strongest_no accepted_read is_accepted_at strongest
as_decided = refl

pub as_strongest : map now_strongest strongest_table ≡ strongest_table
unfolding as_decided
as_strongest = refl
