-- In the cases of specs/Unanswered.antt those count that its table says.
use Rattle.std.specs.Prelude.{◌≡◌, refl, map}
use Rattle.rules.proofs.Edges.{as_they_should}
use Rattle.rules.specs.Unanswered.{count_table, who_counts, counted_so}

pub as_counted : map counted_so count_table ≡ count_table
unfolding as_they_should who_counts
as_counted = refl
