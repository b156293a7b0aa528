-- The numbers of the kinds of unclean reads.
use Rattle.std.specs.Prelude.{ℕ, Option, None, Some}
use Rattle.reads.specs.declared.Kind.{Kind}
use Rattle.reads.specs.declared.Kind.TheVariants.{ThinAir, Aborted, Future, NotMyLast, NotMyOwn, Intermediate}

abbrev pub number_of : Kind → ℕ
number_of ThinAir = 1
number_of Aborted = 2
number_of Future = 3
number_of NotMyLast = 4
number_of NotMyOwn = 5
number_of Intermediate = 6

-- a clean read has the number 0
abbrev pub number_in : Option Kind → ℕ
number_in None = 0
number_in (Some k) = number_of k
