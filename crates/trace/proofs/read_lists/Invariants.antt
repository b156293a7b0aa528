use Rattle.std.proofs.Common.{◌+◌, ◌-◌, length, sym, refl, ◌∙◌, true≢false, rules}
use Rattle.rules.specs.History.{op_count}
use Rattle.table.specs.Table.{history_of}
use Rattle.sessions.specs.Open.{Beside}
use Rattle.mixing.specs.Mixing.{Indexed}
use Rattle.trace.proofs.Going.{Listing, lists_mixed, listing-first, listing-over, listing_more, listing_less, listing_held, listing_mixed, listing_on}
use Rattle.trace.proofs.read_lists.Given as goal

abbrev pub invariant-loop-way : goal.invariant-loop-way
invariant-loop-way l =
    Listing l.s l.first l.after l.follow l.count l.initial.h l.at l.serial l.notes l.h × Beside l.second l.o (history_of l.h) × Indexed l.k (history_of l.h) (op_count (history_of l.h) + 1)

abbrev pub decreases-loop-way : goal.decreases-loop-way
decreases-loop-way l = length l.s - l.at
