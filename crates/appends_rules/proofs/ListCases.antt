-- The cases of specs/ListCases.antt are answered as its table says.
use Rattle.std.specs.Prelude.{◌≡◌, refl, [], ◌++◌, map}
use Rattle.rules.specs.Outcome.{judged}
use Rattle.rules.specs.Traces.{room, read, rejects_in}
use Rattle.rules.proofs.Edges.{as_they_should}
use Rattle.appends_rules.specs.Appends.{is_list, key_of, append_of, appender_of, is_judged_list, value_at, values_at, lists_in}
use Rattle.appends_rules.specs.ListKinds.{begins, in_line, is_lost, same_element, is_again, is_undone, is_half_by, is_half, is_of, is_apart, list_kind_by, kind_with, clean_with, clean_below, list_kind, is_clean_list, is_list_finding, list_at, is_longer, longest_below, longest_of, is_longest}
use Rattle.appends_rules.specs.Dependencies.{joins, orders, is_write_dep, tells, is_read_dep, is_dep, dep_reasons, pairs_by, pairs_over, pair_with, write_pairs, dep_pairs}
use Rattle.appends_rules.specs.ListOutcome.{fault_by, fault_of, list_findings, list_finding_bytes, list_finding_list, write_dep_list, dep_list, both_lists, list_outcome, lists_told, told_lists, lists_of_read, judged_lists}
use Rattle.appends_rules.specs.ListCases.{opens_from, closes_from, append_table, append_found, both_sorts}

-- The line names all that is computed with here, besides what Edges names
unfoldable pub as_appended : map append_found append_table ≡ append_table
unfolding as_they_should opens_from closes_from is_list key_of append_of appender_of is_judged_list value_at values_at lists_in begins in_line is_lost same_element is_again is_undone is_half_by is_half is_of is_apart list_kind_by kind_with clean_with clean_below list_kind is_clean_list is_list_finding list_at is_longer longest_below longest_of is_longest joins orders is_write_dep tells is_read_dep is_dep dep_reasons pairs_by pairs_over pair_with write_pairs dep_pairs fault_by fault_of list_findings list_finding_bytes list_finding_list write_dep_list dep_list both_lists told_lists lists_of_read judged_lists
as_appended = refl

pub each_its_own : (judged both_sorts 3 (room 8) (room 2) (room 2) ≡ rejects_in 8 2 2 (read 2 4 1 0) [])
    × (judged_lists both_sorts (room 8) (room 2) ≡ list_outcome (lists_told 1 0 0) (read 2 6 7 0 ++ room 2) (room 2))
unfolding as_appended
each_its_own = (refl, refl)
