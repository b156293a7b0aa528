-- The edge cases of specs/Edges.antt come out as its tables say.
use Rattle.std.specs.Prelude.{◌≡◌, refl, [], ◌∷◌, map}
use Rattle.base.specs.Base.{◌and◌, ◌or◌, pick, some_of, first_of, count_of, list_of, some, first, count, listed, those, last, joined, numbered, first_fit}
use Rattle.theory.specs.Leads.{via, is_listed}
use Rattle.theory.specs.Reached.{reach}
use Rattle.theory.specs.Order.{mem, misses, ready, is_unplaced, unplaced, next, fill, rest}
use Rattle.rules.specs.Numbers.{le, bytes, over}
use Rattle.rules.specs.History.{tx, op, is_open, current, is_open_of, open_of, any_open, writes_value, write_of, origin_of, source_of, says_committed, is_unanswered, takes_from, vouches, committed, is_other_sort, clashes, mixes_key, opened, closed, with_op}
use Rattle.rules.specs.Records.{is_second, is_append, is_list_read, list_place, event_of, event_at, breaks, is_unknown, is_misfit, is_late, is_other_edition, frame_rows}
use Rattle.rules.specs.Reading.{misplaced, unlawful, excess, repeats, step_rows, mixes, mix_rows, entered, is_end, notes_behind, met_by, met_in, met, refusal_no, after, notes_of, finished, walk, reading}
use Rattle.rules.specs.Reads.{writes_at, wrote_between, kind_by, kind_of, is_judged, is_finding, is_external, reads_from}
use Rattle.rules.specs.Levels.{is_start, is_session, is_read, basic, leads, writes_key, sees, settles, is_rival, forced, reasons}
use Rattle.rules.specs.Outcome.{findings, finding_bytes, pairs_of, pairs, pair_bytes, order, finding_list, pair_list, is_empty, is_accepted, acceptance, rejection, judged_read, is_level, judged}
use Rattle.rules.specs.Traces.{raw, record_of, trace}
use Rattle.rules.specs.Edges.{edge_table, edge_found, note_table, notes_found, limits, tested, read_back}

-- The line names all that an outcome or a number of notes is computed with. To unfold this statement is to unfold them: the other statements, here and in Cases, do so
unfoldable pub as_they_should : map edge_found edge_table ≡ edge_table
unfolding le bytes over raw record_of trace tx op is_open current is_open_of open_of any_open writes_value write_of says_committed is_unanswered takes_from vouches committed is_other_sort clashes mixes_key opened closed with_op is_second is_append is_list_read list_place event_of event_at breaks is_unknown is_misfit is_late is_other_edition frame_rows misplaced unlawful excess repeats step_rows mixes mix_rows entered is_end notes_behind met_by met_in met refusal_no after notes_of finished walk reading writes_at wrote_between origin_of source_of kind_by kind_of is_judged is_finding is_external reads_from is_start is_session is_read basic leads writes_key sees settles is_rival forced reasons findings finding_bytes pairs_of pairs pair_bytes order finding_list pair_list is_empty is_accepted acceptance rejection judged_read is_level judged via is_listed reach mem misses ready is_unplaced unplaced next fill rest ◌and◌ ◌or◌ pick some_of first_of count_of list_of some first count listed those last joined numbered first_fit
as_they_should = refl

pub notes_as_they_should : map notes_found note_table ≡ note_table
unfolding as_they_should
notes_as_they_should = refl

pub limits_as_they_should : map tested limits ≡ limits
unfolding as_they_should
limits_as_they_should = refl

-- each number's low byte first
pub spelt_as_they_should : finding_bytes (read_back 257 256) 258 ≡ 1 ∷ 4 ∷ 2 ∷ 1 ∷ 0 ∷ 1 ∷ []
unfolding as_they_should
spelt_as_they_should = refl
