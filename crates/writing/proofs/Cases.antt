-- The cases of specs/Cases.antt are written, and turned into steps, as its tables say.
use Rattle.std.specs.Prelude.{◌≡◌, refl, map}
use Rattle.rules.proofs.Edges.{as_they_should}
use Rattle.writing.specs.Filling.{into}
use Rattle.writing.specs.Steps.{step_of, step_at, steps_from, field_bytes, step_bytes}
use Rattle.writing.specs.Writing.{is_no_step, write_rows, write_no, end_no, follow, item_of, records_of, wrote, written, written_given}
use Rattle.writing.specs.Listing.{op_step, op_step_of, close_step, tx_steps, history_steps, steps_read, stepped}
use Rattle.writing.specs.Rewriting.{again, rewritten, rewritten_read, rewritten_whole}
use Rattle.writing.specs.Cases.{write_table, now_written, bounds, now_bound, list_table, now_listed, now_whole, given_table, now_given}

-- this statement carries along what it unfolds
unfoldable pub as_written : map now_written write_table ≡ write_table
unfolding as_they_should into step_of step_at steps_from field_bytes step_bytes is_no_step write_rows write_no end_no follow item_of records_of wrote written op_step op_step_of close_step tx_steps history_steps steps_read stepped again rewritten rewritten_read rewritten_whole written_given
as_written = refl

pub as_bound : map now_bound bounds ≡ bounds
unfolding as_written
as_bound = refl

pub as_listed : map now_listed list_table ≡ list_table
unfolding as_written
as_listed = refl

pub as_whole : map now_whole list_table ≡ list_table
unfolding as_written
as_whole = refl

pub as_given : map now_given given_table ≡ given_table
unfolding as_written
as_given = refl
