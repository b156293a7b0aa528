-- The cases of specs/Cases.antt are moved, counted and numbered as its tables say.
use Rattle.std.specs.Prelude.{◌≡◌, refl, false, [], ◌∷◌, map}
use Rattle.theory.specs.Order.{place}
use Rattle.rules.specs.Traces.{room}
use Rattle.rules.proofs.Edges.{as_they_should}
use Rattle.rules.specs.Cases.{found}
use Rattle.writing.specs.Forms.{item_with, form_bytes, formed, tx_block, blocks_of, preamble, whole_of}
use Rattle.writing.specs.Cases.{filled_in}
use Rattle.writing.proofs.Cases.{as_written}
use Rattle.moving.specs.Moving.{is_same, moved_trace, is_list_kind, list_from, first_list, moved_read, moved_to}
use Rattle.moving.specs.Tally.{with_notes, moved_to_second}
use Rattle.moving.specs.Renumbering.{is_op_of, numbers_of, in_blocks, new_number, old_number, as_blocks}
use Rattle.moving.specs.Cases.{move_table, now_moved, tally_table, now_tallied, interleaved, unclean_bytes, unclean_blocks, judged_table}

-- this statement carries along what it unfolds
unfoldable pub as_moved : map now_moved move_table ≡ move_table
unfolding as_written item_with form_bytes formed tx_block blocks_of preamble whole_of is_same moved_trace is_list_kind list_from first_list moved_read moved_to place is_op_of numbers_of in_blocks new_number old_number as_blocks
as_moved = refl

pub as_tallied : map now_tallied tally_table ≡ tally_table
unfolding as_moved with_notes moved_to_second
as_tallied = refl

pub as_renumbered : map (new_number interleaved) (0 ∷ 1 ∷ 2 ∷ 3 ∷ 4 ∷ 5 ∷ []) ≡ 0 ∷ 3 ∷ 1 ∷ 4 ∷ 5 ∷ 2 ∷ []
unfolding as_moved
as_renumbered = refl

pub as_numbered : map (old_number interleaved) (0 ∷ 1 ∷ 2 ∷ 3 ∷ 4 ∷ 5 ∷ []) ≡ 0 ∷ 2 ∷ 5 ∷ 1 ∷ 3 ∷ 4 ∷ []
unfolding as_moved
as_numbered = refl

pub as_blocks_lem : moved_to false unclean_bytes (room 250) ≡ filled_in 250 unclean_blocks
unfolding as_moved
as_blocks_lem = refl

pub as_judged : map found judged_table ≡ judged_table
unfolding as_they_should
as_judged = refl
